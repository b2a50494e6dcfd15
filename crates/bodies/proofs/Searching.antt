-- The first entry that names what does not exist, as a search of the names.
use Rattle.std.proofs.Common.{◌≡◌, ℕ, List, [], ◌∷◌, map, leb, refl, rules, tests}
use Rattle.std.specs.List.{find}
use Rattle.bodies.specs.Bodies.{Entry, missing}

pub missing_found : (n : ℕ) (es : List Entry) → find (λ k. leb n k) (map (λ e. e.name) es) ≡ missing n es
missing_found n [] = refl
missing_found n (e ∷ es) = search (rules, tests, missing_found n es)
