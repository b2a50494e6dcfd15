-- What is left of a part of a list.
use Rattle.std.proofs.Common.{◌≡◌, ℕ, ◌+◌, List, take, drop, sym, ap, ◌∙◌}
use Rattle.std.specs.List.{between}
use Rattle.std.proofs.lemmas.List.{drop-drop}
use Rattle.std.proofs.lemmas.Slice.{between_is}

pub drop_between : (xs : List ℕ) (a b n : ℕ) → drop n (between a b xs) ≡ between (a + n) b xs
drop_between xs a b n = ap (drop n) (between_is xs a b) ∙ drop-drop n a (take b xs) ∙ sym (between_is xs (a + n) b)
