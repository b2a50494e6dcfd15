-- The record at the front of bytes.
use Rattle.std.proofs.Common.{◌≡◌, ℕ, ◌+◌, ◌<◌, ◌≤◌, Bool, true, false, cond, leb, List, [], ◌∷◌, length, get_or, take, drop, Some, None, Option, sym, refl, ap, ◌∙◌, arith}
use Rattle.std.proofs.lemmas.List.{length-take-le}
use Rattle.std.proofs.lemmas.Bool.{leb-true, leb-false}
use Rattle.blocks.specs.Layout.{word}
use Rattle.blocks.specs.Records.{front, head_size}

-- a whole record at the front
pub record Fits (bs : List ℕ) (l : ℕ) (b : List ℕ) : Type 0 where
  pub letter : l ≡ get_or bs 0 0
  pub size : length b ≡ word (get_or bs 1 0) (get_or bs 2 0)
  pub body : b ≡ take (length b) (drop head_size bs)
  pub inside : head_size + length b ≤ length bs

pub fits : (bs : List ℕ) (letter : ℕ) (body : List ℕ) → Some (letter, body) ≡ front bs → Fits bs letter body
fits [] l b e = absurd (let no : ◌≡◌ {A = ℕ} 0 1 = cc in omega arith)
fits (x ∷ []) l b e = absurd (let no : ◌≡◌ {A = ℕ} 0 1 = cc in omega arith)
fits (x ∷ y ∷ []) l b e = absurd (let no : ◌≡◌ {A = ℕ} 0 1 = cc in omega arith)
fits (x ∷ y ∷ z ∷ rest) l b e = go (leb (word y z) (length rest)) refl e
  where
    go : (t : Bool) → leb (word y z) (length rest) ≡ t → ◌≡◌ {A = Option (ℕ × List ℕ)} (Some (l, b)) (cond t (Some (x, take (word y z) rest)) None) → Fits (x ∷ y ∷ z ∷ rest) l b
    go false h e = absurd (let no : ◌≡◌ {A = ℕ} 0 1 = cc in omega arith)
    go true h e =
        let same : ◌≡◌ {A = ℕ × List ℕ} (l, b) (x, take (word y z) rest) = cc in
        let letter : l ≡ x = ap (λ (p : ℕ × List ℕ). p.0) same in
        let body : b ≡ take (word y z) rest = ap (λ (p : ℕ × List ℕ). p.1) same in
        let long = length-take-le (word y z) rest (leb-true _ _ h) in
        let size : length b ≡ word y z = ap length body ∙ long in
        record { letter = letter; size = size; body = body ∙ ap (λ (n : ℕ). take n rest) (sym size); inside = omega (arith, leb-true _ _ h) }

-- bytes that are too few
pub lacks : (bs : List ℕ) → None ≡ front bs → head_size ≤ length bs → length bs < head_size + word (get_or bs 1 0) (get_or bs 2 0)
lacks [] e h = omega arith
lacks (x ∷ []) e h = omega arith
lacks (x ∷ y ∷ []) e h = omega arith
lacks (x ∷ y ∷ z ∷ rest) e h = go (leb (word y z) (length rest)) refl e
  where
    go : (t : Bool) → leb (word y z) (length rest) ≡ t → ◌≡◌ {A = Option (ℕ × List ℕ)} None (cond t (Some (x, take (word y z) rest)) None) → length (x ∷ y ∷ z ∷ rest) < head_size + word y z
    go true l e = absurd (let no : ◌≡◌ {A = ℕ} 0 1 = cc in omega arith)
    go false l e = omega (arith, leb-false (word y z) (length rest) l)
