-- A line's bytes, one of them past the limit where it is too long.
use Rattle.std.proofs.Common.{◌≡◌, ℕ, ◌<◌, ◌≤◌, List, [], ◌∷◌, ◌++◌, length, length-append, length-take, take, nat_lt, false, inl, inr, arith}
use Rattle.std.proofs.lemmas.Bool.{cases_lt, lt-ltb, le-ltb}
use Rattle.std.proofs.lemmas.List.{take_all, take-append-le}
use Rattle.text.specs.Limits.{most_bytes}
use Rattle.text.specs.Lines.{Received, grown}

abbrev pub got : List ℕ → Received
got items = record { bytes = take most_bytes items; long = nat_lt most_bytes (length items) }

pub one_more : (items : List ℕ) (b : ℕ) → length items ≤ most_bytes → got (items ++ b ∷ []) ≡ grown b (got items)
one_more items b h = elim (cases_lt (length items) most_bytes) [
  | inl l ↦
      let n : length (items ++ b ∷ []) ≤ most_bytes = simp length-append (omega arith) in
      rw (take_all most_bytes items h, take_all most_bytes (items ++ b ∷ []) n, le-ltb _ _ h, le-ltb _ _ n, lt-ltb _ _ l)
  | inr g ↦
      let n : most_bytes < length (items ++ b ∷ []) = simp length-append (omega arith) in
      let t = take-append-le most_bytes items (b ∷ []) (omega arith) in
      rw (t, take_all most_bytes items h, lt-ltb _ _ n, le-ltb _ _ g)
]

pub no_more : (items : List ℕ) (b : ℕ) → most_bytes < length items → got items ≡ grown b (got items)
no_more items b h = let n : most_bytes ≤ length (take most_bytes items) = omega (arith, length-take most_bytes items) in rw (lt-ltb _ _ h, le-ltb _ _ n)

pub whole : (items : List ℕ) → length items ≤ most_bytes → (take most_bytes items ≡ items) × (nat_lt most_bytes (length items) ≡ false)
whole items h = (take_all most_bytes items h, le-ltb _ _ h)
