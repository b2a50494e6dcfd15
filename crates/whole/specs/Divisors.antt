-- The greatest common divisor, of two numbers and of a row.
use Rattle.std.specs.Prelude.{◌≡◌, ℕ, zero, suc, ◌%◌, ◌<◌, List, length, ℤ, pos, fold, slice_index_or, unsigned_abs}
use Rattle.std.specs.Int.{◌∣◌}

-- Euclid's rule: b and the remainder have the same divisor, down to zero
abbrev pub divisor_in : ℕ → ℕ → ℕ → ℕ
divisor_in zero a b = a
divisor_in (suc turns) a zero = a
divisor_in (suc turns) a (suc b) = divisor_in turns (suc b) (a % suc b)

-- each turn lowers b, so that b turns are enough
abbrev pub divisor : ℕ → ℕ → ℕ
divisor a b = divisor_in b a b

-- g divides a and b, and each number that divides both divides g
pub record Greatest (a b g : ℕ) : Type 0 where
  pub first : g ∣ a
  pub second : g ∣ b
  pub most : (d : ℕ) → d ∣ a → d ∣ b → d ∣ g

abbrev pub row_divisor : List ℤ → ℕ
row_divisor row = fold (λ g x. divisor g (unsigned_abs x)) 0 row

abbrev pub DividesRow : ℕ → List ℤ → Type 0
DividesRow d row = (p : ℕ) → p < length row → d ∣ unsigned_abs (slice_index_or row p (pos 0))

abbrev pub AllZero : List ℤ → Type 0
AllZero row = (p : ℕ) → p < length row → slice_index_or row p (pos 0) ≡ pos 0

-- g divides each number of the row, and each number that does so divides g
pub record GreatestOfRow (row : List ℤ) (g : ℕ) : Type 0 where
  pub each : DividesRow g row
  pub most : (d : ℕ) → DividesRow d row → d ∣ g
  pub zero_when : AllZero row → g ≡ 0
  pub only_then : g ≡ 0 → AllZero row
