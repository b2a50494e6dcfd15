-- A bound divided and rounded up, and a bound raised to a remainder.
use Rattle.std.specs.Prelude.{◌≡◌, ℕ, cond, ℤ, pos, ◌+ℤ◌, ◌-ℤ◌, ◌*ℤ◌, ◌≤ℤ◌, int_div, int_lt, int_rem}
use Rattle.std.specs.Int.{int_rem_euclid}

-- toward zero, and one more where a rest above zero was cut off
abbrev pub rounded_up : ℤ → ℕ → ℤ
rounded_up b g = cond (int_lt (pos 0) (int_rem b (pos g))) (int_div b (pos g) +ℤ pos 1) (int_div b (pos g))

-- g times r reaches b, and r is the least such number
pub record RoundsUp (b : ℤ) (g : ℕ) (r : ℤ) : Type 0 where
  pub reaches : b ≤ℤ (r *ℤ pos g)
  pub least : (k : ℤ) → b ≤ℤ (k *ℤ pos g) → r ≤ℤ k

abbrev pub risen : ℤ → ℤ → ℕ → ℤ
risen b s m = b +ℤ int_rem_euclid (s -ℤ b) (pos m)

-- x and y differ by a multiple of m
abbrev pub Congruent : ℕ → ℤ → ℤ → Type 0
Congruent m x y = (k : ℤ) × (x ≡ y +ℤ k *ℤ pos m)

-- r is the least number not below b that equals s modulo m
pub record Rises (b s : ℤ) (m : ℕ) (r : ℤ) : Type 0 where
  pub above : b ≤ℤ r
  pub equal : Congruent m r s
  pub least : (x : ℤ) → b ≤ℤ x → Congruent m x s → r ≤ℤ x
