-- Rounding up, and raising to a remainder.
use Rattle.std.proofs.Common.{◌≡◌, ℕ, suc, ◌-◌, ◌/◌, ◌%◌, ◌<◌, false, ltb, ℤ, pos, negsuc, ◌+ℤ◌, ◌-ℤ◌, ◌*ℤ◌, neg_ℤ, nat_abs, ◌≤ℤ◌, ◌<ℤ◌, sym, refl, subst, mod-lt, div-add-mod', arith}
use lib.Signed.{lt_z, rem_z}
use Rattle.std.specs.Int.{int_div_euclid, int_rem_euclid}
use Rattle.std.proofs.lemmas.Int.{ints}
use Rattle.std.proofs.lemmas.Bool.{cond_both, cond-false, ltb-false, ltb-true}
use Rattle.whole.specs.Rounding.{rounded_up, RoundsUp, risen, Congruent, Rises}
use Rattle.whole.proofs.Ints.{add_mul, neg_mul, mul_le, le_of_mul_le}

-- ---- rounded up
pub up_below : (b : ℤ) (g : ℕ) → b <ℤ pos 0 → rounded_up b g ≡ neg_ℤ (pos (nat_abs b / g))
up_below (pos a) g h = absurd (omega (arith, ints))
up_below (negsuc a) g h =
    let test : false ≡ lt_z (pos 0) (rem_z (negsuc a) (pos g)) = omega (arith, ints) in
    cond-false _ _ _ (sym test)

-- less than g above b
rounds : (b r : ℤ) (g s : ℕ) → s < g → r *ℤ pos g ≡ b +ℤ pos s → RoundsUp b g r
rounds b r g s small e = record {
  reaches = omega (arith, ints);
  least = λ k h. le_of_mul_le r k g s small (omega (arith, ints));
}

pub rounds_up : (b : ℤ) (g : ℕ) → 0 < g → RoundsUp b g (rounded_up b g)
rounds_up (pos a) g some =
    let q = pos (a / g) in
    let parts = div-add-mod' a g in
    let less = mod-lt a some in
    let more = add_mul q (pos 1) (pos g) in
    cond_both (ltb 0 (a % g)) (q +ℤ pos 1) q (RoundsUp (pos a) g)
    (λ test. let over = ltb-true 0 (a % g) test in rounds (pos a) (q +ℤ pos 1) g (g - a % g) (omega arith) (omega (arith, ints)))
    (λ test. let none = ltb-false 0 (a % g) test in rounds (pos a) q g 0 some (omega (arith, ints)))
rounds_up (negsuc a) g some =
    let q = pos (suc a / g) in
    let parts = div-add-mod' (suc a) g in
    let opposite = neg_mul q (pos g) in
    subst (RoundsUp (negsuc a) g) (sym (up_below (negsuc a) g (omega (arith, ints))))
    (rounds (negsuc a) (neg_ℤ q) g (suc a % g) (mod-lt (suc a) some) (omega (arith, ints)))

-- ---- the quotient and the remainder
pub record Reduced (z : ℤ) (m e : ℕ) : Type 0 where
  pub value : int_rem_euclid z (pos m) ≡ pos e
  pub small : e < m
  pub whole : int_div_euclid z (pos m) *ℤ pos m +ℤ pos e ≡ z

pub reduced : (z : ℤ) (m : ℕ) → 0 < m → (e : ℕ) × Reduced z m e
reduced (pos a) m some =
    let whole = div-add-mod' a m in
    (a % m, record { value = refl; small = mod-lt a some; whole = omega (arith, ints) })
reduced (negsuc a) m some =
    let whole = div-add-mod' a m in
    let less = mod-lt a some in
    let n = neg_mul (pos (suc (a / m))) (pos m) in
    (m - 1 - a % m, record { value = refl; small = omega arith; whole = omega (arith, ints) })

-- the opposite of the opposite rounded down
pub opposite_rounded : (b : ℤ) (g : ℕ) → 0 < g → neg_ℤ (int_div_euclid (neg_ℤ b) (pos g)) ≡ rounded_up b g
opposite_rounded b g some =
    let e = reduced (neg_ℤ b) g some in
    let whole = e.1.whole in
    let q = int_div_euclid (neg_ℤ b) (pos g) in
    let n = neg_mul q (pos g) in
    let here = rounds b (neg_ℤ q) g e.0 e.1.small (omega (arith, ints)) in
    let there = rounds_up b g some in
    let low = here.least (rounded_up b g) there.reaches in
    let high = there.least (neg_ℤ q) here.reaches in
    omega (arith, ints)

-- ---- raised to a remainder
-- less than m above b
rises : (b s r : ℤ) (m e : ℕ) → e < m → r ≡ b +ℤ pos e → Congruent m r s → Rises b s m r
rises b s r m e small is equal = record {
  above = omega (arith, ints);
  equal = equal;
  least = λ x h other.
      let here = equal.1 in
      let there = other.1 in
      let fewer : equal.0 ≤ℤ other.0 = le_of_mul_le equal.0 other.0 m e small (omega (arith, ints)) in
      let less = mul_le equal.0 other.0 m fewer in
      omega (arith, ints);
}

pub risen_rises : (b s : ℤ) (m : ℕ) → 0 < m → Rises b s m (risen b s m)
risen_rises b s m some =
    let e = reduced (s -ℤ b) m some in
    let is = e.1.value in
    let whole = e.1.whole in
    let q = int_div_euclid (s -ℤ b) (pos m) in
    let n = neg_mul q (pos m) in
    rises b s (risen b s m) m e.0 e.1.small (omega (arith, ints)) (neg_ℤ q, omega (arith, ints))
