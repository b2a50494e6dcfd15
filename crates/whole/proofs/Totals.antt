-- Sums of whole numbers: equal, added, multiplied and compared summand by summand.
use Rattle.std.proofs.Common.{◌≡◌, ℕ, zero, suc, ◌<◌, ℤ, pos, ◌+ℤ◌, ◌*ℤ◌, neg_ℤ, ◌≤ℤ◌, sym, refl, ap, ◌∙◌, ap₂, inl, inr, arith}
use lib.IntN.{*ℤ-zero, neg_ℤ-+ℤ}
use Rattle.std.proofs.lemmas.Int.{ints}
use Rattle.std.proofs.lemmas.Bool.{cases_eq}
use Rattle.whole.specs.Sums.{total}
use Rattle.whole.proofs.Ints.{mul_add, add_mul}

pub total_same : (n : ℕ) (f g : ℕ → ℤ) → ((p : ℕ) → p < n → f p ≡ g p) → total n f ≡ total n g
total_same zero f g e = refl
total_same (suc n) f g e = ap₂ ◌+ℤ◌ (total_same n f g (λ p h. e p (omega arith))) (e n (omega arith))

pub total_add : (n : ℕ) (f g : ℕ → ℤ) → total n (λ p. f p +ℤ g p) ≡ total n f +ℤ total n g
total_add zero f g = refl
total_add (suc n) f g = omega (arith, ints, total_add n f g)

pub total_times : (n : ℕ) (k : ℤ) (f : ℕ → ℤ) → total n (λ p. k *ℤ f p) ≡ k *ℤ total n f
total_times zero k f = sym (*ℤ-zero k)
total_times (suc n) k f = ap (λ z. z +ℤ k *ℤ f n) (total_times n k f) ∙ sym (mul_add k (total n f) (f n))

pub total_neg : (n : ℕ) (f : ℕ → ℤ) → total n (λ p. neg_ℤ (f p)) ≡ neg_ℤ (total n f)
total_neg zero f = refl
total_neg (suc n) f = ap (λ z. z +ℤ neg_ℤ (f n)) (total_neg n f) ∙ sym (neg_ℤ-+ℤ (total n f) (f n))

-- n times the same
pub total_even : (n : ℕ) (k : ℤ) → total n (λ _. k) ≡ pos n *ℤ k
total_even zero k = omega (arith, ints)
total_even (suc n) k = omega (arith, ints, total_even n k, add_mul (pos n) (pos 1) k)

-- ---- order
pub total_le : (n : ℕ) (f g : ℕ → ℤ) → ((p : ℕ) → p < n → f p ≤ℤ g p) → total n f ≤ℤ total n g
total_le zero f g h = omega (arith, ints)
total_le (suc n) f g h =
    let before = total_le n f g (λ p l. h p (omega arith)) in
    let last = h n (omega arith) in
    omega (arith, ints)

pub total_low : (n : ℕ) (low : ℤ) (f : ℕ → ℤ) → ((p : ℕ) → p < n → low ≤ℤ f p) → (pos n *ℤ low) ≤ℤ total n f
total_low n low f h = omega (arith, ints, total_even n low, total_le n (λ _. low) f h)

pub total_high : (n : ℕ) (high : ℤ) (f : ℕ → ℤ) → ((p : ℕ) → p < n → f p ≤ℤ high) → total n f ≤ℤ (pos n *ℤ high)
total_high n high f h = omega (arith, ints, total_even n high, total_le n f (λ _. high) h)

pub total_not_below : (n : ℕ) (f : ℕ → ℤ) → ((p : ℕ) → p < n → pos 0 ≤ℤ f p) → pos 0 ≤ℤ total n f
total_not_below n f h = omega (arith, ints, *ℤ-zero (pos n), total_low n (pos 0) f h)

-- a sum of numbers not below zero reaches each of them
pub total_part : (n : ℕ) (f : ℕ → ℤ) → ((p : ℕ) → p < n → pos 0 ≤ℤ f p) → (q : ℕ) → q < n → f q ≤ℤ total n f
total_part zero f h q l = absurd (omega arith)
total_part (suc n) f h q l = elim (cases_eq q n) [
  | inl e ↦
      let rest = total_not_below n f (λ p k. h p (omega arith)) in
      let same = ap f e in
      omega (arith, ints)
  | inr e ↦
      let rest = total_part n f (λ p k. h p (omega arith)) q (omega arith) in
      let last = h n (omega arith) in
      omega (arith, ints)
]
