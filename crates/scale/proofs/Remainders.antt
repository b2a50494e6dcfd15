-- Residues weigh the remainder of the whole weight.
use Rattle.std.proofs.Common.{◌≡◌, ℕ, zero, suc, ◌+◌, ◌-◌, ◌*◌, ◌/◌, ◌%◌, ◌<◌, ℤ, pos, negsuc, ◌+ℤ◌, ◌*ℤ◌, neg_ℤ, nat_abs, sym, refl, ap, ◌∙◌, subst, mod-lt, arith}
use native.Mathlib.Nat.{mod-add-div', zero-mod}
use Rattle.std.specs.Int.{int_div_euclid}
use Rattle.std.proofs.lemmas.Int.{ints}
use Rattle.whole.proofs.Ints.{add_mul, neg_mul}
use Rattle.whole.proofs.Raising.{reduced as whole_parts}
use Rattle.scale.specs.Makes.{WeighsRemainders, reduced, residues, whole}
use Rattle.scale.specs.Sums.{difference, times, weighed}

-- z is its remainder and a multiple of m
record Parts (m : ℕ) (z : ℤ) : Type 0 where
  below : reduced m z < m
  multiple : ℤ
  whole : z ≡ pos (reduced m z) +ℤ multiple *ℤ pos m

parts : (m : ℕ) → 0 < m → (z : ℤ) → Parts m z
parts m h z =
    let r = whole_parts z m h in
    let is : reduced m z ≡ r.0 = ap nat_abs r.1.value in
    record {
      below = subst (λ (e : ℕ). e < m) (sym is) r.1.small;
      multiple = int_div_euclid z (pos m);
      whole = omega (arith, ints, ap pos is, r.1.whole);
    }

unique : (m a b : ℕ) (k : ℤ) → a < m → b < m → pos a ≡ pos b +ℤ k *ℤ pos m → a ≡ b
unique m a b (pos zero) h j e = omega (arith, ints)
unique m a b (pos (suc k)) h j e = absurd (omega (arith, ints))
unique m a b (negsuc k) h j e = absurd (omega (arith, ints))

-- the remainders of a sum and of an opposite, with the multiples as numbers of their own
plus_joins : (x y A B C Q K : ℤ) (rx ry rz s q : ℕ) → x ≡ pos rx +ℤ A → y ≡ pos ry +ℤ B → x +ℤ y ≡ pos rz +ℤ C → s + q ≡ rx + ry → Q ≡ pos q → K ≡ (A +ℤ B) +ℤ (Q +ℤ neg_ℤ C) → pos rz ≡ pos s +ℤ K
plus_joins x y A B C Q K rx ry rz s q ex ey ez d eq ek = omega (arith, ints)

opposite_joins : (x A C Q K : ℤ) (m rx rz s q : ℕ) → x ≡ pos rx +ℤ A → neg_ℤ x ≡ pos rz +ℤ C → rx < m → s + q ≡ m - rx → Q ≡ pos q → K ≡ (Q +ℤ neg_ℤ (pos m)) +ℤ neg_ℤ (A +ℤ C) → pos rz ≡ pos s +ℤ K
opposite_joins x A C Q K m rx rz s q ex ez lt d eq ek = omega (arith, ints)

module _ (m : ℕ) (h : 0 < m) where
  scaled : (a b : ℤ) → (a +ℤ neg_ℤ b) *ℤ pos m ≡ a *ℤ pos m +ℤ neg_ℤ (b *ℤ pos m)
  scaled a b = add_mul a (neg_ℤ b) (pos m) ∙ ap (λ z. a *ℤ pos m +ℤ z) (neg_mul b (pos m))

  reduced_plus : (x y : ℤ) → reduced m (x +ℤ y) ≡ (reduced m x + reduced m y) % m
  reduced_plus x y =
      let a = parts m h x in
      let b = parts m h y in
      let c = parts m h (x +ℤ y) in
      let s = reduced m x + reduced m y in
      let d : s % m + (s / m) * m ≡ s = mod-add-div' s m in
      let e : ((a.multiple +ℤ b.multiple) +ℤ (pos (s / m) +ℤ neg_ℤ c.multiple)) *ℤ pos m ≡ (a.multiple *ℤ pos m +ℤ b.multiple *ℤ pos m) +ℤ (pos (s / m) *ℤ pos m +ℤ neg_ℤ (c.multiple *ℤ pos m)) =
      add_mul (a.multiple +ℤ b.multiple) (pos (s / m) +ℤ neg_ℤ c.multiple) (pos m) ∙ (λ i. add_mul a.multiple b.multiple (pos m) i +ℤ scaled (pos (s / m)) c.multiple i) in
      unique m (reduced m (x +ℤ y)) (s % m) ((a.multiple +ℤ b.multiple) +ℤ (pos (s / m) +ℤ neg_ℤ c.multiple)) c.below (mod-lt s h)
      (plus_joins x y _ _ _ _ _ (reduced m x) (reduced m y) (reduced m (x +ℤ y)) (s % m) ((s / m) * m) a.whole b.whole c.whole d refl e)

  reduced_opposite : (x : ℤ) → reduced m (neg_ℤ x) ≡ (m - reduced m x) % m
  reduced_opposite x =
      let a = parts m h x in
      let c = parts m h (neg_ℤ x) in
      let s = m - reduced m x in
      let d : s % m + (s / m) * m ≡ s = mod-add-div' s m in
      let e : ((pos (s / m) +ℤ neg_ℤ (pos 1)) +ℤ neg_ℤ (a.multiple +ℤ c.multiple)) *ℤ pos m ≡ (pos (s / m) *ℤ pos m +ℤ neg_ℤ (pos m)) +ℤ neg_ℤ (a.multiple *ℤ pos m +ℤ c.multiple *ℤ pos m) =
      scaled (pos (s / m) +ℤ neg_ℤ (pos 1)) (a.multiple +ℤ c.multiple)
      ∙ (λ i. (scaled (pos (s / m)) (pos 1) ∙ ap (λ z. pos (s / m) *ℤ pos m +ℤ neg_ℤ z) (let o : pos 1 *ℤ pos m ≡ pos m = omega (arith, ints) in o)) i +ℤ neg_ℤ (add_mul a.multiple c.multiple (pos m) i)) in
      unique m (reduced m (neg_ℤ x)) (s % m) ((pos (s / m) +ℤ neg_ℤ (pos 1)) +ℤ neg_ℤ (a.multiple +ℤ c.multiple)) c.below (mod-lt s h)
      (opposite_joins x _ _ _ _ m (reduced m x) (reduced m (neg_ℤ x)) (s % m) ((s / m) * m) a.whole c.whole a.below d refl e)

  reduced_times : (n : ℕ) (x : ℤ) → times (residues m) n (reduced m x) ≡ reduced m (times whole n x)
  unfolding times
  reduced_times zero x = sym (zero-mod m)
  reduced_times (suc n) x = ap (λ (k : ℕ). (reduced m x + k) % m) (reduced_times n x) ∙ sym (reduced_plus x (times whole n x))

  reduced_difference : (a b : ℕ) (x : ℤ) → difference (residues m) a b (reduced m x) ≡ reduced m (difference whole a b x)
  reduced_difference a b x =
      (λ i. (reduced_times a x i + ((m - reduced_times b x i) % m)) % m)
      ∙ ap (λ (k : ℕ). (reduced m (times whole a x) + k) % m) (sym (reduced_opposite (times whole b x)))
      ∙ sym (reduced_plus (times whole a x) (neg_ℤ (times whole b x)))

  pub weighs_remainders : WeighsRemainders m
  unfolding weighed
  weighs_remainders more fewer ws zero = sym (zero-mod m)
  weighs_remainders more fewer ws (suc n) =
      (λ i. (weighs_remainders more fewer ws n i + reduced_difference (more n) (fewer n) (ws n) i) % m)
      ∙ sym (reduced_plus (weighed whole more fewer ws n) (difference whole (more n) (fewer n) (ws n)))

  pub reduced_below : (z : ℤ) → reduced m z < m
  reduced_below z = (parts m h z).below
