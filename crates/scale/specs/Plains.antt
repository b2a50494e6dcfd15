-- Whole numbers, pairs and residues keep the laws of a plain scale; the first two, of an ordered one.
use Rattle.std.specs.Prelude.{◌≡◌, ℕ, ◌+◌, ◌-◌, ◌%◌, ◌≤◌, max, true, ℤ, pos, ◌+ℤ◌, neg_ℤ, unsigned_abs, refl}
use Rattle.std.proofs.Common.{sym, ap, ◌∙◌, mod-lt, add_assoc, add_comm, zero-add, mod-eq_of_lt, arith}
use Rattle.std.proofs.Math.Nat.{mod-add-mod, add-mod-mod, mod_self, le-max_left, le-max_right, max-le}
use Rattle.std.proofs.lemmas.Int.{ints}
use Rattle.std.proofs.lemmas.Bool.{and_from, and_parts, lt-ltb, ltb-true}
use Rattle.whole.proofs.Limiting.{decides_le}
use Rattle.scale.specs.Scales.{Plain, Tested}
use Rattle.scale.specs.Makes.{pair, pair_passes, pairs, residues, whole, whole_passes}

sum_reach : (a b : ℤ) → unsigned_abs (a +ℤ b) ≤ unsigned_abs a + unsigned_abs b
sum_reach a b = omega (arith, ints)

opposite_reach : (a : ℤ) → unsigned_abs (neg_ℤ a) ≤ unsigned_abs a
opposite_reach a = omega (arith, ints)

sum_assoc : (a b c : ℤ) → (a +ℤ b) +ℤ c ≡ a +ℤ (b +ℤ c)
sum_assoc a b c = omega (arith, ints)

sum_comm : (a b : ℤ) → a +ℤ b ≡ b +ℤ a
sum_comm a b = omega (arith, ints)

sum_unit : (a : ℤ) → pos 0 +ℤ a ≡ a
sum_unit a = omega (arith, ints)

sum_inverse : (a : ℤ) → a +ℤ neg_ℤ a ≡ pos 0
sum_inverse a = omega (arith, ints)

pub whole_plain : Plain whole
whole_plain = record {
  nil_on = refl;
  plus_on = λ a b h k. refl;
  opp_on = λ a h. refl;
  assoc = sum_assoc;
  comm = sum_comm;
  unit = λ a h. sum_unit a;
  inverse = λ a h. sum_inverse a;
  nil_reach = refl;
  plus_reach = sum_reach;
  opp_reach = opposite_reach;
}

sum_passes : (a b : ℤ) → whole_passes a ≡ true → whole_passes b ≡ true → whole_passes (a +ℤ b) ≡ true
sum_passes a b p q =
    let x = (decides_le (pos 0) a).0 p in
    let y = (decides_le (pos 0) b).0 q in
    (decides_le (pos 0) (a +ℤ b)).1 (omega (arith, ints, x, y))

pub whole_tested : Tested whole whole_passes
whole_tested = record { nil_passes = refl; plus_passes = sum_passes }

both_reach : (a b c d e f : ℕ) → e ≤ a + c → f ≤ b + d → max e f ≤ max a b + max c d
both_reach a b c d e f h k =
    let l = le-max_left a b in
    let m = le-max_right a b in
    let n = le-max_left c d in
    let o = le-max_right c d in
    max-le (omega arith) (omega arith)

pub pairs_plain : Plain pairs
pairs_plain = record {
  nil_on = refl;
  plus_on = λ a b h k. refl;
  opp_on = λ a h. refl;
  assoc = λ a b c. λ i. pair (sum_assoc a.left b.left c.left i) (sum_assoc a.right b.right c.right i);
  comm = λ a b. λ i. pair (sum_comm a.left b.left i) (sum_comm a.right b.right i);
  unit = λ a h. λ i. pair (sum_unit a.left i) (sum_unit a.right i);
  inverse = λ a h. λ i. pair (sum_inverse a.left i) (sum_inverse a.right i);
  nil_reach = refl;
  plus_reach = λ a b. both_reach _ _ _ _ _ _ (sum_reach a.left b.left) (sum_reach a.right b.right);
  opp_reach = λ a.
      let l = le-max_left (unsigned_abs a.left) (unsigned_abs a.right) in
      let r = le-max_right (unsigned_abs a.left) (unsigned_abs a.right) in
      max-le (omega (arith, opposite_reach a.left)) (omega (arith, opposite_reach a.right));
}

pub pairs_tested : Tested pairs pair_passes
pairs_tested = record {
  nil_passes = refl;
  plus_passes = λ a b p q.
      let x = and_parts (whole_passes a.left) (whole_passes a.right) p in
      let y = and_parts (whole_passes b.left) (whole_passes b.right) q in
      and_from _ _ (sum_passes a.left b.left x.0 y.0) (sum_passes a.right b.right x.1 y.1);
}

pub residues_plain : (m : ℕ) → 2 ≤ m → Plain (residues m)
residues_plain m h = record {
  nil_on = lt-ltb _ _ (omega arith);
  plus_on = λ a b j k. lt-ltb _ _ (mod-lt (a + b) (omega arith));
  opp_on = λ a k. lt-ltb _ _ (mod-lt (m - a) (omega arith));
  assoc = λ a b c. mod-add-mod (a + b) m c ∙ ap (λ (n : ℕ). n % m) (add_assoc a b c) ∙ sym (add-mod-mod a (b + c) m);
  comm = λ a b. ap (λ (n : ℕ). n % m) (add_comm a b);
  unit = λ a k. ap (λ (n : ℕ). n % m) (zero-add a) ∙ mod-eq_of_lt (ltb-true a m k);
  inverse = λ a k.
      let l = ltb-true a m k in
      let e : a + (m - a) ≡ m = omega arith in
      add-mod-mod a (m - a) m ∙ ap (λ (n : ℕ). n % m) e ∙ mod_self m;
  nil_reach = refl;
  plus_reach = λ a b. omega arith;
  opp_reach = λ a. omega arith;
}
