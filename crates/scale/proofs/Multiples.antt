-- What an n-fold sum comes to on each scale.
use Rattle.std.proofs.Common.{◌≡◌, ℕ, zero, suc, ◌+◌, ◌*◌, ◌%◌, ◌^◌, ◌<◌, ◌≤◌, ℤ, pos, negsuc, ◌+ℤ◌, ◌*ℤ◌, nat_abs, sym, refl, ap, ◌∙◌, mul-le-mul_left, zero-mul, arith, w64, SFits}
use native.Mathlib.Nat.{add-mod-mod, zero-mod}
use borrow.Author.Differences.{ints}
use Rattle.scale.specs.Makes.{pair, pairs, residues, whole}
use Rattle.scale.specs.Sums.{times}
use Rattle.scale.specs.declared.makes.Pair.{Pair}

pub whole_times : (n : ℕ) (a : ℤ) → times whole n a ≡ pos n *ℤ a
unfolding times
whole_times zero a = omega (arith, ints)
whole_times (suc n) a = let e = whole_times n a in ap (λ (z : ℤ). a +ℤ z) e ∙ omega (arith, ints)

pub whole_fits : (n : ℕ) (a : ℤ) → n < 65536 → nat_abs a < 2 ^ 46 → SFits w64 (pos n *ℤ a)
whole_fits n (pos a) h l =
    let m : n * a ≤ n * 2 ^ 46 = mul-le-mul_left n (omega arith) in omega (arith, ints)
whole_fits n (negsuc a) h l =
    let m : n * suc a ≤ n * 2 ^ 46 = mul-le-mul_left n (omega arith) in omega (arith, ints)

pub residue_times : (m n a : ℕ) → times (residues m) n a ≡ (n * a) % m
unfolding times
residue_times m zero a = sym (ap (λ (k : ℕ). k % m) (zero-mul a) ∙ zero-mod m)
residue_times m (suc n) a =
    let e : a + n * a ≡ suc n * a = omega arith in
    ap (λ (k : ℕ). (a + k) % m) (residue_times m n a) ∙ add-mod-mod a (n * a) m ∙ ap (λ (k : ℕ). k % m) e

pub pair_times : (n : ℕ) (a : Pair) → times pairs n a ≡ pair (times whole n a.left) (times whole n a.right)
unfolding times
pair_times zero a = refl
pair_times (suc n) a = ap (pairs.plus a) (pair_times n a)
