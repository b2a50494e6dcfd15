-- Euclid's rule finds the greatest common divisor, of two numbers and of a row.
use Rattle.std.proofs.Common.{◌≡◌, ℕ, zero, suc, ◌%◌, ◌<◌, ◌≤◌, List, [], ◌∷◌, get_or, ℤ, pos, nat_abs, fold, sym, refl, subst, mod-lt, arith}
use Prim.Native.Nat.{◌∣◌}
use native.Mathlib.Nat.{dvd_refl, dvd-zero, dvd_trans, dvd-mod_iff, eq-zero_of_zero-dvd}
use Rattle.std.proofs.lemmas.Int.{ints}
use Rattle.whole.specs.Divisors.{divisor_in, divisor, Greatest, row_divisor, DividesRow, GreatestOfRow}

-- ---- enough turns are enough
turns_alike : (m n a b : ℕ) → b ≤ m → b ≤ n → divisor_in m a b ≡ divisor_in n a b
turns_alike zero zero a b h k = refl
turns_alike zero (suc n) a zero h k = refl
turns_alike zero (suc n) a (suc b) h k = absurd (omega arith)
turns_alike (suc m) zero a zero h k = refl
turns_alike (suc m) zero a (suc b) h k = absurd (omega arith)
turns_alike (suc m) (suc n) a zero h k = refl
turns_alike (suc m) (suc n) a (suc b) h k =
    let less : a % suc b < suc b = mod-lt a (omega arith) in
    turns_alike m n (suc b) (a % suc b) (omega arith) (omega arith)

pub divisor_turn : (a b : ℕ) → 0 < b → divisor a b ≡ divisor b (a % b)
divisor_turn a zero h = absurd (omega arith)
divisor_turn a (suc b) h =
    let less : a % suc b < suc b = mod-lt a h in
    turns_alike b (a % suc b) (suc b) (a % suc b) (omega arith) (omega arith)

-- ---- the greatest
pub turn_greatest : (a b g : ℕ) → Greatest b (a % b) g → Greatest a b g
turn_greatest a b g w = record {
  first = (dvd-mod_iff g {m = a} {n = b} w.first).0 w.second;
  second = w.first;
  most = λ d p q. w.most d q ((dvd-mod_iff d {m = a} {n = b} q).1 p);
}

in_greatest : (n a b : ℕ) → b ≤ n → Greatest a b (divisor_in n a b)
in_greatest zero a zero h = record { first = dvd_refl a; second = dvd-zero a; most = λ d p q. p }
in_greatest zero a (suc b) h = absurd (omega arith)
in_greatest (suc n) a zero h = record { first = dvd_refl a; second = dvd-zero a; most = λ d p q. p }
in_greatest (suc n) a (suc b) h =
    let less : a % suc b < suc b = mod-lt a (omega arith) in
    turn_greatest a (suc b) _ (in_greatest n (suc b) (a % suc b) (omega arith))

pub divisor_greatest : (a b : ℕ) → Greatest a b (divisor a b)
divisor_greatest a b = in_greatest b a b (omega arith)

-- ---- of a row, begun with g
abbrev onto : ℕ → List ℤ → ℕ
onto g row = fold (λ d x. divisor d (nat_abs x)) g row

onto_first : (g : ℕ) (row : List ℤ) → onto g row ∣ g
onto_first g [] = dvd_refl g
onto_first g (x ∷ row) =
    let next = divisor g (nat_abs x) in
    dvd_trans (onto next row) (onto_first next row) (divisor_greatest g (nat_abs x)).first

onto_each : (g : ℕ) (row : List ℤ) → DividesRow (onto g row) row
onto_each g [] p h = absurd (omega arith)
onto_each g (x ∷ row) zero h =
    let next = divisor g (nat_abs x) in
    dvd_trans (onto next row) (onto_first next row) (divisor_greatest g (nat_abs x)).second
onto_each g (x ∷ row) (suc p) h = onto_each (divisor g (nat_abs x)) row p (omega arith)

onto_most : (g : ℕ) (row : List ℤ) (d : ℕ) → d ∣ g → DividesRow d row → d ∣ onto g row
onto_most g [] d h each = h
onto_most g (x ∷ row) d h each =
    onto_most (divisor g (nat_abs x)) row d ((divisor_greatest g (nat_abs x)).most d h (each 0 (omega arith))) (λ p l. each (suc p) (omega arith))

abs_zero : (x : ℤ) → nat_abs x ≡ 0 → x ≡ pos 0
abs_zero x e = omega (arith, ints)

pub row_greatest : (row : List ℤ) → GreatestOfRow row (row_divisor row)
row_greatest row =
    let each = onto_each 0 row in
    let most : (d : ℕ) → DividesRow d row → d ∣ row_divisor row = λ d h. onto_most 0 row d (dvd-zero d) h in
    record {
      each = each;
      most = most;
      zero_when = λ z. eq-zero_of_zero-dvd (most 0 (λ p h. subst (λ (x : ℤ). 0 ∣ nat_abs x) (sym (z p h)) (dvd-zero 0)));
      only_then = λ e p h. abs_zero (get_or row p (pos 0)) (eq-zero_of_zero-dvd (subst (λ (g : ℕ). g ∣ nat_abs (get_or row p (pos 0))) e (each p h)));
    }
