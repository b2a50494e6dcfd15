-- Laws of products of whole numbers.
use Rattle.std.proofs.Common.{◌≡◌, ℕ, suc, ◌+◌, ◌*◌, ◌^◌, ◌<◌, ◌≤◌, ℤ, pos, negsuc, ◌+ℤ◌, ◌*ℤ◌, neg_ℤ, ◌≤ℤ◌, ap, lt_of_mul-lt-mul_right, mul-le-mul_left, arith, w64, SFits}
use borrow.Author.Differences.{up, down, sum_is_lem, neg_is, product_is}
use Rattle.std.proofs.lemmas.Nat.{mul-le as mul_le_of_le}
use Rattle.std.proofs.lemmas.Int.{ints}

pub mul_add : (a b c : ℤ) → a *ℤ (b +ℤ c) ≡ a *ℤ b +ℤ a *ℤ c
mul_add a b c = omega (arith, ints, ap (λ n. up a * n) (sum_is_lem b c), ap (λ n. down a * n) (sum_is_lem b c))

pub add_mul : (a b c : ℤ) → (a +ℤ b) *ℤ c ≡ a *ℤ c +ℤ b *ℤ c
add_mul a b c = omega (arith, ints, ap (λ n. up c * n) (sum_is_lem a b), ap (λ n. down c * n) (sum_is_lem a b))

pub neg_mul : (a b : ℤ) → neg_ℤ a *ℤ b ≡ neg_ℤ (a *ℤ b)
neg_mul a b =
    let n = neg_is a in
    omega (arith, ints, ap (λ k. k * up b) n.0, ap (λ k. k * down b) n.0, ap (λ k. k * up b) n.1, ap (λ k. k * down b) n.1)

pub mul_assoc : (a b c : ℤ) → (a *ℤ b) *ℤ c ≡ a *ℤ (b *ℤ c)
mul_assoc a b c =
    let l = product_is a b in
    let r = product_is b c in
    omega (arith, ints, ap (λ n. n * up c) l.0, ap (λ n. n * down c) l.0, ap (λ n. n * up c) l.1, ap (λ n. n * down c) l.1, ap (λ n. up a * n) r.0, ap (λ n. down a * n) r.0, ap (λ n. up a * n) r.1, ap (λ n. down a * n) r.1)

-- ---- order
pub mul_le : (a b : ℤ) (n : ℕ) → a ≤ℤ b → (a *ℤ pos n) ≤ℤ (b *ℤ pos n)
mul_le a b n h =
    let parts : up a + down b ≤ up b + down a = omega (arith, ints) in
    omega (arith, ints, mul-le-mul_left n parts)

fewer : (x y n s : ℕ) → s < n → x * n ≤ y * n + s → x ≤ y
fewer x y n s small h =
    let next : x * n < suc y * n = omega arith in
    let less : x < suc y = lt_of_mul-lt-mul_right n next in omega arith

-- a rest below n is no further n
pub le_of_mul_le : (a b : ℤ) (n s : ℕ) → s < n → (a *ℤ pos n) ≤ℤ (b *ℤ pos n +ℤ pos s) → a ≤ℤ b
le_of_mul_le a b n s small h =
    let parts : up a + down b ≤ up b + down a = fewer (up a + down b) (up b + down a) n s small (omega (arith, ints)) in
    omega (arith, ints)

-- ---- widths
pub times_bounds : (t : ℕ) (x : ℤ) → t < 2 ^ 16 → SFits w64 x → (neg_ℤ (pos (2 ^ 79)) ≤ℤ (pos t *ℤ x)) × ((pos t *ℤ x) ≤ℤ pos (2 ^ 79))
times_bounds t (pos n) h f =
    let most = mul_le_of_le t n (2 ^ 16) (2 ^ 63) (omega arith) (omega (arith, ints)) in
    (omega (arith, ints), omega (arith, ints))
times_bounds t (negsuc n) h f =
    let most = mul_le_of_le t (suc n) (2 ^ 16) (2 ^ 63) (omega arith) (omega (arith, ints)) in
    (omega (arith, ints), omega (arith, ints))
