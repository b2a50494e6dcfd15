-- The weight of bytes, as a sum over their places.
use Rattle.std.proofs.Common.{◌≡◌, ℕ, suc, ◌+◌, ◌*◌, ◌≤◌, List, [], ◌∷◌, length, get_or, refl, sym, ap, ◌∙◌, arith, mul-le-mul}
use Rattle.std.specs.List.{enumerate_from, sum_by}
use Rattle.std.proofs.lemmas.List.Sums.{sum_by-cons}
use Rattle.blocks.specs.Tests.{weighted}

-- a byte times its place, counted from 1
abbrev pub worth : ℕ × ℕ → ℕ
worth p = (p.0 + 1) * p.1

weighted_on : (i b : ℕ) (bs : List ℕ) → weighted i (b ∷ bs) ≡ (i + 1) * b + weighted (i + 1) bs
unfolding weighted
weighted_on i b bs = let next : suc i ≡ i + 1 = omega arith in ap (λ (j : ℕ). j * b + weighted j bs) next

pub weighted_sum : (i : ℕ) (bs : List ℕ) → sum_by worth (enumerate_from i bs) ≡ weighted i bs
unfolding weighted
weighted_sum i [] = refl
weighted_sum i (b ∷ bs) =
    sum_by-cons worth (i, b) (enumerate_from (i + 1) bs) ∙ ap (λ (n : ℕ). (i + 1) * b + n) (weighted_sum (i + 1) bs) ∙ sym (weighted_on i b bs)

pub weighted_most : (i m : ℕ) (bs : List ℕ) → i + length bs ≤ m → ((k : ℕ) → get_or bs k 0 ≤ 255) → weighted i bs ≤ length bs * (m * 255)
unfolding weighted
weighted_most i m [] h small = omega arith
weighted_most i m (b ∷ bs) h small =
    let byte : b ≤ 255 = small 0 in
    let place : i + 1 ≤ m = omega arith in
    let one = mul-le-mul place byte in
    let others = weighted_most (i + 1) m bs (omega arith) (λ k. small (suc k)) in
    omega (arith, weighted_on i b bs)
