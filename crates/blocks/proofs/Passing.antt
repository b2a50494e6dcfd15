-- How the tests of a file's blocks go on.
use Rattle.std.proofs.Common.{◌≡◌, ℕ, zero, suc, ◌+◌, ◌-◌, ◌<◌, ◌≤◌, eqb, leb, List, [], length, get_or, Ok, Err, sym, ap, ◌∙◌, subst, inl, inr, arith}
use Rattle.std.proofs.lemmas.Bool.{and_parts, cases_lt, leb-true}
use Rattle.rules.specs.Limits.{most_used}
use Rattle.rules.specs.Outcome.{Outcome, ◌>>=◌}
use Rattle.rules.specs.declared.refusal.Refusal.{Refusal}
use Rattle.rules.specs.declared.refusal.Refusal.TheVariants.{BlockNumber, BlockUsed}
use Rattle.rules.proofs.Outcomes.{bind_ok, need_ok}
use Rattle.blocks.specs.Layout.{begins, block, blocks, blocks_of, number_in, unused, used_in}
use Rattle.blocks.proofs.Chunks.{one_block}
use Rattle.blocks.specs.Tests.{all_sound, checked, filled, measured, sound, zeros}

-- the blocks from k on
abbrev from : ℕ → List ℕ → Outcome Unit
from k f = all_sound (blocks f - k) k f

turn : (n m k : ℕ) (f : List ℕ) → n ≡ m + 1 → all_sound n k f ≡ (sound k (block k f) >>= λ _. all_sound m (k + 1) f)
unfolding all_sound
turn zero m k f e = absurd (omega arith)
turn (suc n) m k f e =
    let less : n ≡ m = omega arith in
    let next : suc k ≡ k + 1 = omega arith in
    ap (λ (j : ℕ). sound k (block k f) >>= λ _. all_sound n j f) next ∙ ap (λ (j : ℕ). sound k (block k f) >>= λ _. all_sound j (k + 1) f) less

module _ (f : List ℕ) (k : ℕ) (h : k < blocks f) where
  one : all_sound (blocks f - k) k f ≡ (sound k (get_or (blocks_of f) k []) >>= λ _. from (k + 1) f)
  one = turn _ (blocks f - (k + 1)) k f (omega arith) ∙ ap (λ b. sound k b >>= λ _. from (k + 1) f) (sym (one_block f k h))

  pub one_passes : Ok tt ≡ sound k (get_or (blocks_of f) k []) → from k f ≡ from (k + 1) f
  one_passes e = one ∙ ap (λ o. o >>= λ _. from (k + 1) f) (sym e)

  pub one_refused : (r : Refusal) → Err r ≡ sound k (get_or (blocks_of f) k []) → from k f ≡ checked f → Err r ≡ checked f
  one_refused r e same = sym (one ∙ ap (λ o. o >>= λ _. from (k + 1) f) (sym e)) ∙ same

pub none_left : (f : List ℕ) (k : ℕ) → blocks f ≤ k → from k f ≡ Ok tt
unfolding all_sound
none_left f k h =
    let e : blocks f - k ≡ 0 = omega arith in
    ap (λ (n : ℕ). all_sound n k f) e

-- what a file that passes has passed
each : (n k j : ℕ) (f : List ℕ) → all_sound n k f ≡ Ok tt → k ≤ j → j < k + n → sound j (block j f) ≡ Ok tt
unfolding all_sound
each zero k j f h lo hi = absurd (omega arith)
each (suc n) k j f h lo hi =
    let first = bind_ok (sound k (block k f)) (λ _. all_sound n (suc k) f) tt h in
    elim (cases_lt k j) [
      | inl past ↦ each n (suc k) j f first.2 (omega arith) (omega arith)
      | inr here ↦ (let e : k ≡ j = omega arith in subst (λ (m : ℕ). sound m (block m f) ≡ Ok tt) e first.1)
    ]

pub used_within : (f : List ℕ) → Ok tt ≡ checked f → (k : ℕ) → k < blocks f → used_in (block k f) ≤ most_used
used_within f h k l =
    let b : List ℕ = block k f in
    let all = (bind_ok (measured (length f)) (λ _. all_sound (blocks f) 0 f) tt (sym h)).2 in
    let here = need_ok (eqb (number_in b) k) (BlockNumber (begins k) (number_in b)) _ tt (each (blocks f) 0 k f all (omega arith) (omega arith)) in
    let fills = need_ok (filled b) (BlockUsed (begins k) (used_in b)) _ tt here.1 in
    leb-true _ _ (and_parts (leb (used_in b) most_used) (zeros (unused b)) fills.0).0
