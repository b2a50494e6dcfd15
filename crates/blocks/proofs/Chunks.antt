-- The blocks of a file as a list, and the records of that list.
use Rattle.std.proofs.Common.{◌≡◌, ℕ, zero, suc, ◌+◌, ◌-◌, ◌*◌, ◌<◌, ◌≤◌, min, List, [], get_or, take, drop, refl, ap, ◌∙◌, arith}
use Rattle.std.specs.Simd.{first_chunks}
use Rattle.std.proofs.lemmas.List.{drop-drop, take-take}
use Rattle.rules.specs.Limits.{block_size, most_used}
use Rattle.blocks.specs.Layout.{begins, block, blocks, blocks_of, payload_at, used, used_bytes, used_from, used_in}
use Rattle.blocks.specs.Records.{Handed, records, records_from, records_of}
use Rattle.blocks.specs.Views.{records_at}
use Rattle.blocks.proofs.Parts.{drop_between}

one_chunk : (n m k : ℕ) (xs : List ℕ) → k < m → get_or (first_chunks n m xs) k [] ≡ take n (drop (n * k) xs)
one_chunk n zero k xs h = absurd (omega arith)
one_chunk n (suc m) zero xs h = let e : 0 ≡ n * 0 = omega arith in ap (λ (j : ℕ). take n (drop j xs)) e
one_chunk n (suc m) (suc k) xs h =
    let e : n + n * k ≡ n * suc k = omega arith in
    one_chunk n m k (drop n xs) (omega arith) ∙ ap (take n) (drop-drop (n * k) n xs ∙ ap (λ (j : ℕ). drop j xs) e)

pub one_block : (f : List ℕ) (k : ℕ) → k < blocks f → get_or (blocks_of f) k [] ≡ block k f
one_block f k h =
    let e : block_size ≡ begins (k + 1) - begins k = omega arith in
    one_chunk block_size (blocks f) k f h ∙ ap (λ (n : ℕ). take n (drop (begins k) f)) e

-- where no block uses more than its payload
module _ (f : List ℕ) (within : (k : ℕ) → k < blocks f → used_in (block k f) ≤ most_used) where
  used_same : (k : ℕ) → k < blocks f → used_bytes (block k f) ≡ used k f
  used_same k h =
      let n : ℕ = payload_at + min (used_in (block k f)) most_used - payload_at in
      let same : n ≡ used_from k + used_in (block k f) - used_from k = omega (arith, within k h) in
      ap (take n) (drop_between f (begins k) (begins (k + 1)) payload_at)
      ∙ take-take n (begins (k + 1) - used_from k) (drop (used_from k) f) (omega (arith, within k h))
      ∙ ap (λ (m : ℕ). take m (drop (used_from k) f)) same

  from_block : (n k : ℕ) → k + n ≡ blocks f → records_at k 0 (first_chunks block_size n (drop (begins k) f)) ≡ records_from n k f
  unfolding records_from
  from_block zero k e = refl
  from_block (suc n) k e =
      let size : block_size ≡ begins (k + 1) - begins k = omega arith in
      let place : used_from k + 0 ≡ used_from k = omega arith in
      let next : k + 1 ≡ suc k = omega arith in
      let on : begins k + block_size ≡ begins (k + 1) = omega arith in
      let more : List Handed = records_at (k + 1) 0 (first_chunks block_size n (drop block_size (drop (begins k) f))) in
      let bytes = ap (λ (m : ℕ). used_bytes (take m (drop (begins k) f))) size ∙ used_same k (omega arith) in
      let later = ap (λ (l : List ℕ). records_at (k + 1) 0 (first_chunks block_size n l)) (drop-drop block_size (begins k) f ∙ ap (λ (m : ℕ). drop m f) on)
      ∙ from_block n (k + 1) (omega arith)
      ∙ ap (λ (j : ℕ). records_from n j f) next in
      ap (λ (p : ℕ). records_of p (used_bytes (take block_size (drop (begins k) f))) more) place ∙ ap (λ (l : List ℕ). records_of (used_from k) l more) bytes ∙ ap (records_of (used_from k) (used k f)) later

  pub file_records : records_at 0 0 (blocks_of f) ≡ records f
  file_records = from_block (blocks f) 0 (omega arith)
