-- The tests of a whole file, before any record is read.
use Rattle.std.specs.Prelude.{ℕ, zero, suc, ◌+◌, ◌*◌, ◌%◌, Bool, not, ◌&&◌, List, [], ◌∷◌, length, Ok, ◌==◌, nat_le}
use Rattle.std.specs.List.{list_all}
use Rattle.rules.specs.Limits.{block_size, most_blocks, most_used}
use Rattle.rules.specs.Outcome.{Outcome, ◌>>=◌, need}
use Rattle.rules.specs.declared.refusal.Refusal.TheVariants.{FileLength, BlockNumber, BlockUsed, BlockSum}
use Rattle.blocks.specs.Layout.{begins, block, blocks, number_in, used_in, sum_in, unused, summed}

-- (i + 1) times the first byte, (i + 2) times the next, and so on
unfoldable pub weighted : ℕ → List ℕ → ℕ
weighted i [] = 0
weighted i (b ∷ bs) = suc i * b + weighted (suc i) bs

unfoldable pub zeros : List ℕ → Bool
zeros bs = list_all (λ b. b == 0) bs

-- one block or more, and no part of one
abbrev pub measured : ℕ → Outcome Unit
measured n = need (not (n == 0) && nat_le n (most_blocks * block_size) && n % block_size == 0) (FileLength n)

-- the used count stays within the payload, and what is not used is zero
abbrev pub filled : List ℕ → Bool
filled b = nat_le (used_in b) most_used && zeros (unused b)

-- block k
abbrev pub sound : ℕ → List ℕ → Outcome Unit
sound k b = do
  _ ← need (number_in b == k) (BlockNumber (begins k) (number_in b))
  _ ← need (filled b) (BlockUsed (begins k) (used_in b))
  need (sum_in b == weighted 0 (summed b)) (BlockSum (begins k) (sum_in b))

-- n blocks from block k on
unfoldable pub all_sound : ℕ → ℕ → List ℕ → Outcome Unit
all_sound zero k file = Ok tt
all_sound (suc n) k file = do
  _ ← sound k (block k file)
  all_sound n (suc k) file

abbrev pub checked : List ℕ → Outcome Unit
checked file = do
  _ ← measured (length file)
  all_sound (blocks file) 0 file
