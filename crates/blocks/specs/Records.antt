-- The records of a file, as they are handed out.
use Rattle.std.specs.Prelude.{ℕ, zero, suc, ◌+◌, cond, List, [], ◌∷◌, length, take, drop, Some, None, Option, nat_le}
use Rattle.blocks.specs.Layout.{blocks, used, used_from, word}

-- a record with its place in the file, or one that is cut, with the used bytes from its letter on
pub data Handed : Type 0 where
  whole : (offset letter : ℕ) → List ℕ → Handed
  cut : (offset left : ℕ) → Handed

-- a letter, and the length of the body
abbrev pub head_size : ℕ
head_size = 3

-- the letter and the body at the front, if they are there whole
abbrev pub front : List ℕ → Option (ℕ × List ℕ)
front [] = None
front (a ∷ []) = None
front (a ∷ b ∷ []) = None
front (letter ∷ low ∷ high ∷ rest) = let size : ℕ = word low high in cond (nat_le size (length rest)) (Some (letter, take size rest)) None

-- what the bytes at an offset begin with, and what comes after so many bytes; nothing comes after a cut record
abbrev pub before : ℕ → List ℕ → Option (ℕ × List ℕ) → (ℕ → List Handed) → List Handed
before at bs None more = cut at (length bs) ∷ []
before at bs (Some r) more = whole at r.0 r.1 ∷ more (head_size + length r.1)

-- the records of bytes at an offset, in n turns, then those of later blocks
unfoldable pub records_in : ℕ → ℕ → List ℕ → List Handed → List Handed
records_in zero at bs later = later
records_in (suc n) at [] later = later
records_in (suc n) at (b ∷ bs) later = before at (b ∷ bs) (front (b ∷ bs)) (λ size. records_in n (at + size) (drop size (b ∷ bs)) later)

-- each record has a letter, so that as many turns as bytes are enough
abbrev pub records_of : ℕ → List ℕ → List Handed → List Handed
records_of at bs later = records_in (length bs) at bs later

-- the records of n blocks from block k on
unfoldable pub records_from : ℕ → ℕ → List ℕ → List Handed
records_from zero k file = []
records_from (suc n) k file = records_of (used_from k) (used k file) (records_from n (suc k) file)

abbrev pub records : List ℕ → List Handed
records file = records_from (blocks file) 0 file
