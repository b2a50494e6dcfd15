-- What is handed out are parts of the file's used bytes, one after another, and all of them.
use Rattle.std.specs.Prelude.{◌≡◌, ℕ, ◌+◌, ◌<◌, ◌≤◌, List, [], ◌∷◌, length, slice_index}
use Rattle.std.specs.List.{between, ContainsAt, AllByRecursion}
use Rattle.blocks.specs.Layout.{blocks, used_from, used_to, word_at}
use Rattle.blocks.specs.Records.{Handed, whole, cut, head_size}

-- a record's head and body are used bytes of block k
pub record IsPart (file : List ℕ) (k o l : ℕ) (b : List ℕ) : Type 0 where
  pub block : k < blocks file
  pub begins : used_from k ≤ o
  pub ends : o + head_size + length b ≤ used_to k file
  pub letter : l ≡ slice_index file o
  pub size : length b ≡ word_at file (o + 1)
  pub body : b ≡ between (o + head_size) (o + head_size + length b) file

-- the n used bytes of block k from o on are too few for a record
pub record IsCut (file : List ℕ) (k o n : ℕ) : Type 0 where
  pub block : k < blocks file
  pub begins : used_from k ≤ o
  pub left : o + n ≡ used_to k file
  pub some : 0 < n
  pub few : head_size ≤ n → n < head_size + word_at file (o + 1)

abbrev pub InFile : List ℕ → Handed → Type 0
InFile file (whole o l b) = (k : ℕ) × IsPart file k o l b
InFile file (cut o n) = (k : ℕ) × IsCut file k o n

abbrev pub start : Handed → ℕ
start (whole o l b) = o
start (cut o n) = o

abbrev pub end : Handed → ℕ
end (whole o l b) = o + head_size + length b
end (cut o n) = o + n

-- each ends before a later one starts
abbrev pub Disjoint : List Handed → Type 0
Disjoint [] = Unit {0}
Disjoint (h ∷ hs) = AllByRecursion (λ later. end h ≤ start later) hs × Disjoint hs

-- a cut record is the last
abbrev pub CutLast : List Handed → Type 0
CutLast [] = Unit {0}
CutLast (whole o l b ∷ hs) = CutLast hs
CutLast (cut o n ∷ hs) = hs ≡ []

-- byte i is the record's; a cut one leaves the file's rest unread
abbrev pub Covers : Handed → ℕ → Type 0
Covers (whole o l b) i = (o ≤ i) × (i < o + head_size + length b)
Covers (cut o n) i = o ≤ i

pub record Covered (file : List ℕ) (hs : List Handed) : Type 0 where
  pub parts : AllByRecursion (InFile file) hs
  pub disjoint : Disjoint hs
  pub last : CutLast hs
  pub used : (k i : ℕ) → k < blocks file → used_from k ≤ i → i < used_to k file → (h : Handed) × ContainsAt hs h × Covers h i
