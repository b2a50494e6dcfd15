-- What a reader has still to hand out, and what a call of it hands out.
use Rattle.std.specs.Prelude.{◌≡◌, ◌<◌, ℕ, ◌+◌, ◌-◌, ◌*◌, min, List, [], ◌∷◌, length, drop, get_or, Some, None, Ok, Err, Option}
use Rattle.rules.specs.Limits.{block_size}
use Rattle.rules.specs.Outcome.{Outcome}
use Rattle.rules.specs.declared.refusal.Refusal.TheVariants.{RecordCut}
use Rattle.blocks.specs.Layout.{used_bytes, used_from}
use Rattle.blocks.specs.Records.{Handed, whole, cut, records_of}
use Rattle.blocks.specs.declared.reader.Reader.{Reader}
use Rattle.blocks.specs.declared.reader.Record.{Record}

-- the records of blocks, the first of which is block k, from its used byte i on
abbrev pub records_at : ℕ → ℕ → List (List ℕ) → List Handed
records_at k i [] = []
records_at k i (b ∷ bs) = records_of (used_from k + i) (drop i (used_bytes b)) (records_at (k + 1) 0 bs)

abbrev pub to_come : Reader → List Handed
to_come r = records_at r.number r.at (drop r.number r.blocks.now)

-- no more bytes than these are left
abbrev pub bytes_left : Reader → ℕ
bytes_left r = block_size * (length r.blocks.now - r.number) - min r.at block_size

-- a call hands out the first of those to come, or tells of a cut record, which is the last
abbrev pub Hands : Reader → Option (Outcome Record) → Reader → Type 0
Hands s None t = (to_come s ≡ []) × (to_come t ≡ [])
Hands s (Some (Ok r)) t = to_come s ≡ whole r.offset r.letter r.body.now ∷ to_come t
Hands s (Some (Err e)) t = (o n : ℕ) × (e ≡ RecordCut o n) × (to_come s ≡ cut o n ∷ []) × (to_come t ≡ [])

-- the used bytes of the block where it stands
abbrev pub in_block : Reader → List ℕ
in_block r = used_bytes (get_or r.blocks.now r.number [])

-- these are still to be read of them
pub record Stands (r : Reader) (bs : List ℕ) : Type 0 where
  pub block : r.number < length r.blocks.now
  pub is : bs ≡ drop r.at (in_block r)
  pub some : r.at < length (in_block r)
