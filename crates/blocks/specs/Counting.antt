-- How many records a file has.
use Rattle.std.specs.Prelude.{ℕ, ◌+◌, List, [], ◌∷◌, Ok, Err}
use Rattle.rules.specs.Outcome.{Outcome, ◌>>=◌}
use Rattle.rules.specs.declared.refusal.Refusal.TheVariants.{RecordCut}
use Rattle.blocks.specs.Records.{Handed, whole, cut, records}
use Rattle.blocks.specs.Tests.{checked}

-- n and those that are handed out; a cut one is told
unfoldable pub count_from : ℕ → List Handed → Outcome ℕ
count_from n [] = Ok n
count_from n (whole o l b ∷ hs) = count_from (n + 1) hs
count_from n (cut o k ∷ hs) = Err (RecordCut o k)

abbrev pub count_records : List ℕ → Outcome ℕ
count_records file = do
  _ ← checked file
  count_from 0 (records file)
