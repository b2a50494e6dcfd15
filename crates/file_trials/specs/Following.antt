-- A file's records gone through one after another.
use Rattle.std.specs.Prelude.{ℕ, max, List, [], ◌∷◌, length, Some, None, Ok, Err, Option}
use Rattle.rules.specs.Outcome.{Outcome, ◌>>=◌}
use Rattle.rules.specs.declared.refusal.Refusal.TheVariants.{RecordCut}
use Rattle.blocks.specs.Records.{Handed, whole, cut, records}
use Rattle.blocks.specs.Tests.{checked}

-- the last letter, after one that came before
unfoldable pub follow : Option ℕ → List Handed → Outcome (Option ℕ)
follow last [] = Ok last
follow last (whole o l b ∷ hs) = follow (Some l) hs
follow last (cut o n ∷ hs) = Err (RecordCut o n)

abbrev pub last_letter : List ℕ → Outcome (Option ℕ)
last_letter file = do
  _ ← checked file
  follow None (records file)

-- the longest body, or n; of a cut record what is left
unfoldable pub longest : ℕ → List Handed → ℕ
longest n [] = n
longest n (whole o l b ∷ hs) = longest (max n (length b)) hs
longest n (cut o m ∷ hs) = max n m

abbrev pub longest_body : List ℕ → Outcome ℕ
longest_body file = do
  _ ← checked file
  Ok (longest 0 (records file))
