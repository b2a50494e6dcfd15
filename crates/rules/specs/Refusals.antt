-- Number, layer, offset and detail of each refusal.
use Rattle.std.specs.Prelude.{ℕ, List, ◌++◌, codes, decimal}
use Rattle.rules.specs.Faults.{fault_told}
use Rattle.rules.specs.declared.refusal.Told.{Told}
use Rattle.rules.specs.declared.refusal.Refusal.{Refusal}
use Rattle.rules.specs.declared.refusal.Refusal.TheVariants.{PlaceCount, StartLength, StartTokens, CueRange, PlaceRange, TakenRange, GivenRange, EmptyArc, NoSuchCue, ArcsFull, ArcOrder, CueShort, PlaceFull, NoArcs, StateCount, StartState, NoSuchThread, NoSuchState, ThreadsFull, MovesFull, ThreadAfterMove, MoveOrder, NoMoves, ConditionRange, RowsFull, NoRows, Step, FileLength, BlockNumber, BlockUsed, BlockSum, RecordCut}

abbrev pub tells : ℕ → ℕ → ℕ → ℕ → Told
tells n l o d = record { number = n; layer = l; offset = o; detail = d }

abbrev pub told : Refusal → Told
told (PlaceCount n) = tells 20 0 0 0
told (StartLength k n) = tells 20 0 0 0
told (StartTokens p k) = tells 20 0 0 0
told (CueRange t) = tells 20 0 0 0
told (PlaceRange p) = tells 20 0 0 0
told (TakenRange k) = tells 20 0 0 0
told (GivenRange k) = tells 20 0 0 0
told EmptyArc = tells 20 0 0 0
told (NoSuchCue t) = tells 20 0 0 0
told ArcsFull = tells 33 0 0 0
told ArcOrder = tells 34 0 0 0
told (CueShort p) = tells 35 0 0 p
told (PlaceFull p) = tells 36 0 0 p
told NoArcs = tells 39 0 0 0
told (StateCount n) = tells 20 0 0 0
told (StartState s n) = tells 20 0 0 0
told (NoSuchThread k) = tells 20 0 0 0
told (NoSuchState s) = tells 20 0 0 0
told ThreadsFull = tells 33 0 0 0
told MovesFull = tells 33 0 0 0
told ThreadAfterMove = tells 34 0 0 0
told MoveOrder = tells 34 0 0 0
told NoMoves = tells 39 0 0 0
told (ConditionRange c) = tells 20 0 0 0
told RowsFull = tells 33 0 0 0
told NoRows = tells 39 0 0 0
told (Step o f) = tells (fault_told f).0 3 o (fault_told f).1
told (FileLength n) = tells 1 1 0 n
told (BlockNumber o n) = tells 2 1 o n
told (BlockUsed o n) = tells 3 1 o n
told (BlockSum o n) = tells 4 1 o n
told (RecordCut o n) = tells 5 2 o n

-- a refusal as the desk begins to answer it
abbrev pub line : Told → List ℕ
line t = codes "refused " ++ (decimal t.number ++ (codes " layer " ++ (decimal t.layer ++ (codes " offset " ++ (decimal t.offset ++ (codes " detail " ++ decimal t.detail))))))
