use Rattle.std.proofs.Common.{◌≡◌}
use Rattle.blocks.specs.Views.{to_come}
use Rattle.file_trials.specs.Following.{follow, last_letter}
use Rattle.file_trials.proofs.last_letter.Given as goal

abbrev pub invariant-loop-record : goal.invariant-loop-record
invariant-loop-record l = follow l.last (to_come l.record-iterator) ≡ last_letter l.file
