use Rattle.std.proofs.Common.{◌≡◌, Ok}
use Rattle.blocks.specs.Views.{to_come}
use Rattle.file_trials.specs.Following.{longest, longest_body}
use Rattle.file_trials.proofs.longest_body.Given as goal

abbrev pub invariant-loop-record : goal.invariant-loop-record
invariant-loop-record l = Ok (longest l.longest (to_come l.record-iterator)) ≡ longest_body l.file
