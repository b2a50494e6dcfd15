use Rattle.std.proofs.Common.{◌≡◌, ◌+◌, ◌^◌, ◌<◌}
use Rattle.blocks.specs.Views.{bytes_left, to_come}
use Rattle.blocks.specs.Counting.{count_from, count_records}
use Rattle.blocks.proofs.counted.count_records.Given as goal

abbrev pub invariant-loop-record : goal.invariant-loop-record
invariant-loop-record l = (count_from l.count (to_come l.record-iterator) ≡ count_records l.file) × (l.count + bytes_left l.record-iterator < 2 ^ 64)
