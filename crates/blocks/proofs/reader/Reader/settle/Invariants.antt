use Rattle.std.proofs.Common.{◌≡◌, ◌≤◌, ◌-◌, length}
use Rattle.blocks.specs.Views.{bytes_left, to_come}
use Rattle.blocks.proofs.reader.Reader.settle.Given as goal

abbrev pub invariant-loop-bytes : goal.invariant-loop-bytes
invariant-loop-bytes l = (to_come l.self ≡ to_come l.initial.self) × (bytes_left l.self ≤ bytes_left l.initial.self)

abbrev pub decreases-loop-bytes : goal.decreases-loop-bytes
decreases-loop-bytes l = length l.self.blocks.now - l.self.number
