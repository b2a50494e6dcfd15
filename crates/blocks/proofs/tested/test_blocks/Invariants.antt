use Rattle.std.proofs.Common.{◌≡◌, ◌-◌, ◌≤◌}
use Rattle.rules.specs.Limits.{most_blocks}
use Rattle.blocks.specs.Layout.{blocks}
use Rattle.blocks.specs.Tests.{all_sound, checked}
use Rattle.blocks.proofs.tested.test_blocks.Given as goal

abbrev pub invariant-loop-number : goal.invariant-loop-number
invariant-loop-number l = (blocks l.file ≤ most_blocks) × (all_sound (blocks l.file - l.number) l.number l.file ≡ checked l.file)
