use Rattle.std.proofs.Common.{◌≡◌, ◌≤◌}
use Rattle.bodies.specs.Bodies.{unfit, unfit_from}
use Rattle.bodies.specs.Views.{listed}
use Rattle.bodies.proofs.Entries.unfit.Given as goal

abbrev pub invariant-loop-i : goal.invariant-loop-i
invariant-loop-i l = (unfit_from l.i-iterator.count l.least (listed l.i-iterator.iter) ≡ unfit (listed l.self)) × (l.least ≤ 256)
