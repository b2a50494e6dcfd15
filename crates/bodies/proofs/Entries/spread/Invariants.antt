use Rattle.std.proofs.Common.{◌≡◌, length}
use Rattle.rules.specs.Limits.{most_places}
use Rattle.bodies.specs.Bodies.{spread, spread_on}
use Rattle.bodies.specs.Views.{listed}
use Rattle.bodies.proofs.Entries.spread.Given as goal

abbrev pub invariant-loop-entry : goal.invariant-loop-entry
invariant-loop-entry l = (spread_on l.numbers (listed l.entry-iterator) ≡ spread (listed l.self)) × (length l.numbers ≡ most_places)
