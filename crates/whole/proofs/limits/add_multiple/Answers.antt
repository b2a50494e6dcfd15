use Rattle.std.proofs.Common.{◌≡◌, pos, ◌+ℤ◌, ◌*ℤ◌, arith, to_z, of_z, rules}
use mir.Syntax.{w128}
use Rattle.std.proofs.lemmas.Int.{ints}
use Rattle.whole.proofs.Ints.{times_bounds}
use Rattle.whole.proofs.limits.add_multiple.Goals as goal

pub returns : goal.returns
returns c =
    let sum = c.args.sum in
    let times = c.args.times in
    let x = c.args.x in
    let bounds = times_bounds times x (omega arith) c.ranges.x in
    let product : to_z w128 (of_z w128 c.from-2.result) *ℤ to_z w128 (of_z w128 c.from-3.result) ≡ pos times *ℤ x = search rules in
    let same : to_z w128 (of_z w128 (to_z w128 (of_z w128 c.from.result) +ℤ to_z w128 (of_z w128 (to_z w128 (of_z w128 c.from-2.result) *ℤ to_z w128 (of_z w128 c.from-3.result))))) ≡ sum +ℤ pos times *ℤ x = rw product (omega (arith, ints)) in
    rw same at c.limited.ensures
