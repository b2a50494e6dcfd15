use Rattle.std.proofs.Common.{◌≤◌, nat_abs, replicate, arith, w64, to_z, of_z}
use Rattle.std.proofs.lemmas.Bool.{le-leb}
use Rattle.std.proofs.lemmas.Int.{ints}
use Rattle.scale.specs.Sums.{most_reach}
use Rattle.whole.proofs.Passing.{all_replicate}
use Rattle.line.specs.Conditions.{light}
use Rattle.line.proofs.Fitness.{light_coefficients}
use Rattle.examples.proofs.weights.everywhere.Goals as goal

pub returns : goal.returns
returns c =
    let weight = to_z w64 (of_z w64 c.args.weight) in
    let small : nat_abs weight ≤ most_reach = omega (arith, ints) in
    light_coefficients (replicate 96 weight) (all_replicate light 96 weight (le-leb _ _ small))
