use Rattle.std.proofs.Common.{◌≡◌, pos, ◌-ℤ◌, neg_ℤ, sym, subst, arith, w64, to_z, of_z, rules}
use mir.Syntax.{w128}
use Rattle.std.specs.Int.{int_div_euclid}
use Rattle.std.proofs.lemmas.Int.{ints, to_z-of_z}
use Rattle.whole.specs.Rounding.{rounded_up, RoundsUp}
use Rattle.whole.proofs.Raising.{rounds_up, opposite_rounded}
use Rattle.whole.proofs.rounding.round_up.Goals as goal

pub returns : goal.returns
returns c =
    let b = c.args.bound in
    let g = c.args.by.value in
    let down : c.div_euclid.result ≡ int_div_euclid (neg_ℤ b) (pos g) = grind (arith, ints, to_z-of_z) in
    let up = opposite_rounded b g c.args.by.ok in
    let value : to_z w64 (of_z w64 (to_z w128 (of_z w128 (pos 0 -ℤ to_z w128 (of_z w128 c.div_euclid.result))))) ≡ rounded_up b g = search rules in
    record { value = value; up = subst (RoundsUp b g) (sym value) (rounds_up b g c.args.by.ok) }
