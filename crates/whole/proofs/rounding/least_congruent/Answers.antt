use Rattle.std.proofs.Common.{◌≡◌, pos, ◌+ℤ◌, ◌-ℤ◌, sym, subst, arith, w64, to_z, of_z}
use mir.Syntax.{w128}
use Rattle.std.specs.Int.{int_rem_euclid}
use Rattle.std.proofs.lemmas.Int.{ints, to_z-of_z}
use Rattle.whole.specs.Rounding.{risen, Rises}
use Rattle.whole.proofs.Raising.{risen_rises}
use Rattle.whole.proofs.rounding.least_congruent.Goals as goal

pub returns : goal.returns
returns c =
    let b = c.args.bound in
    let s = c.args.to in
    let m = c.args.modulus.value in
    let rest : c.rem_euclid.result ≡ int_rem_euclid (s -ℤ b) (pos m) = grind (arith, ints, to_z-of_z) in
    let value : to_z w64 (of_z w64 (to_z w64 (of_z w64 b) +ℤ to_z w64 (of_z w64 (to_z w128 (of_z w128 c.rem_euclid.result))))) ≡ risen b s m = omega (arith, ints, rest) in
    record { value = value; rises = subst (Rises b s m) (sym value) (risen_rises b s m c.args.modulus.ok) }
