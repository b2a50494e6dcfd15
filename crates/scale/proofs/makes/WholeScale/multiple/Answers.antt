use Rattle.std.proofs.Common.{◌*ℤ◌, w64, SFits, arith, rules}
use Rattle.scale.proofs.Multiples.{whole_fits, whole_times}
use Rattle.scale.proofs.makes.WholeScale.multiple.Goals as goal

pub returns : goal.returns
returns c =
    let fits : SFits w64 (c.from.result *ℤ c.args.a) = rw c.from.ensures (whole_fits c.args.n c.args.a (omega arith) c.requires.reach) in
    simp whole_times (search rules)
