use Rattle.std.proofs.Common.{rules}
use Rattle.scale.proofs.Multiples.{pair_times}
use Rattle.scale.proofs.makes.PairsScale.multiple.Goals as goal

pub returns : goal.returns
returns c = simp pair_times (search rules)
