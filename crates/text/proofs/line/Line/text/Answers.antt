use Rattle.std.proofs.Common.{vec_items, arith, rules}
use Rattle.text.proofs.Receiving.{whole}
use Rattle.text.proofs.line.Line.text.Goals as goal

pub returns-clause-value : goal.returns-clause-value
returns-clause-value c = let all = whole (vec_items c.args.self.now.bytes) (omega arith) in rw (all.0, all.1) (search rules)
