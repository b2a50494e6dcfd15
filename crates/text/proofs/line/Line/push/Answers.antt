use Rattle.std.proofs.Common.{vec_items, arith}
use Rattle.text.proofs.Receiving.{no_more}
use Rattle.text.proofs.line.Line.push.Goals as goal

pub returns-else-len-le-MOST_BYTES : goal.returns-else-len-le-MOST_BYTES
returns-else-len-le-MOST_BYTES c = no_more (vec_items c.args.self.now.bytes) c.args.byte (omega arith)
