use Rattle.text.proofs.Spelling.{all_read}
use Rattle.text.proofs.numbers.number.Goals as goal

pub returns : goal.returns
returns c = all_read _ _ _ c.loop-byte-test.false c.loop-byte.invariant.0 c.loop-byte.invariant.1
