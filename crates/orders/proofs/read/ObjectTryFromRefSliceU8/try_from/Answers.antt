use Rattle.std.proofs.Common.{rules, ◌≡◌, codes, arith}
use Rattle.std.proofs.lemmas.Slice.Eq.{text_from_reads}
use Rattle.text.specs.Names.{same}
use Rattle.orders.proofs.read.ObjectTryFromRefSliceU8.try_from.Goals as goal

pub returns-in-conditions : goal.returns-in-conditions
unfolding same
returns-in-conditions c = let word : c.args.word.now ≡ codes "conditions" = text_from_reads _ _ (omega arith) (search rules) in rw word
