use Rattle.std.proofs.Common.{rules, ◌≡◌, codes, arith}
use Rattle.std.proofs.lemmas.Slice.Eq.{text_from_reads}
use Rattle.text.specs.Names.{same}
use Rattle.orders.proofs.read.MakeTryFromRefSliceU8.try_from.Goals as goal

pub returns-in-threads : goal.returns-in-threads
unfolding same
returns-in-threads c = let word : c.args.word.now ≡ codes "threads" = text_from_reads _ _ (omega arith) (search rules) in rw word
