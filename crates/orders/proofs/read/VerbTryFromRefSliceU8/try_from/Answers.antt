use Rattle.std.proofs.Common.{rules, ◌≡◌, codes, arith}
use Rattle.std.proofs.lemmas.Slice.Eq.{text_from_reads}
use Rattle.text.specs.Names.{same}
use Rattle.orders.proofs.read.VerbTryFromRefSliceU8.try_from.Goals as goal

pub returns-in-thread : goal.returns-in-thread
unfolding same
returns-in-thread c = let word : c.args.word.now ≡ codes "thread" = text_from_reads _ _ (omega arith) (search rules) in rw word

pub returns-in-conditions : goal.returns-in-conditions
unfolding same
returns-in-conditions c = let word : c.args.word.now ≡ codes "conditions" = text_from_reads _ _ (omega arith) (search rules) in rw word

pub returns-in-rehearse : goal.returns-in-rehearse
unfolding same
returns-in-rehearse c = let word : c.args.word.now ≡ codes "rehearse" = text_from_reads _ _ (omega arith) (search rules) in rw word

pub returns-in-records : goal.returns-in-records
unfolding same
returns-in-records c = let word : c.args.word.now ≡ codes "records" = text_from_reads _ _ (omega arith) (search rules) in rw word
