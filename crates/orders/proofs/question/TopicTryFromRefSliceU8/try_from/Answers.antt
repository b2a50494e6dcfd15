use Rattle.std.proofs.Common.{rules, ◌≡◌, codes, arith}
use Rattle.std.proofs.lemmas.Slice.Eq.{text_from_reads}
use Rattle.text.specs.Names.{same}
use Rattle.orders.proofs.question.TopicTryFromRefSliceU8.try_from.Goals as goal

pub returns-in-places : goal.returns-in-places
unfolding same
returns-in-places c = let word : c.args.word.now ≡ codes "places" = text_from_reads _ _ (omega arith) (search rules) in rw word
