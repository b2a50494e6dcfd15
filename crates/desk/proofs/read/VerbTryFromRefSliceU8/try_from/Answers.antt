use Rattle.std.proofs.Common.{rules, ◌≡◌, codes, arith}
use Rattle.std.proofs.lemmas.Slice.Eq.{text_from_reads}
use Rattle.text.specs.Names.{same}
use Rattle.desk.proofs.read.VerbTryFromRefSliceU8.try_from.Goals as goal

pub returns-in-rehearse : goal.returns-in-rehearse
unfolding same
returns-in-rehearse c = let word : c.args.word.now ≡ codes "rehearse" = text_from_reads _ _ (omega arith) (search rules) in rw word
