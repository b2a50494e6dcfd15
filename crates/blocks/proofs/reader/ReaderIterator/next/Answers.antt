use Rattle.std.proofs.Common.{sym, ◌∙◌}
use Rattle.blocks.proofs.Handing.{at_whole}
use Rattle.blocks.proofs.reader.ReaderIterator.next.Goals as goal

pub returns-clause-steps : goal.returns-clause-steps
returns-clause-steps c =
    sym c.settle.ensures.same ∙ at_whole c.settle.new.self c.in_ok-used.used.now c.in_ok-used.ensures.value _ _ c.in-Some.ensures
