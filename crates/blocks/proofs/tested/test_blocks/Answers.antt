use Rattle.std.proofs.Common.{[], get_or, ap, ◌∙◌, arith}
use Rattle.std.proofs.lemmas.Result.{err_from_is_err_and}
use Rattle.blocks.specs.Tests.{sound}
use Rattle.blocks.proofs.Passing.{one_refused}
use Rattle.blocks.proofs.tested.test_blocks.Goals as goal

pub returns-in_err-test : goal.returns-in_err-test
returns-in_err-test c =
    let k = c.loop-number.number in
    let p = err_from_is_err_and c.from_residual-in_err-test.result c.from_residual-in_err-test.ensures.1 in
    let refused = c.in_err-test.ensures ∙ ap (λ bs. sound k (get_or bs k [])) c.blocks_of-bytes-items.ensures.value in
    rw (p.1, p.2) (one_refused c.args.file.now k (omega arith) _ refused c.loop-number.invariant.1)
