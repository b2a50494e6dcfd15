use Rattle.std.proofs.Common.{◌∙◌, vec_items}
use Rattle.std.proofs.lemmas.Result.{err_from_is_err_and}
use Rattle.text.proofs.Gathering.{gather_stop}
use Rattle.text.proofs.words.Words.numbers.Goals as goal

pub returns-in_err-number-clause-value : goal.returns-in_err-number-clause-value
returns-in_err-number-clause-value c =
    let p = err_from_is_err_and c.from_residual.result c.from_residual.ensures.1 in
    let stop = gather_stop (vec_items c.loop-word.numbers) _ _ _ _ c.in-Some.ensures.steps c.in_err-number.ensures in
    rw (p.1, p.2) (λ _. c.loop-word.invariant ∙ stop)
