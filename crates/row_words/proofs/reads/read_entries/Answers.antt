use Rattle.std.proofs.Common.{vec_items, sym, ◌∙◌}
use Rattle.std.proofs.lemmas.Result.{err_from_is_err_and}
use Rattle.row_words.proofs.Gathering.{entries_stop}
use Rattle.row_words.proofs.reads.read_entries.Goals as goal

pub returns-in_err-entry : goal.returns-in_err-entry
returns-in_err-entry c =
    let p = err_from_is_err_and c.from_residual.result c.from_residual.ensures.1 in
    let stop = entries_stop (vec_items c.loop-word.body) _ _ _ _ c.in-Some.ensures.steps (c.in_err-entry.ensures.value ∙ c.read_entry.ensures) in
    rw (p.1, p.2) (λ _. sym c.loop-word.invariant.2 ∙ stop)
