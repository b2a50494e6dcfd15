use Rattle.std.proofs.Common.{length, ap, arith}
use Rattle.std.proofs.lemmas.List.{take_rest}
use Rattle.text.proofs.Splitting.{first_word}
use Rattle.text.proofs.words.WordsIterator.next.Goals as goal

pub returns : goal.returns
returns c =
    let cut = take_rest c.args.self.now.rest.now c.in-Some.start in
    let steps = first_word _ _ _ _ _ _ _ c.in-Some.ensures cut c.word_end.ensures c.unwrap_or-end.ensures c.split_at.ensures.front c.split_at.ensures.back in
    record { steps = steps; goes = record { on = λ _. (tt, tt, omega (arith, ap length steps)); keeps = tt; rests = λ _. tt } }
