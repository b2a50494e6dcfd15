use Rattle.std.proofs.Common.{◌≡◌, vec_items}
use Rattle.text.specs.Words.{remaining}
use Rattle.row_words.specs.RowWords.{entries_onto}
use Rattle.row_words.proofs.reads.read_entries.Given as goal

abbrev pub invariant-loop-word : goal.invariant-loop-word
invariant-loop-word l =
    (goal.iterator-loop-word).can_next l.word-iterator ×
    (goal.iterator-loop-word).is_finite l.word-iterator ×
    (entries_onto (vec_items l.body) (remaining l.word-iterator) ≡ entries_onto (vec_items l.initial.body) (remaining l.fn.words))
