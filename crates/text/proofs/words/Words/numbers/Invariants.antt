use Rattle.std.proofs.Common.{◌≡◌, length, vec_items}
use Rattle.text.specs.Reading.{all_numbers}
use Rattle.text.specs.Words.{remaining}
use Rattle.text.proofs.Gathering.{after}
use Rattle.text.proofs.words.Words.numbers.Given as goal

abbrev pub invariant-loop-word : goal.invariant-loop-word
invariant-loop-word l = all_numbers (remaining l.initial.self) ≡ after (vec_items l.numbers) (all_numbers (remaining l.self))

abbrev pub decreases-loop-word : goal.decreases-loop-word
decreases-loop-word l = length (remaining l.self)
