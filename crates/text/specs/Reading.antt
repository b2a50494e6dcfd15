-- Words read as numbers, the first problem told.
use Rattle.std.specs.Prelude.{ℕ, List, [], ◌∷◌, Ok, Err, Result}
use Rattle.std.specs.Option.{ok_or}
use Rattle.rules.specs.Outcome.{◌>>=◌}
use Rattle.text.specs.Numbers.{number}
use Rattle.text.specs.declared.problem.Problem.{Problem}
use Rattle.text.specs.declared.problem.Problem.TheVariants.{Missing, NotANumber, Surplus}

-- what was read, or what is wrong
abbrev pub Read : Type 0 → Type 0
Read A = Result A Problem

abbrev pub as_number : List ℕ → Read ℕ
as_number w = ok_or (number w) NotANumber

abbrev pub first_number : List (List ℕ) → Read ℕ
first_number [] = Err Missing
first_number (w ∷ ws) = as_number w

abbrev pub ended : List (List ℕ) → Read Unit
ended [] = Ok tt
ended (w ∷ ws) = Err Surplus

unfoldable pub all_numbers : List (List ℕ) → Read (List ℕ)
all_numbers [] = Ok []
all_numbers (w ∷ ws) = do
  n ← as_number w
  ns ← all_numbers ws
  Ok (n ∷ ns)
