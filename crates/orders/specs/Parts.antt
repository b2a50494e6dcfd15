-- What the languages of desks share: idle lines, numbers in a row, the arguments of a net of arcs.
use Rattle.std.specs.Prelude.{◌≡◌, ℕ, Bool, true, false, cond, List, [], ◌∷◌, Ok, Err, Result, ◌==◌}
use Rattle.rules.specs.Outcome.{◌>>=◌}
use Rattle.text.specs.Names.{same}
use Rattle.text.specs.Reading.{Read, first_number, ended, all_numbers}
use Rattle.text.specs.Words.{tail}
use Rattle.text.specs.declared.problem.Problem.{Problem}
use Rattle.text.specs.declared.problem.Problem.TheVariants.{Missing, NotANumber, NotAnEntry, NotHex, Surplus, Unknown, TooLong, NotText, Memory}

abbrev pub Word : Type 0
Word = List ℕ

abbrev pub no_memory : Problem → Bool
no_memory Missing = false
no_memory NotANumber = false
no_memory NotAnEntry = false
no_memory NotHex = false
no_memory Surplus = false
no_memory Unknown = false
no_memory TooLong = false
no_memory NotText = false
no_memory Memory = true

-- what a value stands for is read as the language says, but for want of memory
abbrev pub ReadBy : {V A : Type 0} → (V → A) → Read A → Result V Problem → Type 0
ReadBy meaning o (Ok v) = o ≡ Ok (meaning v)
ReadBy meaning o (Err e) = no_memory e ≡ false → o ≡ Err e

-- the first word is this name
abbrev pub first_named : List ℕ → List Word → Read Unit
first_named name [] = Err Missing
first_named name (w ∷ ws) = cond (same w name) (Ok tt) (Err Unknown)

-- the first word is this name, and the others are read on
abbrev pub named : {A : Type 0} → List ℕ → (List Word → Read A) → List Word → Read A
named name f ws = do
  _ ← first_named name ws
  f (tail ws)

-- no further words
abbrev pub alone : {A : Type 0} → A → List Word → Read A
alone a ws = do
  _ ← ended ws
  Ok a

-- one number and no more
abbrev pub read_single : List Word → Read ℕ
read_single ws = do
  n ← first_number ws
  _ ← ended (tail ws)
  Ok n

-- two numbers and no more
abbrev pub read_pair : List Word → Read (ℕ × ℕ)
read_pair ws = do
  a ← first_number ws
  b ← first_number (tail ws)
  _ ← ended (tail (tail ws))
  Ok (a, b)

-- two numbers and two more
abbrev pub read_pairs : List Word → Read ((ℕ × ℕ) × (ℕ × ℕ))
read_pairs ws = do
  a ← first_number ws
  b ← first_number (tail ws)
  k ← read_pair (tail (tail ws))
  Ok ((a, b), k)

-- a number of places, and start counts
abbrev pub read_arcs : List Word → Read (ℕ × List ℕ)
read_arcs ws = do
  places ← first_number ws
  starts ← all_numbers (tail ws)
  Ok (places, starts)

-- a first word that begins with #
abbrev pub comment : Word → Bool
comment [] = true
comment (b ∷ bs) = b == 35

-- nothing is ordered by no words at all, or by a comment
abbrev pub idle : List Word → Bool
idle [] = true
idle (w ∷ ws) = comment w
