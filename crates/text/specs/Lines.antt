-- A line as it comes in.
use Rattle.std.specs.Prelude.{◌≡◌, ℕ, Bool, true, false, cond, ◌⊎◌, List, [], ◌∷◌, ◌++◌, length, take, Ok, Err, vec_items, IsUtf8, Result, nat_lt}
use Rattle.std.specs.Borrow.{Bor}
use Rattle.text.specs.Limits.{most_bytes}
use Rattle.text.specs.declared.line.Line.{Line}
use Rattle.text.specs.declared.problem.Problem.{Problem}
use Rattle.text.specs.declared.problem.Problem.TheVariants.{TooLong, NotText}

-- the bytes so far, up to the limit, and whether more came
pub record Received : Type 0 where
  pub bytes : List ℕ
  pub long : Bool

abbrev pub received : Line → Received
received l = record { bytes = take most_bytes (vec_items l.bytes); long = nat_lt most_bytes (length (vec_items l.bytes)) }

abbrev pub empty_line : Received
empty_line = record { bytes = []; long = false }

abbrev pub grown : ℕ → Received → Received
grown b l = cond (nat_lt (length l.bytes) most_bytes) (record { bytes = l.bytes ++ (b ∷ []); long = l.long }) (record { bytes = l.bytes; long = true })

abbrev pub viewed : Result (Bor (List ℕ)) Problem → Result (List ℕ) Problem
viewed (Ok s) = Ok s.now
viewed (Err e) = Err e

-- a line is handed out whole, unless it is too long or no text
abbrev pub handed : Received → Result (List ℕ) Problem → Type 0
handed l (Ok bytes) = (l.long ≡ false) × (bytes ≡ l.bytes) × IsUtf8 l.bytes
handed l (Err e) = ((l.long ≡ true) × (e ≡ TooLong)) ⊎ ((l.long ≡ false) × (e ≡ NotText) × (IsUtf8 l.bytes → ⊥))
