-- What the code's entries stand for.
use Rattle.std.specs.Prelude.{◌≡◌, List, [], ◌∷◌, ℤ, Some, None, Option}
use Rattle.bodies.specs.Bodies.{Entry, entries}
use Rattle.bodies.specs.declared.Entries.{Entries}

abbrev pub listed : Entries → List Entry
listed x = entries x.shape x.bytes.now

-- the first entry and the others, or none
abbrev pub Opens : List Entry → Option (Entry × Entries) → Type 0
Opens es None = es ≡ []
Opens es (Some x) = es ≡ x.0 ∷ listed x.1

abbrev pub bounded : ℤ × Entries → ℤ × List Entry
bounded x = (x.0, listed x.1)
