-- The limits of a line.
use Rattle.std.specs.Prelude.{ℕ}

-- its end not counted
abbrev pub most_bytes : ℕ
most_bytes = 4096
