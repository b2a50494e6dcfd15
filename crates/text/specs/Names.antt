-- Words compared with names.
use Rattle.std.specs.Prelude.{ℕ, Bool, List}
use Rattle.std.specs.Str.{bytes_eq}

-- byte by byte
unfoldable pub same : List ℕ → List ℕ → Bool
same word name = bytes_eq word name
