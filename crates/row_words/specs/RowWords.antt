-- A row's body from the words that an operator writes.
use Rattle.std.specs.Prelude.{◌≡◌, ℕ, suc, ◌+◌, ◌-◌, ◌*◌, ◌/◌, ◌%◌, cond, ◌&&◌, List, [], ◌∷◌, ◌++◌, take, drop, ℤ, pos, negsuc, Some, None, Ok, Err, codes, Option, Result, ◌==◌, ◌≢◌, int_le, nat_le}
use Rattle.std.specs.Option.{ok_or}
use Rattle.rules.specs.Outcome.{◌>>=◌}
use Rattle.text.specs.Names.{same}
use Rattle.text.specs.Numbers.{number, signed}
use Rattle.text.specs.Reading.{Read, ended}
use Rattle.text.specs.declared.problem.Problem.TheVariants.{Missing, NotANumber, NotAnEntry, NotHex, Memory}
use Rattle.text.specs.declared.problem.Problem.{Problem}

abbrev pub Word : Type 0
Word = List ℕ

-- two's complement, so many values in all
abbrev pub wrapped : ℕ → ℤ → ℕ
wrapped values (pos n) = n
wrapped values (negsuc n) = (values - 1) - n

-- little-endian
abbrev pub two_bytes : ℕ → List ℕ
two_bytes n = n % 256 ∷ (n / 256) % 256 ∷ []

abbrev pub four_bytes : ℕ → List ℕ
four_bytes n = n % 256 ∷ (n / 256) % 256 ∷ (n / 65536) % 256 ∷ (n / 16777216) % 256 ∷ []

-- where the first colon stands, counted from i on
abbrev pub colon_from : ℕ → Word → Option ℕ
colon_from i [] = None
colon_from i (b ∷ bs) = let rest : Option ℕ = colon_from (suc i) bs in cond (b == 58) (Some i) rest

-- z, if it is a signed number of two bytes
abbrev pub two_byte : ℤ → Option ℤ
two_byte z = cond (int_le (negsuc 32767) z && int_le z (pos 32767)) (Some z) None

abbrev pub one_byte : ℕ → Option ℕ
one_byte n = cond (nat_le n 255) (Some n) None

-- PLACE:WEIGHT
abbrev pub as_entry : Word → Read (List ℕ)
as_entry w = do
  i ← ok_or (colon_from 0 w) NotAnEntry
  n ← ok_or (number (take i w)) NotAnEntry
  p ← ok_or (one_byte n) NotAnEntry
  y ← ok_or (signed (drop (i + 1) w)) NotAnEntry
  z ← ok_or (two_byte y) NotAnEntry
  Ok (p ∷ two_bytes (wrapped 65536 z))

-- a body and the entries of more words
unfoldable pub entries_onto : List ℕ → List Word → Read (List ℕ)
entries_onto bs [] = Ok bs
entries_onto bs (w ∷ ws) = as_entry w >>= λ e. entries_onto (bs ++ e) ws

abbrev pub as_bound : Word → Read (List ℕ)
as_bound w = do
  z ← ok_or (signed w) NotANumber
  Ok (four_bytes (wrapped 4294967296 z))

-- a hexadecimal digit, in either case
abbrev pub hex_digit : ℕ → Option ℕ
hex_digit b =
    cond (nat_le 48 b && nat_le b 57) (Some (b - 48))
    (cond (nat_le 97 b && nat_le b 102) (Some (b - 87))
    (cond (nat_le 65 b && nat_le b 70) (Some (b - 55)) None))

-- a byte of two digits
abbrev pub paired : Option ℕ → Option ℕ → Option ℕ
paired None y = None
paired (Some x) None = None
paired (Some x) (Some y) = Some (16 * x + y)

abbrev pub hex_byte : ℕ → ℕ → Option ℕ
hex_byte high low = paired (hex_digit high) (hex_digit low)

-- a body and the bytes of more digits
unfoldable pub hex_onto : List ℕ → Word → Read (List ℕ)
hex_onto bs [] = Ok bs
hex_onto bs (a ∷ []) = Err NotHex
hex_onto bs (a ∷ b ∷ rest) = ok_or (hex_byte a b) NotHex >>= λ x. hex_onto (bs ++ (x ∷ [])) rest

-- the digits of one word, or none
abbrev pub hex_body : List Word → Read (List ℕ)
hex_body [] = Ok []
hex_body (w ∷ ws) = do
  _ ← ended ws
  hex_onto [] w

abbrev pub spelt_body : Word → List Word → Read (List ℕ)
spelt_body w ws = as_bound w >>= λ bs. entries_onto bs ws

-- a bound and entries, or bytes written out
abbrev pub row_body : List Word → Read (List ℕ)
row_body [] = Err Missing
row_body (w ∷ ws) =
    let written : Read (List ℕ) = hex_body ws in
    let spelt : Read (List ℕ) = spelt_body w ws in
    cond (same w (codes "hex")) written spelt

-- what a body came to is as it is read, but for want of memory
abbrev pub Grown : Read (List ℕ) → Result Unit Problem → List ℕ → Type 0
Grown o (Ok _) bs = o ≡ Ok bs
Grown o (Err e) bs = (e ≢ Memory) → o ≡ Err e

abbrev pub ReadBody : {V : Type 0} → (V → List ℕ) → Read (List ℕ) → Result V Problem → Type 0
ReadBody items o (Ok v) = o ≡ Ok (items v)
ReadBody items o (Err e) = (e ≢ Memory) → o ≡ Err e
