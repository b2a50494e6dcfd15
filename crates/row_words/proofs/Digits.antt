-- Hexadecimal digits, as they are read here and as the crate `hex` reads them.
use Rattle.std.proofs.Common.{◌≡◌, ℕ, ◌+◌, ◌%◌, List, [], ◌∷◌, ◌++◌, length, Option, Some, None, Result, Ok, Err, sym, refl, ap, ◌∙◌, inl, inr, append_assoc, append-nil, arith, mul_comm}
use Rattle.std.proofs.lemmas.Bool.{cases_eq, eq-eqb, ne_eqb}
use Rattle.std.proofs.lemmas.Bool.Decides.{nat_tests}
use Rattle.std.specs.Option.{ok_or}
use Rattle.hex.specs.Hex.{decode_of, decode_pairs, hex_digit_value, pair_value}
use Rattle.hex.proofs.Pairs.{cons_byte, decode_pairs-ok_pair, decode_pairs-err_pair}
use Rattle.hex.specs.declared.error.FromHexError.{FromHexError}
use Rattle.rules.specs.Outcome.{◌>>=◌}
use Rattle.text.specs.Reading.{Read}
use Rattle.text.specs.declared.problem.Problem.TheVariants.{NotHex}
use Rattle.row_words.specs.RowWords.{hex_byte, hex_digit, hex_onto, paired}

digit_read : (c : ℕ) → hex_digit_value c ≡ hex_digit c
digit_read c = grind (arith, nat_tests)

-- a body and what `hex` reads after it
abbrev pub onto : List ℕ → Result (List ℕ) FromHexError → Read (List ℕ)
onto bs (Ok ms) = Ok (bs ++ ms)
onto bs (Err e) = Err NotHex

-- the byte of two digits
abbrev byte : Result ℕ FromHexError → Read ℕ
byte (Ok b) = Ok b
byte (Err e) = Err NotHex

byte_of : (a b i : ℕ) (x y : Option ℕ) → hex_digit_value a ≡ x → hex_digit_value b ≡ y → byte (pair_value a b i) ≡ ok_or (paired x y) NotHex
byte_of a b i None y e f = rw e
byte_of a b i (Some x) None e f = rw (e, f)
byte_of a b i (Some x) (Some y) e f = rw (e, f, mul_comm x 16)

byte_read : (a b i : ℕ) → byte (pair_value a b i) ≡ ok_or (hex_byte a b) NotHex
byte_read a b i = byte_of a b i _ _ (digit_read a) (digit_read b)

onto_cons : (bs : List ℕ) (x : ℕ) (o : Result (List ℕ) FromHexError) → onto (bs ++ x ∷ []) o ≡ onto bs (cons_byte x o)
onto_cons bs x (Ok ms) = ap Ok (append_assoc bs (x ∷ []) ms)
onto_cons bs x (Err e) = refl

pair_read : (bs : List ℕ) (i a b : ℕ) (rest : List ℕ) (r : Result ℕ FromHexError) → pair_value a b i ≡ r
    → ((cs : List ℕ) → hex_onto cs rest ≡ onto cs (decode_pairs (i + 2) rest)) → hex_onto bs (a ∷ b ∷ rest) ≡ onto bs (decode_pairs i (a ∷ b ∷ rest))
unfolding hex_onto
pair_read bs i a b rest (Ok x) e ih =
    let read : ok_or (hex_byte a b) NotHex ≡ Ok x = sym (byte_read a b i) ∙ ap byte e in
    rw (read, decode_pairs-ok_pair i a b x rest e) (ih (bs ++ x ∷ []) ∙ onto_cons bs x _)
pair_read bs i a b rest (Err p) e ih =
    let read : ok_or (hex_byte a b) NotHex ≡ Err NotHex = sym (byte_read a b i) ∙ ap byte e in
    rw (read, decode_pairs-err_pair i a b p rest e)

pairs_read : (bs : List ℕ) (i : ℕ) (w : List ℕ) → hex_onto bs w ≡ onto bs (decode_pairs i w)
unfolding hex_onto decode_pairs
pairs_read bs i [] = ap Ok (sym (append-nil bs))
pairs_read bs i (a ∷ []) = refl
pairs_read bs i (a ∷ b ∷ rest) = pair_read bs i a b rest _ refl (λ cs. pairs_read cs (i + 2) rest)

odd_pair : (bs rest : List ℕ) (o : Option ℕ) → ((cs : List ℕ) → hex_onto cs rest ≡ Err NotHex) → (ok_or o NotHex >>= λ x. hex_onto (bs ++ x ∷ []) rest) ≡ Err NotHex
odd_pair bs rest None ih = refl
odd_pair bs rest (Some x) ih = ih (bs ++ x ∷ [])

odd_read : (bs w : List ℕ) → length w % 2 ≡ 1 → hex_onto bs w ≡ Err NotHex
unfolding hex_onto
odd_read bs [] h = absurd (omega arith)
odd_read bs (a ∷ []) h = refl
odd_read bs (a ∷ b ∷ rest) h = odd_pair bs rest (hex_byte a b) (λ cs. odd_read cs rest (omega arith))

pub hex_read : (w : List ℕ) → hex_onto [] w ≡ onto [] (decode_of w)
hex_read w = elim (cases_eq (length w % 2) 1) [
  | inl e ↦ rw (eq-eqb _ _ e) (odd_read [] w e)
  | inr e ↦ rw (ne_eqb _ _ e) (pairs_read [] 0 w)
]
