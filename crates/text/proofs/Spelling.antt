-- How a number is read digit by digit.
use Rattle.std.proofs.Common.{◌≡◌, ℕ, ◌+◌, ◌-◌, ◌*◌, ◌<◌, ◌≤◌, true, false, ◌&&◌, leb, List, [], ◌∷◌, length, get_or, drop, Some, None, sym, ◌∙◌, inl, inr, arith}
use Rattle.std.proofs.lemmas.List.{at_drop_more, at_drop_all}
use Rattle.std.proofs.lemmas.Bool.{and_right, le-leb, lt-leb, cases_Bool}
use Rattle.text.specs.Numbers.{most_number, is_digit, digit, all_digits, value, extended, number}

value_grows : (n : ℕ) (bs : List ℕ) → n ≤ value n bs
unfolding value
value_grows n [] = omega arith
value_grows n (b ∷ bs) = omega (arith, value_grows (n * 10 + (b - 48)) bs)

too_great : (n : ℕ) (bs : List ℕ) → most_number < n → extended n bs ≡ None
too_great n bs h =
    let e : leb (value n bs) most_number ≡ false = lt-leb _ _ (omega (arith, value_grows n bs)) in
    let t : (all_digits bs && leb (value n bs) most_number) ≡ false = and_right _ _ e in
    rw t

-- by what the next digit is
no_digit : (n b : ℕ) (bs : List ℕ) → None ≡ digit b → extended n (b ∷ bs) ≡ None
unfolding all_digits value
no_digit n b bs h = elim (cases_Bool (is_digit b)) [
  | inl t ↦ let k : digit b ≡ Some (b - 48) = rw t in cc
  | inr f ↦ rw f
]

one_digit : (n b d : ℕ) (bs : List ℕ) → Some d ≡ digit b → extended n (b ∷ bs) ≡ extended (n * 10 + d) bs
unfolding all_digits value
one_digit n b d bs h = elim (cases_Bool (is_digit b)) [
  | inl t ↦ let k : digit b ≡ Some (b - 48) = rw t in let e : d ≡ b - 48 = cc in rw (t, e)
  | inr f ↦ let k : digit b ≡ None = rw f in cc
]

-- the next digit of a word, after those that spell n
module _ (word : List ℕ) (n i : ℕ) (h : i < length word) (read : extended n (drop i word) ≡ number word) where
  front : number word ≡ extended n (get_or word i 0 ∷ drop (i + 1) word)
  front = sym read ∙ at_drop_more (extended n) word i 0 h

  pub stops : None ≡ digit (get_or word i 0) → number word ≡ None
  stops e = front ∙ no_digit n _ _ e

  pub goes_on : (d : ℕ) → Some d ≡ digit (get_or word i 0) → number word ≡ extended (n * 10 + d) (drop (i + 1) word)
  goes_on d e = front ∙ one_digit n _ d _ e

  pub overflows : (d : ℕ) → Some d ≡ digit (get_or word i 0) → most_number < n * 10 + d → number word ≡ None
  overflows d e g = goes_on d e ∙ too_great _ _ g

pub all_read : (word : List ℕ) (n i : ℕ) → length word ≤ i → n ≤ most_number → extended n (drop i word) ≡ number word → Some n ≡ number word
unfolding all_digits value
all_read word n i h m read = let e : leb n most_number ≡ true = le-leb n most_number m in let s : extended n [] ≡ Some n = rw e in sym s ∙ sym (at_drop_all (extended n) word i h) ∙ read
