-- How a line's words come off its front.
use Rattle.std.proofs.Common.{◌≡◌, ℕ, ◌<◌, ◌≤◌, true, false, not, List, [], ◌∷◌, length, get_or, take, drop, position, Option, None, Some, sym, refl, ap, ◌∙◌, inl, inr, drop-cons, one-add, arith}
use Rattle.std.specs.List.{position_or_len}
use Rattle.std.specs.Option.{unwrap_or}
use Rattle.std.proofs.lemmas.List.Sums.{prefix_len-le-length, position_or_len_is}
use Rattle.std.proofs.lemmas.List.Quantifiers.{position-Some}
use Rattle.std.proofs.lemmas.List.{at_drop_all}
use Rattle.std.proofs.lemmas.Bool.{cases_Bool, cases_lt, cond-true, not-true, lt-ltb, le-ltb}
use Rattle.text.specs.Words.{blank, ends, words}

-- where the first byte of a word stands, or else the line ends
abbrev start : List ℕ → ℕ
start line = position_or_len (λ b. not (blank b)) line

-- where the first blank stands, or else the line ends
abbrev pub end : List ℕ → ℕ
end line = position_or_len blank line

past_blanks : (line : List ℕ) → words (drop (start line) line) ≡ words line
unfolding words
past_blanks [] = refl
past_blanks (b ∷ bs) = elim (cases_Bool (blank b)) [
  | inl t ↦ rw (t, one-add) (past_blanks bs)
  | inr f ↦ rw (f, f)
]

no_front : (line : List ℕ) → ends line ≡ true → end line ≡ 0
no_front [] e = refl
no_front (b ∷ bs) e = rw e

-- a word in front is the first
front_word : (line : List ℕ) → ends line ≡ false → words line ≡ take (end line) line ∷ words (drop (end line) line)
unfolding words
front_word [] e = cc
front_word (b ∷ bs) e = elim (cases_Bool (ends bs)) [
  | inl t ↦ let z = no_front bs t in rw (e, t, z)
  | inr f ↦ rw (e, f, one-add, front_word bs f)
]

begins : (line : List ℕ) (i : ℕ) → i < length line → blank (get_or line i 0) ≡ false → ends (drop i line) ≡ false
begins line i h e = rw (drop-cons line i 0 h) e

-- what the searches for a word's start and end find
pub no_word : (line : List ℕ) → None ≡ position (λ b. not (blank b)) line → words line ≡ []
unfolding words
no_word line e = elim (cases_lt (start line) (length line)) [
  | inl h ↦ let s = cond-true _ (Some (start line)) None (lt-ltb _ _ h) in cc
  | inr h ↦ sym (past_blanks line) ∙ at_drop_all words line (start line) h
]

end_is : (line : List ℕ) (n : ℕ) (o : Option ℕ) → o ≡ position blank line → n ≡ unwrap_or o (length line) → n ≡ end line
end_is line n o f g = g ∙ ap (λ p. unwrap_or p (length line)) f ∙ elim (cases_lt (end line) (length line)) [
  | inl h ↦ rw (lt-ltb _ _ h)
  | inr h ↦ let m = prefix_len-le-length (λ b. not (blank b)) line in rw (le-ltb _ _ h) (omega arith)
]

-- a line cut where its first word starts
pub word_within : (cut : List ℕ) (n : ℕ) (o : Option ℕ) → o ≡ position blank cut → n ≡ unwrap_or o (length cut) → n ≤ length cut
word_within cut n o f g = let e = end_is cut n o f g in rw e (prefix_len-le-length (λ b. not (blank b)) cut)

pub first_word : (line cut word rest : List ℕ) (i n : ℕ) (o : Option ℕ) → Some i ≡ position (λ b. not (blank b)) line → cut ≡ drop i line
    → o ≡ position blank cut → n ≡ unwrap_or o (length cut) → word ≡ take n cut → rest ≡ drop n cut → words line ≡ word ∷ words rest
first_word line cut word rest i n o e is_cut f g is_word is_rest =
    let found = position-Some (λ b. not (blank b)) line i 0 (sym e) in
    let at_end : n ≡ end cut = end_is cut n o f g in
    let at_start : start line ≡ i = position_or_len_is (λ b. not (blank b)) line i 0 (omega arith) found.2 (λ _. found.1) in
    let front = front_word cut (rw is_cut (begins line i found.0 (not-true _ found.1))) in
    let skipped = sym (past_blanks line) ∙ ap (λ k. words (drop k line)) at_start ∙ ap words (sym is_cut) in
    rw (is_word, is_rest, at_end) (skipped ∙ front)
