-- The words of a line: its longest runs of bytes that are no blanks.
use Rattle.std.specs.Prelude.{ℕ, Bool, true, cond, ◌||◌, List, [], ◌∷◌, Some, None, Option, ◌==◌}
use Rattle.text.specs.declared.words.Words.{Words}

-- a space or a tab
abbrev pub blank : ℕ → Bool
blank b = b == 32 || b == 9

-- no word goes on here
abbrev pub ends : List ℕ → Bool
ends [] = true
ends (b ∷ bs) = blank b

-- a byte put before the first word
abbrev pub onto : ℕ → List (List ℕ) → List (List ℕ)
onto b [] = (b ∷ []) ∷ []
onto b (w ∷ ws) = (b ∷ w) ∷ ws

-- a byte that is no blank is a word where no word goes on, and else begins the first word of the rest
unfoldable pub words : List ℕ → List (List ℕ)
words [] = []
words (b ∷ bs) = cond (blank b) (words bs) (cond (ends bs) ((b ∷ []) ∷ words bs) (onto b (words bs)))

-- the words that are not yet read
abbrev pub remaining : Words → List (List ℕ)
remaining w = words w.rest.now

abbrev pub head : {A : Type 0} → List A → Option A
head [] = None
head (x ∷ xs) = Some x

abbrev pub tail : {A : Type 0} → List A → List A
tail [] = []
tail (x ∷ xs) = xs
