-- Entries gathered from words, one after another.
use Rattle.std.proofs.Common.{◌≡◌, ℕ, List, [], ◌∷◌, ◌++◌, Ok, Err}
use Rattle.text.specs.declared.problem.Problem.{Problem}
use Rattle.row_words.specs.RowWords.{Word, as_entry, entries_onto}

module _ (bs : List ℕ) (ws : List Word) where
  pub entries_first : (w : Word) (vs : List Word) (e : List ℕ) → ws ≡ w ∷ vs → Ok e ≡ as_entry w → entries_onto bs ws ≡ entries_onto (bs ++ e) vs
  unfolding entries_onto
  entries_first w vs e h r = rw (h, ← r)

  pub entries_stop : (w : Word) (vs : List Word) (p : Problem) → ws ≡ w ∷ vs → Err p ≡ as_entry w → entries_onto bs ws ≡ Err p
  unfolding entries_onto
  entries_stop w vs p h r = rw (h, ← r)

  pub entries_end : ws ≡ [] → entries_onto bs ws ≡ Ok bs
  unfolding entries_onto
  entries_end h = rw h
