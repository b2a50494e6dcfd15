-- Where the first colon stands.
use Rattle.std.proofs.Common.{◌≡◌, ℕ, suc, ◌+◌, eqb, List, [], ◌∷◌, take, drop, position, ℤ, Some, Ok, sym, ◌∙◌, add-one, refl}
use Rattle.std.specs.List.{position_from}
use Rattle.std.proofs.lemmas.Iterator.Adapters.{position_from-zero}
use Rattle.row_words.specs.RowWords.{as_entry, colon_from, one_byte, two_byte, two_bytes, wrapped}
use Rattle.text.specs.Numbers.{number, signed}

from : (i : ℕ) (w : List ℕ) → position_from (λ b. eqb b 58) i w ≡ colon_from i w
from i [] = refl
from i (b ∷ bs) = rw (add-one, from (suc i) bs)

pub colon_found : (w : List ℕ) → colon_from 0 w ≡ position (λ b. eqb b 58) w
colon_found w = sym (position_from-zero (λ b. eqb b 58) w ∙ from 0 w)

pub entry_read : (w after : List ℕ) (i n p : ℕ) (y z : ℤ) → Some i ≡ position (λ b. eqb b 58) w → Some n ≡ number (take i w) → Some p ≡ one_byte n
    → after ≡ drop (i + 1) w → Some y ≡ signed after → Some z ≡ two_byte y → Ok (p ∷ two_bytes (wrapped 65536 z)) ≡ as_entry w
entry_read w after i n p y z a b c d e f = rw (colon_found, ← a, ← b, ← c, ← d, ← e, ← f)
