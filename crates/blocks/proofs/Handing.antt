-- How the records of blocks come one after another.
use Rattle.std.proofs.Common.{◌≡◌, ℕ, zero, suc, ◌+◌, ◌-◌, min, ◌<◌, ◌≤◌, List, [], ◌∷◌, length, drop, get_or, Some, None, Option, sym, refl, ap, ◌∙◌, arith}
use Rattle.std.proofs.Math.Seq.{drop-cons, drop-nil}
use Rattle.std.proofs.lemmas.List.{drop-drop, length-drop, length-take}
use Rattle.rules.specs.Limits.{most_used}
use Rattle.blocks.specs.Layout.{payload_at, used_from, used_in}
use Rattle.blocks.specs.Records.{Handed, whole, cut, before, front, head_size, records_in, records_of}
use Rattle.blocks.proofs.Fronts.{fits}
use Rattle.blocks.specs.Views.{Stands, in_block, records_at, to_come}
use Rattle.blocks.specs.declared.reader.Reader.{Reader}

same_before : (at : ℕ) (bs : List ℕ) (o : Option (ℕ × List ℕ)) (f g : ℕ → List Handed) → ((size : ℕ) → head_size ≤ size → f size ≡ g size) → before at bs o f ≡ before at bs o g
same_before at bs None f g h = refl
same_before at bs (Some r) f g h = ap (λ hs. whole at r.0 r.1 ∷ hs) (h (head_size + length r.1) (omega arith))

-- enough turns are enough
same_turns : (n m at : ℕ) (bs : List ℕ) (later : List Handed) → length bs ≤ n → length bs ≤ m → records_in n at bs later ≡ records_in m at bs later
unfolding records_in
same_turns zero zero at bs later p q = refl
same_turns zero (suc m) at [] later p q = refl
same_turns zero (suc m) at (b ∷ bs) later p q = absurd (omega arith)
same_turns (suc n) zero at [] later p q = refl
same_turns (suc n) zero at (b ∷ bs) later p q = absurd (omega arith)
same_turns (suc n) (suc m) at [] later p q = refl
same_turns (suc n) (suc m) at (b ∷ bs) later p q =
    same_before at (b ∷ bs) (front (b ∷ bs)) _ _ (λ size h.
    let fewer = length-drop size (b ∷ bs) in
    same_turns n m (at + size) (drop size (b ∷ bs)) later (omega arith) (omega arith))

-- nothing is left of the bytes
pub all_read : (at : ℕ) (bs : List ℕ) (later : List Handed) → length bs ≡ 0 → records_of at bs later ≡ later
unfolding records_in
all_read at [] later h = refl
all_read at (b ∷ bs) later h = absurd (omega arith)

-- something is
pub first : (at : ℕ) (bs : List ℕ) (later : List Handed) → 0 < length bs → records_of at bs later ≡ before at bs (front bs) (λ size. records_of (at + size) (drop size bs) later)
unfolding records_in
first at [] later h = absurd (omega arith)
first at (b ∷ bs) later h =
    same_before at (b ∷ bs) (front (b ∷ bs)) _ _ (λ size l.
    let fewer = length-drop size (b ∷ bs) in
    same_turns (length bs) (length (drop size (b ∷ bs))) (at + size) (drop size (b ∷ bs)) later (omega arith) (omega arith))

-- in no blocks
pub none_there : (k i : ℕ) → records_at k i (drop k []) ≡ []
none_there k i = ap (records_at k i) (drop-nil k)

-- a reader that stands in a block
module _ (r : Reader) (here : r.number < length r.blocks.now) where
  abbrev later : List Handed
  later = records_at (r.number + 1) 0 (drop (r.number + 1) r.blocks.now)

  of_block : to_come r ≡ records_of (used_from r.number + r.at) (drop r.at (in_block r)) later
  of_block =
      let next : suc r.number ≡ r.number + 1 = omega arith in
      ap (records_at r.number r.at) (drop-cons r.blocks.now r.number [] here ∙ ap (λ (m : ℕ). get_or r.blocks.now r.number [] ∷ drop m r.blocks.now) next)

  -- nothing is left of it
  pub goes_on : length (in_block r) ≤ r.at → to_come r ≡ to_come (record r { number = r.number + 1; at = 0 })
  goes_on h = of_block ∙ all_read (used_from r.number + r.at) (drop r.at (in_block r)) later (omega (arith, length-drop r.at (in_block r)))

-- a reader that stands before these bytes
module _ (r : Reader) (bs : List ℕ) (s : Stands r bs) where
  pub inside : r.at + length bs ≤ most_used
  inside =
      let b : List ℕ = drop payload_at (get_or r.blocks.now r.number []) in
      let n : ℕ = min (used_in (get_or r.blocks.now r.number [])) most_used in
      omega (arith, ap length s.is, length-drop r.at (in_block r), length-take (payload_at + n - payload_at) b, s.some)

  from_here : ℕ → List Handed
  from_here size = records_of (used_from r.number + r.at + size) (drop size bs) (later r s.block)

  begins : to_come r ≡ before (used_from r.number + r.at) bs (front bs) from_here
  unfolding from_here
  begins =
      of_block r s.block
      ∙ ap (λ (l : List ℕ). records_of (used_from r.number + r.at) l (later r s.block)) (sym s.is)
      ∙ first (used_from r.number + r.at) bs (later r s.block) (omega (arith, ap length s.is, length-drop r.at (in_block r), s.some))

  pub at_cut : None ≡ front bs → to_come r ≡ cut (used_from r.number + r.at) (length bs) ∷ []
  at_cut e = begins ∙ ap (λ o. before (used_from r.number + r.at) bs o from_here) (sym e)

  pub moves : (letter : ℕ) (body : List ℕ) → Some (letter, body) ≡ front bs → r.at + (head_size + length body) ≤ most_used
  moves letter body e = omega (arith, inside, (fits bs letter body e).inside)

  pub at_whole : (letter : ℕ) (body : List ℕ) → Some (letter, body) ≡ front bs
      → to_come r ≡ whole (used_from r.number + r.at) letter body ∷ to_come (record r { at = r.at + (head_size + length body) })
  unfolding from_here
  at_whole letter body e =
      let n : ℕ = head_size + length body in
      let after : used_from r.number + r.at + n ≡ used_from r.number + (r.at + n) = omega arith in
      let moved : Reader = record r { at = r.at + n } in
      begins
      ∙ ap (λ o. before (used_from r.number + r.at) bs o from_here) (sym e)
      ∙ ap (λ (l : List ℕ). whole (used_from r.number + r.at) letter body ∷ records_of (used_from r.number + r.at + n) l (later r s.block)) (ap (drop n) s.is ∙ drop-drop n r.at (in_block r))
      ∙ ap (λ (m : ℕ). whole (used_from r.number + r.at) letter body ∷ records_of m (drop (r.at + n) (in_block r)) (later r s.block)) after
      ∙ ap (λ hs. whole (used_from r.number + r.at) letter body ∷ hs) (sym (of_block moved s.block))

-- a call of the reader
pub ruleset calls = (at_cut, none_there, inside, moves)
