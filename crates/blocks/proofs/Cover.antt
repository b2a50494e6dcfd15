-- The records of a file cover its used bytes.
use Rattle.std.proofs.Common.{◌≡◌, ℕ, zero, suc, ◌+◌, ◌-◌, ◌<◌, ◌≤◌, List, [], ◌∷◌, length, get_or, take, drop, Some, None, Option, sym, refl, ap, ◌∙◌, subst, ap₂, inl, inr, arith}
use Rattle.std.specs.List.{between, ContainsAt, AllByRecursion}
use Rattle.std.proofs.lemmas.List.Edits.{get_or-between, length-between}
use Rattle.std.proofs.ByRecursion.{All-weaker}
use Rattle.std.proofs.lemmas.List.{length-drop, take-take}
use Rattle.std.proofs.lemmas.Bool.{cases_lt}
use Rattle.rules.specs.Limits.{most_used}
use Rattle.blocks.specs.Layout.{block, blocks, used, used_from, used_in, used_to, word, word_at}
use Rattle.blocks.specs.Records.{Handed, whole, cut, before, front, head_size, records, records_from, records_in}
use Rattle.blocks.specs.Covering.{Covered, Covers, CutLast, Disjoint, InFile, IsCut, IsPart, start}
use Rattle.blocks.proofs.Fronts.{Fits, fits, lacks}
use Rattle.blocks.proofs.Parts.{drop_between}

-- one of the records covers byte i
abbrev Somewhere : List Handed → ℕ → Type 0
Somewhere hs i = (h : Handed) × ContainsAt hs h × Covers h i

further : (x : Handed) (hs : List Handed) (i : ℕ) → Somewhere hs i → Somewhere (x ∷ hs) i
further x hs i (h, (k, l, e), c) = (h, (suc k, omega arith, e), c)

module _ (f : List ℕ) (within : (k : ℕ) → k < blocks f → used_in (block k f) ≤ most_used) where
  -- these cover the used bytes from a place on
  record From (at : ℕ) (hs : List Handed) : Type 0 where
    parts : AllByRecursion (InFile f) hs
    low : AllByRecursion (λ h. at ≤ start h) hs
    disjoint : Disjoint hs
    last : CutLast hs
    used : (k i : ℕ) → k < blocks f → used_from k ≤ i → i < used_to k f → at ≤ i → Somewhere hs i

  -- no used byte lies between two places
  earlier : (a b : ℕ) (hs : List Handed) → a ≤ b → ((k i : ℕ) → k < blocks f → used_from k ≤ i → i < used_to k f → a ≤ i → b ≤ i) → From b hs → From a hs
  earlier a b hs le skip g =
      record {
        parts = g.parts;
        low = All-weaker (λ h. b ≤ start h) (λ h. a ≤ start h) (λ h l. omega arith) hs g.low;
        disjoint = g.disjoint;
        last = g.last;
        used = λ k i kb lo hi p. g.used k i kb lo hi (skip k i kb lo hi p);
      }

  with_whole : (o l : ℕ) (b : List ℕ) (hs : List Handed) → InFile f (whole o l b) → From (o + head_size + length b) hs → From o (whole o l b ∷ hs)
  with_whole o l b hs part g =
      record {
        parts = (part, g.parts);
        low = (omega arith, All-weaker (λ h. o + head_size + length b ≤ start h) (λ h. o ≤ start h) (λ h l. omega arith) hs g.low);
        disjoint = (g.low, g.disjoint);
        last = g.last;
        used = λ k i kb lo hi p. elim (cases_lt i (o + head_size + length b)) [
          | inl here ↦ (whole o l b, (0, omega arith, λ d. refl), (p, here))
          | inr later ↦ further (whole o l b) hs i (g.used k i kb lo hi later)
        ];
      }

  with_cut : (o n : ℕ) → InFile f (cut o n) → From o (cut o n ∷ [])
  with_cut o n part =
      record {
        parts = (part, tt);
        low = (omega arith, tt);
        disjoint = (tt, tt);
        last = refl;
        used = λ k i kb lo hi p. (cut o n, (0, omega arith, λ d. refl), p);
      }

  -- block k
  module _ (k : ℕ) (here : k < blocks f) (later : List Handed) where
    -- bytes of the block, from a place to its last used byte
    record Rest (at : ℕ) (bs : List ℕ) : Type 0 where
      is : bs ≡ between at (used_to k f) f
      ends : at + length bs ≡ used_to k f
      begins : used_from k ≤ at

    byte : (at : ℕ) (bs : List ℕ) (r : Rest at bs) (i : ℕ) → i < length bs → get_or bs i 0 ≡ get_or f (at + i) 0
    byte at bs r i l = ap (λ xs. get_or xs i 0) r.is ∙ get_or-between f at (used_to k f) i 0 (omega (arith, r.ends))

    size_at : (at : ℕ) (bs : List ℕ) (r : Rest at bs) → head_size ≤ length bs → word (get_or bs 1 0) (get_or bs 2 0) ≡ word_at f (at + 1)
    size_at at bs r l =
        let next : at + 2 ≡ at + 1 + 1 = omega arith in
        ap₂ word (byte at bs r 1 (omega arith)) (byte at bs r 2 (omega arith) ∙ ap (λ (i : ℕ). get_or f i 0) next)

    is_part : (at : ℕ) (bs : List ℕ) (r : Rest at bs) (l : ℕ) (b : List ℕ) → Fits bs l b → IsPart f k at l b
    is_part at bs r l b fit =
        let room = fit.inside in
        let n : ℕ = length b in
        let to : used_to k f ≡ at + length bs = sym r.ends in
        let same : between (at + head_size) (used_to k f) f ≡ drop head_size bs = sym (ap (drop head_size) r.is ∙ drop_between f at (used_to k f) head_size) in
        let less : at + head_size + n - (at + head_size) ≡ n = omega arith in
        let cut_short = take-take n (used_to k f - (at + head_size)) (drop (at + head_size) f) (omega arith) in
        let first : at + 0 ≡ at = omega arith in
        record {
          block = here;
          begins = r.begins;
          ends = omega arith;
          letter = fit.letter ∙ byte at bs r 0 (omega arith) ∙ ap (λ (i : ℕ). get_or f i 0) first;
          size = fit.size ∙ size_at at bs r (omega arith);
          body = fit.body ∙ ap (take n) (sym same) ∙ cut_short ∙ ap (λ (m : ℕ). take m (drop (at + head_size) f)) (sym less);
        }

    is_cut : (at : ℕ) (bs : List ℕ) (r : Rest at bs) → 0 < length bs → None ≡ front bs → IsCut f k at (length bs)
    is_cut at bs r some e =
        record {
          block = here;
          begins = r.begins;
          left = r.ends;
          some = some;
          few = λ l. omega (arith, lacks bs e l, size_at at bs r l);
        }

    shorter : (at n : ℕ) (bs : List ℕ) (r : Rest at bs) → n ≤ length bs → Rest (at + n) (drop n bs)
    shorter at n bs r l =
        record {
          is = ap (drop n) r.is ∙ drop_between f at (used_to k f) n;
          ends = omega (arith, length-drop n bs, r.ends);
          begins = omega (arith, r.begins);
        }

    one : (at : ℕ) (bs : List ℕ) (r : Rest at bs) → 0 < length bs → (o : Option (ℕ × List ℕ)) → o ≡ front bs → (more : ℕ → List Handed)
        → ((n : ℕ) → head_size ≤ n → n ≤ length bs → From (at + n) (more n)) → From at (before at bs o more)
    one at bs r some None e more go = with_cut at (length bs) (k, is_cut at bs r some e)
    one at bs r some (Some x) e more go =
        let fit = fits bs x.0 x.1 e in
        let n : ℕ = head_size + length x.1 in
        let next : at + n ≡ at + head_size + length x.1 = omega arith in
        with_whole at x.0 x.1 (more n) (k, is_part at bs r x.0 x.1 fit) (subst (λ (m : ℕ). From m (more n)) next (go n (omega arith) fit.inside))

    in_block : (n at : ℕ) (bs : List ℕ) → length bs ≤ n → Rest at bs → From (used_to k f) later → From at (records_in n at bs later)
    unfolding records_in
    in_block zero at [] l r g = subst (λ (m : ℕ). From m later) (let e : used_to k f ≡ at = omega (arith, r.ends) in e) g
    in_block zero at (b ∷ bs) l r g = absurd (omega arith)
    in_block (suc n) at [] l r g = subst (λ (m : ℕ). From m later) (let e : used_to k f ≡ at = omega (arith, r.ends) in e) g
    in_block (suc n) at (b ∷ bs) l r g =
        one at (b ∷ bs) r (omega arith) (front (b ∷ bs)) refl _ (λ m lo hi.
        let fewer = length-drop m (b ∷ bs) in
        in_block n (at + m) (drop m (b ∷ bs)) (omega arith) (shorter at m (b ∷ bs) r hi) g)

  -- what block k leaves unused is used by none
  skips : (k j i : ℕ) → j < blocks f → used_from j ≤ i → i < used_to j f → used_to k f ≤ i → used_from (suc k) ≤ i
  skips k j i jb lo hi p =
      elim (cases_lt k j) [
        | inl after ↦ omega arith
        | inr upto ↦ absurd (elim (cases_lt j k) [
          | inl less ↦ (let w = within j jb in omega arith)
          | inr same ↦ (let e : j ≡ k = omega arith in let t = ap (λ (m : ℕ). used_to m f) e in omega arith)
        ])
      ]

  by_blocks : (n k : ℕ) → k + n ≡ blocks f → From (used_from k) (records_from n k f)
  unfolding records_from
  by_blocks zero k e =
      record {
        parts = tt;
        low = tt;
        disjoint = tt;
        last = tt;
        used = λ j i jb lo hi p. absurd (let w = within j jb in omega arith);
      }
  by_blocks (suc n) k e =
      let here : k < blocks f = omega arith in
      let w = within k here in
      let long = length-between f (used_from k) (used_to k f) (omega arith) in
      in_block k here (records_from n (suc k) f) (length (used k f)) (used_from k) (used k f) (omega arith)
      (record { is = refl; ends = omega arith; begins = omega arith })
      (earlier (used_to k f) (used_from (suc k)) (records_from n (suc k) f) (omega arith)
      (skips k)
      (by_blocks n (suc k) (omega arith)))

  pub covered : Covered f (records f)
  covered =
      let all = by_blocks (blocks f) 0 (omega arith) in
      record {
        parts = all.parts;
        disjoint = all.disjoint;
        last = all.last;
        used = λ k i kb lo hi. all.used k i kb lo hi (omega arith);
      }
