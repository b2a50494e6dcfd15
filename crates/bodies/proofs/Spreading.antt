-- The numbers of entries, spread over the places.
use Rattle.std.proofs.Common.{◌≡◌, ℕ, ◌+◌, ◌*◌, ◌^◌, ◌<◌, ◌≤◌, Bool, true, ltb, leb, ◌⊎◌, List, [], ◌∷◌, length, get_or, set, replicate, ℤ, pos, nat_abs, None, Ok, sym, refl, ◌∙◌, subst, inl, inr, arith, get_or-set_other, get_or-set_same, lt-length-set}
use Rattle.std.proofs.lemmas.Bool.{and_from, and_parts, cases_eq, cond_both, le-leb, ltb-false, ltb-true}
use Rattle.std.specs.List.{list_all}
use Rattle.rules.specs.Limits.{most_places}
use Rattle.rules.specs.declared.fault.Fault.TheVariants.{BodyLength, EntryUnfit}
use Rattle.rules.proofs.Outcomes.{need_ok, none_ok, ok_same}
use Rattle.whole.proofs.Passing.{all_replicate, all_set}
use Rattle.blocks.specs.Layout.{word, word_at}
use Rattle.bodies.specs.Bodies.{Entry, absent, bound_in, entries, fit_entries, fits, missing, names, signed, spread, spread_on, triples, unfit, weight}
use Rattle.bodies.specs.declared.Named.{Named}
use Rattle.bodies.specs.declared.Shape.{Shape}

-- what passes for 0 and for each number passes for each place
spread_on_passes : (f : ℤ → Bool) (zs : List ℤ) (es : List Entry) → list_all f zs ≡ true → list_all (λ e. f e.number) es ≡ true → list_all f (spread_on zs es) ≡ true
spread_on_passes f zs [] h k = h
spread_on_passes f zs (e ∷ es) h k =
    let p = and_parts (f e.number) (list_all (λ e. f e.number) es) k in
    spread_on_passes f (set zs e.name e.number) es (all_set f zs e.name e.number h p.0) p.1

pub spread_passes : (f : ℤ → Bool) (es : List Entry) → f (pos 0) ≡ true → list_all (λ e. f e.number) es ≡ true → list_all f (spread es) ≡ true
spread_passes f es z k = spread_on_passes f (replicate most_places (pos 0)) es (all_replicate f most_places (pos 0) z) k

-- weights of two bytes
signed_small : (half w : ℕ) → 0 < half → nat_abs (signed half w) ≤ half
signed_small half w h =
    cond_both (ltb w half) _ _ (λ z. nat_abs z ≤ half) (λ t. omega (arith, ltb-true w half t)) (λ f. omega (arith, ltb-false w half f))

pub small_bound : (bs : List ℕ) → nat_abs (bound_in bs) ≤ 2 ^ 31
small_bound bs = signed_small 2147483648 (word_at bs 0 + 65536 * word_at bs 2) (omega arith)

pub names_one : (f : ℤ → Bool) (bs : List ℕ) → f (pos 1) ≡ true → list_all (λ e. f e.number) (names bs) ≡ true
names_one f [] p = refl
names_one f (b ∷ bs) p = and_from _ _ p (names_one f bs p)

pub weights_light : (bs : List ℕ) → list_all (λ e. leb (nat_abs e.number) 32768) (triples weight bs) ≡ true
weights_light [] = refl
weights_light (a ∷ []) = refl
weights_light (a ∷ b ∷ []) = refl
weights_light (a ∷ b ∷ c ∷ rest) = and_from _ _ (le-leb _ _ (signed_small 32768 (word b c) (omega arith))) (weights_light rest)

-- a granted body has the entries that stand in it
pub record Fitting (s : Shape) (what : Named) (n : ℕ) (bs : List ℕ) (es : List Entry) : Type 0 where
  pub read : es ≡ entries s bs
  pub named : missing n es ≡ None
  pub rising : unfit es ≡ None

pub fitting : (s : Shape) (what : Named) (n : ℕ) (bs : List ℕ) (es : List Entry) → fit_entries s what n bs ≡ Ok es → Fitting s what n bs es
fitting s what n bs es e =
    let long = need_ok (fits s (length bs)) (BodyLength (length bs)) _ es e in
    let there = none_ok (missing n (entries s bs)) (absent what) _ es long.1 in
    let rise = none_ok (unfit (entries s bs)) EntryUnfit _ es there.1 in
    let same : entries s bs ≡ es = ok_same (entries s bs) es rise.1 in
    record { read = sym same; named = subst (λ l. missing n l ≡ None) same there.0; rising = subst (λ l. unfit l ≡ None) same rise.0 }

-- a place that counts 1 counts 1 whatever names come
set_one : (zs : List ℤ) (b p : ℕ) → p < length zs → (get_or zs p (pos 0) ≡ pos 1) ⊎ (p ≡ b) → get_or (set zs b (pos 1)) p (pos 0) ≡ pos 1
set_one zs b p l h = elim (cases_eq p b) [
  | inl e ↦ subst (λ k. get_or (set zs k (pos 1)) p (pos 0) ≡ pos 1) e (get_or-set_same zs p (pos 1) (pos 0) l)
  | inr ne ↦ get_or-set_other zs b p (pos 1) (pos 0) ne ∙ elim h [ inl one ↦ one | inr e ↦ absurd (ne e) ]
]

pub names_keep : (zs : List ℤ) (bs : List ℕ) (p : ℕ) → p < length zs → get_or zs p (pos 0) ≡ pos 1 → get_or (spread_on zs (names bs)) p (pos 0) ≡ pos 1
names_keep zs [] p l h = h
names_keep zs (b ∷ bs) p l h = names_keep (set zs b (pos 1)) bs p (lt-length-set zs b (pos 1) l) (set_one zs b p l (inl h))

pub names_count : (zs : List ℤ) (b : ℕ) (bs : List ℕ) (p : ℕ) → p < length zs → p ≡ b → get_or (spread_on zs (names (b ∷ bs))) p (pos 0) ≡ pos 1
names_count zs b bs p l e = names_keep (set zs b (pos 1)) bs p (lt-length-set zs b (pos 1) l) (set_one zs b p l (inr e))
