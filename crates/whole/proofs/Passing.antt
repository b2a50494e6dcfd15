-- Lists whose items all pass a test, by the library's lemmas on facts that hold of each item.
use Rattle.std.proofs.Common.{◌≡◌, ℕ, Bool, true, cond, List, [], ◌∷◌, ◌++◌, length, get_or, set, replicate, sym, subst, inl, inr}
use Rattle.std.proofs.lemmas.Bool.{cases_lt, cond_both}
use Rattle.std.proofs.lemmas.List.{get_or_past}
use Rattle.std.proofs.lemmas.List.Elements.{All-push, All-contains, All-get_or, All-set, All-replicate, All-weaker}
use Rattle.std.proofs.lemmas.List.Sums.{AllPass-from_list_all, list_all-from_AllPass}
use Rattle.std.specs.List.{list_all, ContainsAt as Has}

module _ {A : Type 0} (f : A → Bool) where
  abbrev Passes : A → Type 0
  Passes x = f x ≡ true

  -- whether or not the item found room
  pub all_stay : (xs : List A) (a : A) (b : Bool) → f a ≡ true → list_all f xs ≡ true → list_all f (cond b (xs ++ (a ∷ [])) xs) ≡ true
  all_stay xs a b p h =
      cond_both b _ _ (λ l. list_all f l ≡ true) (λ _. list_all-from_AllPass f _ (All-push Passes xs a (AllPass-from_list_all f xs h) p)) (λ _. h)

  pub all_has : (xs : List A) (x : A) → list_all f xs ≡ true → Has xs x → f x ≡ true
  all_has xs x h (i, l, e) = All-contains Passes xs x (AllPass-from_list_all f xs h) (i, l, e x)

  pub all_get_d : (xs : List A) (i : ℕ) (d : A) → list_all f xs ≡ true → f d ≡ true → f (get_or xs i d) ≡ true
  all_get_d xs i d h p = elim (cases_lt i (length xs)) [
    | inl l ↦ All-get_or Passes xs i d l (AllPass-from_list_all f xs h)
    | inr l ↦ subst (λ x. f x ≡ true) (sym (get_or_past xs i d l)) p
  ]

  pub all_set : (xs : List A) (i : ℕ) (a : A) → list_all f xs ≡ true → f a ≡ true → list_all f (set xs i a) ≡ true
  all_set xs i a h p = list_all-from_AllPass f _ (All-set Passes xs i a p (AllPass-from_list_all f xs h))

  pub all_replicate : (n : ℕ) (a : A) → f a ≡ true → list_all f (replicate n a) ≡ true
  all_replicate n a p = list_all-from_AllPass f _ (All-replicate Passes n a p)

pub all_weaker : {A : Type 0} (f g : A → Bool) → ((x : A) → f x ≡ true → g x ≡ true) → (xs : List A) → list_all f xs ≡ true → list_all g xs ≡ true
all_weaker f g w xs h = list_all-from_AllPass g xs (All-weaker (λ x. f x ≡ true) (λ x. g x ≡ true) w xs (AllPass-from_list_all f xs h))
