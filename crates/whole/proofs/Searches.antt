-- The lowest number that passes a test.
use Rattle.std.proofs.Common.{◌≡◌, ℕ, zero, suc, ◌<◌, ◌≤◌, Bool, true, false, cond, ◌⊎◌, Some, None, Option, sym, refl, ap, ◌∙◌, ap₂, inl, inr, arith, MatchOption}
use Rattle.whole.specs.Counting.{lowest, or_else, AllFail, IsLowest, FindsLowest, Computes}

split : (i n : ℕ) → i < suc n → (i < n) ⊎ (i ≡ n)
split i n h = grind arith

pub lowest_none : (n : ℕ) (f : ℕ → Bool) → AllFail n f → lowest n f ≡ None
lowest_none zero f h = refl
lowest_none (suc n) f h =
    ap₂ (λ a b. or_else a (cond b (Some n) None)) (lowest_none n f (λ i l. h i (omega arith))) (h n (omega arith))

pub lowest_some : (n : ℕ) (f : ℕ → Bool) (i : ℕ) → i < n → f i ≡ true → AllFail i f → lowest n f ≡ Some i
lowest_some zero f i h t below = absurd (omega arith)
lowest_some (suc n) f i h t below =
    elim (split i n h) [
      | inl l ↦ ap (λ a. or_else a (cond (f n) (Some n) None)) (lowest_some n f i l t below)
      | inr q ↦ ap (λ k. or_else (lowest k f) (cond (f k) (Some k) None)) (sym q) ∙ ap₂ (λ a b. or_else a (cond b (Some i) None)) (lowest_none i f below) t
    ]

more : (n : ℕ) (f : ℕ → Bool) (b : Bool) → f n ≡ b → AllFail n f → IsLowest (suc n) f (cond b (Some n) None)
more n f true e below = (omega arith, e, below)
more n f false e below = λ i h. elim (split i n h) [ inl l ↦ below i l | inr q ↦ ap f q ∙ e ]

grown : (n : ℕ) (f : ℕ → Bool) (r : Option ℕ) → IsLowest n f r → IsLowest (suc n) f (or_else r (cond (f n) (Some n) None))
grown n f (Some i) h = (omega (arith, h.0), h.1, h.2)
grown n f None h = more n f (f n) refl h

pub is_lowest : (n : ℕ) (f : ℕ → Bool) → IsLowest n f (lowest n f)
is_lowest zero f = λ i h. absurd (omega arith)
is_lowest (suc n) f = grown n f (lowest n f) (is_lowest n f)

-- what the lowest is by its meaning it is by definition
pub lowest_is : (n : ℕ) (f : ℕ → Bool) (r : Option ℕ) → IsLowest n f r → FindsLowest n f r
lowest_is n f (Some i) h = (sym (lowest_some n f i h.0 h.1 h.2), h)
lowest_is n f None h = (sym (lowest_none n f h), h)

-- what a search in rising order finds, by the answers of the test
pub found_lowest : (n : ℕ) (f : ℕ → Bool) (post : ℕ → Bool → Type 0) (r : Option ℕ) → Computes n post f
    → MatchOption r ((k : ℕ) → 0 ≤ k → k < n → post k false) (λ i. (0 ≤ i) × (i < n) × post i true × ((k : ℕ) → 0 ≤ k → k < i → post k false)) → FindsLowest n f r
found_lowest n f post (Some i) a h =
    lowest_is n f (Some i) (h.1, sym (a i true h.1 h.2), λ k l. sym (a k false (omega (arith, l, h.1)) (h.3 k (omega arith) l)))
found_lowest n f post None a h = lowest_is n f None (λ k l. sym (a k false l (h k (omega arith) l)))
