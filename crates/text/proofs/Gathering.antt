-- Numbers gathered from words, one after another.
use Rattle.std.proofs.Common.{◌≡◌, ℕ, List, [], ◌∷◌, ◌++◌, Ok, Err, sym, refl, ap, append_assoc, append-nil}
use Rattle.rules.specs.Outcome.{◌>>=◌}
use Rattle.text.specs.Reading.{Read, as_number, all_numbers}
use Rattle.text.specs.declared.problem.Problem.{Problem}

-- numbers read before others
abbrev pub after : List ℕ → Read (List ℕ) → Read (List ℕ)
after ns o = o >>= λ ms. Ok (ns ++ ms)

after_one : (ns : List ℕ) (n : ℕ) (o : Read (List ℕ)) → after ns (o >>= λ ms. Ok (n ∷ ms)) ≡ after (ns ++ n ∷ []) o
after_one ns n (Ok ms) = ap Ok (sym (append_assoc ns (n ∷ []) ms))
after_one ns n (Err e) = refl

module _ (ns : List ℕ) (ws : List (List ℕ)) where
  pub gather_more : (w : List ℕ) (vs : List (List ℕ)) (n : ℕ) → ws ≡ w ∷ vs → Ok n ≡ as_number w
      → after ns (all_numbers ws) ≡ after (ns ++ n ∷ []) (all_numbers vs)
  unfolding all_numbers
  gather_more w vs n e read = rw (e, ← read) (after_one ns n (all_numbers vs))

  pub gather_stop : (w : List ℕ) (vs : List (List ℕ)) (p : Problem) → ws ≡ w ∷ vs → Err p ≡ as_number w → after ns (all_numbers ws) ≡ Err p
  unfolding all_numbers
  gather_stop w vs p e read = rw (e, ← read)

  pub gather_end : ws ≡ [] → after ns (all_numbers ws) ≡ Ok ns
  unfolding all_numbers
  gather_end e = rw e (ap Ok (append-nil ns))
