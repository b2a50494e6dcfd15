-- Multiples and weighted sums on a scale.
use Rattle.std.specs.Prelude.{◌≡◌, ℕ, zero, suc, ◌+◌, ◌≤◌, true, List, slice_index_or}
use Rattle.rules.specs.Limits.{most_tokens}
use Rattle.scale.specs.Scales.{Group}

-- the n-fold sum of a weight
unfoldable pub times : {W : Type 0} → Group W → ℕ → W → W
times G zero w = G.nil
times G (suc n) w = G.plus w (times G n w)

-- (more less fewer) times a weight
abbrev pub difference : {W : Type 0} → Group W → ℕ → ℕ → W → W
difference G more fewer w = G.plus (times G more w) (G.opp (times G fewer w))

-- the sum below n of the differences times the weights
unfoldable pub weighed : {W : Type 0} → Group W → (more fewer : ℕ → ℕ) → (ℕ → W) → ℕ → W
weighed G more fewer ws zero = G.nil
weighed G more fewer ws (suc n) = G.plus (weighed G more fewer ws n) (difference G (more n) (fewer n) (ws n))

-- the weight of a place, zero past the list
abbrev pub weight_at : {W : Type 0} → Group W → List W → ℕ → W
weight_at G ws p = slice_index_or ws p G.nil

-- how heavy a weight may be
abbrev pub most_reach : ℕ
most_reach = 32768

abbrev pub Light : {W : Type 0} → Group W → List W → Type 0
Light {W} G ws = (p : ℕ) → (G.on (weight_at G ws p) ≡ true) × (G.reach (weight_at G ws p) ≤ most_reach)

-- what is answered at place p counts at most so many tokens
abbrev pub FewAt : (ℕ → ℕ × ℕ → Type 0) → ℕ → Type 0
FewAt post p = (c : ℕ × ℕ) → post p c → c.0 + c.1 ≤ most_tokens

-- what is answered at place p is how many more, and how many fewer
abbrev pub CountsAt : (ℕ → ℕ × ℕ → Type 0) → (more fewer : ℕ → ℕ) → ℕ → Type 0
CountsAt post more fewer p = (c : ℕ × ℕ) → post p c → c ≡ (more p, fewer p)
