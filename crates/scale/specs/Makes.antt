-- Whole numbers, pairs of them, and residues.
use Rattle.std.specs.Prelude.{◌≡◌, ℕ, ◌+◌, ◌-◌, ◌%◌, max, Bool, true, ◌&&◌, ℤ, pos, ◌+ℤ◌, neg_ℤ, int_le, nat_lt, unsigned_abs}
use Rattle.std.specs.Int.{int_rem_euclid}
use Rattle.scale.specs.Scales.{Group}
use Rattle.scale.specs.Sums.{weighed}
use Rattle.scale.specs.declared.makes.Pair.{Pair}

abbrev pub whole : Group ℤ
whole = record { nil = pos 0; plus = λ a b. a +ℤ b; opp = neg_ℤ; on = λ _. true; reach = unsigned_abs }

abbrev pub whole_passes : ℤ → Bool
whole_passes a = int_le (pos 0) a

abbrev pub pair : ℤ → ℤ → Pair
pair x y = record { left = x; right = y }

-- part by part
abbrev pub pairs : Group Pair
pairs = record {
  nil = pair (pos 0) (pos 0);
  plus = λ a b. pair (a.left +ℤ b.left) (a.right +ℤ b.right);
  opp = λ a. pair (neg_ℤ a.left) (neg_ℤ a.right);
  on = λ _. true;
  reach = λ a. max (unsigned_abs a.left) (unsigned_abs a.right);
}

abbrev pub pair_passes : Pair → Bool
pair_passes a = whole_passes a.left && whole_passes a.right

-- modulo m
abbrev pub residues : ℕ → Group ℕ
residues m = record {
  nil = 0;
  plus = λ a b. (a + b) % m;
  opp = λ a. (m - a) % m;
  on = λ a. nat_lt a m;
  reach = λ _. 0;
}

-- the remainder modulo m, from 0 on, below zero too
abbrev pub reduced : ℕ → ℤ → ℕ
reduced m z = unsigned_abs (int_rem_euclid z (pos m))

-- residues weigh the whole weight's remainder, by the weights' remainders
abbrev pub WeighsRemainders : ℕ → Type 0
WeighsRemainders m =
    (more fewer : ℕ → ℕ) (ws : ℕ → ℤ) (n : ℕ) → weighed (residues m) more fewer (λ p. reduced m (ws p)) n ≡ reduced m (weighed whole more fewer ws n)
