-- Scales: what weights are added on.
use Rattle.std.specs.Prelude.{◌≡◌, ℕ, ◌+◌, ◌≤◌, Bool, true}

-- a zero, a sum, opposites; which values stand on the scale; and how far from zero a value is, at most
pub record Group (W : Type 0) : Type 0 where
  pub nil : W
  pub plus : W → W → W
  pub opp : W → W
  pub on : W → Bool
  pub reach : W → ℕ

pub record Plain {W : Type 0} (G : Group W) : Type 0 where
  pub nil_on : G.on G.nil ≡ true
  pub plus_on : (a b : W) → G.on a ≡ true → G.on b ≡ true → G.on (G.plus a b) ≡ true
  pub opp_on : (a : W) → G.on a ≡ true → G.on (G.opp a) ≡ true
  pub assoc : (a b c : W) → G.plus (G.plus a b) c ≡ G.plus a (G.plus b c)
  pub comm : (a b : W) → G.plus a b ≡ G.plus b a
  pub unit : (a : W) → G.on a ≡ true → G.plus G.nil a ≡ a
  pub inverse : (a : W) → G.on a ≡ true → G.plus a (G.opp a) ≡ G.nil
  pub nil_reach : G.reach G.nil ≡ 0
  pub plus_reach : (a b : W) → G.reach (G.plus a b) ≤ G.reach a + G.reach b
  pub opp_reach : (a : W) → G.reach (G.opp a) ≤ G.reach a

-- one thing more: a test that zero passes, and the sum of two that pass
pub record Tested {W : Type 0} (G : Group W) (passes : W → Bool) : Type 0 where
  pub nil_passes : passes G.nil ≡ true
  pub plus_passes : (a b : W) → passes a ≡ true → passes b ≡ true → passes (G.plus a b) ≡ true
