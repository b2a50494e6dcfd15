-- The tests of the limit say what the limit says.
use Rattle.std.proofs.Common.{◌≡◌, true, ℤ, neg_ℤ, ◌≤ℤ◌, Decides, sym, arith}
use lib.Signed.{le_z}
use Rattle.std.proofs.lemmas.Int.{ints}
use Rattle.std.proofs.lemmas.Bool.Decides.{Decides-and}
use Rattle.whole.specs.Limits.{limit, Limited, within}

pub decides_le : (a b : ℤ) → Decides (le_z a b) (a ≤ℤ b)
decides_le a b = (λ e. omega (arith, ints), λ h. sym (let t : true ≡ le_z a b = omega (arith, ints) in t))

pub decides_within : (z : ℤ) → Decides (within z) (Limited z)
decides_within z = Decides-and (le_z (neg_ℤ limit) z) (le_z z limit) (decides_le (neg_ℤ limit) z) (decides_le z limit)
