-- The limit of a line's numbers.
use Rattle.std.specs.Prelude.{◌^◌, Bool, cond, ◌&&◌, ℤ, pos, neg_ℤ, ◌≤ℤ◌, Some, None, Option, int_le}

abbrev pub limit : ℤ
limit = pos (2 ^ 40)

-- the limit and its opposite are within
abbrev pub Limited : ℤ → Type 0
Limited z = (neg_ℤ limit ≤ℤ z) × (z ≤ℤ limit)

abbrev pub within : ℤ → Bool
within z = int_le (neg_ℤ limit) z && int_le z limit

-- z, if it lies within the limit
abbrev pub held : ℤ → Option ℤ
held z = cond (within z) (Some z) None
