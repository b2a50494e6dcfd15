-- Numbers in decimal digits.
use Rattle.std.specs.Prelude.{ℕ, ◌+◌, ◌-◌, ◌*◌, Bool, true, cond, ◌&&◌, List, [], ◌∷◌, ℤ, pos, negsuc, neg_ℤ, Some, None, Option, ◌==◌, int_le, nat_le}

abbrev pub most_number : ℕ
most_number = 4294967295

-- from '0' to '9'
abbrev pub is_digit : ℕ → Bool
is_digit b = nat_le 48 b && nat_le b 57

abbrev pub digit : ℕ → Option ℕ
digit b = cond (is_digit b) (Some (b - 48)) None

unfoldable pub all_digits : List ℕ → Bool
all_digits [] = true
all_digits (b ∷ bs) = is_digit b && all_digits bs

-- the value of n with more digits after it
unfoldable pub value : ℕ → List ℕ → ℕ
value n [] = n
value n (b ∷ bs) = value (n * 10 + (b - 48)) bs

-- n with more digits after it, if they are digits and the value is not too great
abbrev pub extended : ℕ → List ℕ → Option ℕ
extended n bs = cond (all_digits bs && nat_le (value n bs) most_number) (Some (value n bs)) None

abbrev pub number : List ℕ → Option ℕ
number [] = None
number (b ∷ bs) = extended 0 (b ∷ bs)

abbrev pub least_signed : ℤ
least_signed = negsuc 2147483647

abbrev pub most_signed : ℤ
most_signed = pos 2147483647

abbrev pub fitted : ℤ → Option ℤ
fitted z = cond (int_le least_signed z && int_le z most_signed) (Some z) None

abbrev pub positive : Option ℕ → Option ℤ
positive None = None
positive (Some n) = fitted (pos n)

abbrev pub negative : Option ℕ → Option ℤ
negative None = None
negative (Some n) = fitted (neg_ℤ (pos n))

-- a number that may follow a '-'
abbrev pub signed : List ℕ → Option ℤ
signed [] = None
signed (b ∷ bs) = cond (b == 45) (negative (number bs)) (positive (number (b ∷ bs)))
