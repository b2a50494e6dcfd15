-- The lowest number below n that passes a test.
use Rattle.std.specs.Prelude.{◌≡◌, ℕ, zero, suc, ◌<◌, Bool, true, false, cond, Some, None, Option}

abbrev pub or_else : {A : Type 0} → Option A → Option A → Option A
or_else (Some a) b = Some a
or_else None b = b

abbrev pub lowest : ℕ → (ℕ → Bool) → Option ℕ
lowest zero f = None
lowest (suc n) f = or_else (lowest n f) (cond (f n) (Some n) None)

-- every number below n fails
abbrev pub AllFail : ℕ → (ℕ → Bool) → Type 0
AllFail n f = (i : ℕ) → i < n → f i ≡ false

-- r passes and all below it fail, or all below n fail
abbrev pub IsLowest : ℕ → (ℕ → Bool) → Option ℕ → Type 0
IsLowest n f (Some i) = (i < n) × (f i ≡ true) × AllFail i f
IsLowest n f None = AllFail n f

-- r is the lowest by definition, and has its meaning
abbrev pub FindsLowest : ℕ → (ℕ → Bool) → Option ℕ → Type 0
FindsLowest n f r = (r ≡ lowest n f) × IsLowest n f r

-- at each number below n the test gives what f says
abbrev pub Computes : ℕ → (ℕ → Bool → Type 0) → (ℕ → Bool) → Type 0
Computes n post f = (i : ℕ) (b : Bool) → i < n → post i b → b ≡ f i
