-- Tests in a row: the first that fails refuses.
use Rattle.std.specs.Prelude.{◌≡◌, ℕ, Bool, true, false, is_ok, Some, None, Ok, Err, Option, Result}
use Rattle.rules.specs.declared.refusal.Refusal.{Refusal}
use Rattle.rules.specs.declared.failure.Failure.{Failure}
use Rattle.rules.specs.declared.failure.Failure.TheVariants.{Refused, Memory}

-- what was asked for, or why not
abbrev pub Outcome : Type 0 → Type 0
Outcome A = Result A Refusal

infixl 1 ◌>>=◌
abbrev pub ◌>>=◌ : {A B E : Type 0} → Result A E → (A → Result B E) → Result B E
Ok a >>= f = f a
Err e >>= f = Err e

abbrev pub need : {E : Type 0} → Bool → E → Result Unit E
need true e = Ok tt
need false e = Err e

-- refused by what is found
abbrev pub none_such : {E : Type 0} → Option ℕ → (ℕ → E) → Result Unit E
none_such None e = Ok tt
none_such (Some i) e = Err (e i)

-- what was granted, as it is seen
abbrev pub viewed : {A B E : Type 0} → (A → B) → Result A E → Result B E
viewed f (Ok a) = Ok (f a)
viewed f (Err e) = Err e

-- the answer alone
abbrev pub answered : {A : Type 0} → Outcome A → Outcome Unit
answered (Ok a) = Ok tt
answered (Err e) = Err e

-- what is left of a: what was granted, or a as it was
abbrev pub left : {A : Type 0} → A → Outcome A → A
left a (Ok b) = b
left a (Err e) = a

-- a call on a that the rules let come to o answered r and left b: want of memory leaves a as it was
abbrev pub Came : {A : Type 0} → A → Outcome A → Result Unit Failure → A → Type 0
Came a o (Ok _) b = o ≡ Ok b
Came a o (Err (Refused e)) b = (o ≡ Err e) × (b ≡ a)
Came a o (Err Memory) b = (is_ok o ≡ true) × (b ≡ a)
