-- Tests in a row, by what the first one answers.
use Rattle.std.proofs.Common.{◌≡◌, ℕ, Bool, true, false, Some, None, Ok, Err, Option, Result, refl, arith}
use Rattle.rules.specs.declared.refusal.Refusal.{Refusal}
use Rattle.rules.specs.Outcome.{Outcome, ◌>>=◌, need, none_such, answered, left}

pub bind_granted : {A B : Type 0} (a : A) (o : Outcome A) (f : A → Outcome B) → Ok tt ≡ answered o → (o >>= f) ≡ f (left a o)
bind_granted a (Ok b) f e = refl
bind_granted a (Err x) f e = let z : ◌≡◌ {A = ℕ} 0 1 = cc in absurd (omega arith)

pub bind_refused : {A B : Type 0} (o : Outcome A) (x : Refusal) (f : A → Outcome B) → Err x ≡ answered o → (o >>= f) ≡ Err x
bind_refused (Ok b) x f e = let z : ◌≡◌ {A = ℕ} 0 1 = cc in absurd (omega arith)
bind_refused (Err y) x f e = cc

-- a row of tests that is granted passed its first
pub need_passed : {B : Type 0} (t : Bool) (x : Refusal) (f : Unit → Outcome B) → Ok tt ≡ answered (need t x >>= f) → (t ≡ true) × (Ok tt ≡ answered (f tt))
need_passed true x f e = (refl, e)
need_passed false x f e = let z : ◌≡◌ {A = ℕ} 0 1 = cc in absurd (omega arith)

pub none_passed : {B : Type 0} (o : Option ℕ) (x : ℕ → Refusal) (f : Unit → Outcome B) → Ok tt ≡ answered (none_such o x >>= f) → (o ≡ None) × (Ok tt ≡ answered (f tt))
none_passed None x f e = (refl, e)
none_passed (Some i) x f e = let z : ◌≡◌ {A = ℕ} 0 1 = cc in absurd (omega arith)

-- a row of tests that grants a value has passed its first
pub bind_ok : {A B E : Type 0} (o : Result A E) (f : A → Result B E) (b : B) → (o >>= f) ≡ Ok b → (a : A) × (o ≡ Ok a) × (f a ≡ Ok b)
bind_ok (Ok a) f b e = (a, refl, e)
bind_ok (Err x) f b e = absurd (let z : ◌≡◌ {A = ℕ} 0 1 = cc in omega arith)

pub need_ok : {B E : Type 0} (t : Bool) (x : E) (f : Unit → Result B E) (b : B) → (need t x >>= f) ≡ Ok b → (t ≡ true) × (f tt ≡ Ok b)
need_ok true x f b e = (refl, e)
need_ok false x f b e = absurd (let z : ◌≡◌ {A = ℕ} 0 1 = cc in omega arith)

pub none_ok : {B E : Type 0} (o : Option ℕ) (x : ℕ → E) (f : Unit → Result B E) (b : B) → (none_such o x >>= f) ≡ Ok b → (o ≡ None) × (f tt ≡ Ok b)
none_ok None x f b e = (refl, e)
none_ok (Some i) x f b e = absurd (let z : ◌≡◌ {A = ℕ} 0 1 = cc in omega arith)

pub ok_same : {A E : Type 0} (a b : A) → ◌≡◌ {A = Result A E} (Ok a) (Ok b) → a ≡ b
ok_same a b e = cc
