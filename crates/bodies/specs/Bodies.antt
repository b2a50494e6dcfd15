-- What stands in a body: a bound, and entries that name a place or a line with a number.
use Rattle.std.specs.Prelude.{ℕ, suc, ◌+◌, ◌-◌, ◌*◌, ◌%◌, Bool, cond, not, ◌&&◌, List, [], ◌∷◌, length, drop, replicate, ℤ, pos, negsuc, Some, None, Ok, Option, Result, ◌==◌, nat_le, nat_lt, slice_index, slice_set, unsigned_abs}
use Rattle.rules.specs.Limits.{most_places}
use Rattle.rules.specs.Outcome.{◌>>=◌, need, none_such}
use Rattle.rules.specs.declared.fault.Fault.{Fault}
use Rattle.rules.specs.declared.fault.Fault.TheVariants.{BodyLength, MissingPlace, MissingLine, MissingCondition, EntryUnfit}
use Rattle.blocks.specs.Layout.{word, word_at}
pub use Rattle.bodies.specs.declared.Entry.{Entry}
use Rattle.bodies.specs.declared.Named.{Named}
use Rattle.bodies.specs.declared.Named.TheVariants.{Place, Line, Condition}
use Rattle.bodies.specs.declared.Shape.{Shape}
use Rattle.bodies.specs.declared.Shape.TheVariants.{Names, Weights, Multipliers}

-- what is told of a name that does not exist
abbrev pub absent : Named → ℕ → Fault
absent Place k = MissingPlace k
absent Line k = MissingLine k
absent Condition k = MissingCondition k

-- two's complement, half being the least number that counts as below zero
abbrev pub signed : ℕ → ℕ → ℤ
signed half w = cond (nat_lt w half) (pos w) (negsuc ((2 * half - 1) - w))

abbrev pub weight : ℕ → ℕ → ℤ
weight low high = signed 32768 (word low high)

abbrev pub multiplier : ℕ → ℕ → ℤ
multiplier low high = pos (word low high)

-- the bound in the first four bytes
abbrev pub bound_in : List ℕ → ℤ
bound_in bs = signed 2147483648 (word_at bs 0 + 65536 * word_at bs 2)

-- a place or a line, and its weight or multiplier
abbrev pub entry : ℕ → ℤ → Entry
entry k z = record { name = k; number = z }

-- three bytes each: a name, and a number in two bytes
abbrev pub triples : (ℕ → ℕ → ℤ) → List ℕ → List Entry
triples f [] = []
triples f (a ∷ []) = []
triples f (a ∷ b ∷ []) = []
triples f (a ∷ b ∷ c ∷ rest) = entry a (f b c) ∷ triples f rest

-- one byte each: a name, which counts once
abbrev pub names : List ℕ → List Entry
names [] = []
names (a ∷ rest) = entry a (pos 1) ∷ names rest

abbrev pub entries : Shape → List ℕ → List Entry
entries Names bs = names bs
entries Weights bs = triples weight bs
entries Multipliers bs = triples multiplier bs

abbrev pub size : Shape → ℕ
size Names = 1
size Weights = 3
size Multipliers = 3

-- at least one entry, and no part of one
abbrev pub fits : Shape → ℕ → Bool
fits s n = nat_lt 0 n && n % size s == 0

-- the first that names what does not exist
abbrev pub missing : ℕ → List Entry → Option ℕ
missing n [] = None
missing n (e ∷ es) = let rest : Option ℕ = missing n es in cond (nat_lt e.name n) rest (Some e.name)

-- the first entry, counted from i on, that does not rise over the last, or has the number 0
abbrev pub unfit_from : ℕ → ℕ → List Entry → Option ℕ
unfit_from i least [] = None
unfit_from i least (e ∷ es) =
    let rest : Option ℕ = unfit_from (suc i) (suc e.name) es in
    cond (nat_le least e.name && not (unsigned_abs e.number == 0)) rest (Some i)

abbrev pub unfit : List Entry → Option ℕ
unfit es = unfit_from 0 0 es

-- the entries of a body of this shape that names what is below n; a missing one is told by its number
abbrev pub fit_entries : Shape → Named → ℕ → List ℕ → Result (List Entry) Fault
fit_entries s what n bs = do
  _ ← need (fits s (length bs)) (BodyLength (length bs))
  _ ← none_such (missing n (entries s bs)) (absent what)
  _ ← none_such (unfit (entries s bs)) EntryUnfit
  Ok (entries s bs)

-- a bound before the entries; the length told is the whole one
abbrev pub bound_size : ℕ
bound_size = 4

abbrev pub fits_bounded : ℕ → Bool
fits_bounded n = nat_le bound_size n && fits Weights (n - bound_size)

abbrev pub fit_bounded : ℕ → List ℕ → Result (ℤ × List Entry) Fault
fit_bounded n bs = do
  _ ← need (fits_bounded (length bs)) (BodyLength (length bs))
  es ← fit_entries Weights Place n (drop bound_size bs)
  Ok (bound_in bs, es)

-- one name and nothing else
abbrev pub fit_one : Named → ℕ → List ℕ → Result ℕ Fault
fit_one what n bs = do
  _ ← need (length bs == 1) (BodyLength (length bs))
  _ ← need (nat_lt (slice_index bs 0) n) (absent what (slice_index bs 0))
  Ok (slice_index bs 0)

-- a number for each place that there can be, 0 where no entry names it
abbrev pub spread_on : List ℤ → List Entry → List ℤ
spread_on zs [] = zs
spread_on zs (e ∷ es) = spread_on (slice_set zs e.name e.number) es

abbrev pub spread : List Entry → List ℤ
spread es = spread_on (replicate most_places (pos 0)) es
