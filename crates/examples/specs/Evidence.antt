-- Bodies and evidence, and what the rules make of them.
use Rattle.std.specs.Prelude.{◌≡◌, true, false, List, [], ◌∷◌, ◌++◌, replicate, ℤ, pos, negsuc, Some, None, Ok, Err}
use Rattle.rules.specs.Refusals.{told, tells}
use Rattle.rules.specs.declared.refusal.Told.{Told}
use Rattle.rules.specs.declared.refusal.Refusal.TheVariants.{Step}
use Rattle.rules.specs.declared.fault.Fault.TheVariants.{BodyLength, MissingPlace, MissingLine, MissingCondition, EntryUnfit, ColumnFalls, NoTrap, TrapUnmarked, Other}
use Rattle.bodies.specs.Bodies.{entry, fit_bounded, fit_entries, fit_one}
use Rattle.bodies.specs.declared.Named.TheVariants.{Place, Line, Condition}
use Rattle.bodies.specs.declared.Shape.TheVariants.{Names, Weights, Multipliers}
use Rattle.line.specs.Lines as lines
use Rattle.line.specs.declared.Line as declared
use Rattle.evidence.specs.Base.{base}
use Rattle.evidence.specs.Sets.{asked, common, has}
use Rattle.evidence.specs.Single.{place_rule}
use Rattle.evidence.specs.Traps.{trap_rule}
use Rattle.evidence.specs.Weights.{weight_rule}
use Rattle.examples.specs.Nets.{A, drained, one_place}

-- coefficients on the first three places
abbrev pub three : ℤ → ℤ → ℤ → ℤ → declared.Line
three a b c bound = lines.line ((a ∷ b ∷ c ∷ []) ++ replicate 93 (pos 0)) bound

pub record EvidenceTable : Type 0 where
  -- the net of three places
  pub no_trap : trap_rule A (0 ∷ []) ≡ Err (NoTrap 0)
  pub trap_unmarked : trap_rule A (1 ∷ []) ≡ Err TrapUnmarked
  pub trap : trap_rule A (0 ∷ 2 ∷ []) ≡ Ok (three (pos 1) (pos 0) (pos 1) (pos 1))
  pub falls : weight_rule A (1 ∷ 255 ∷ 255 ∷ []) ≡ Err (ColumnFalls 0)
  pub weights : weight_rule A (0 ∷ 255 ∷ 255 ∷ 1 ∷ 255 ∷ 255 ∷ 2 ∷ 255 ∷ 255 ∷ []) ≡ Ok (three (negsuc 0) (negsuc 0) (negsuc 0) (negsuc 0))
  pub place : place_rule A (2 ∷ []) ≡ Ok (three (pos 0) (pos 0) (pos 1) (pos 0))
  pub no_place : place_rule A (3 ∷ []) ≡ Err (MissingPlace 3)
  -- a cue that takes and gives back leaves a trap; leaks are told before the start
  pub guard : trap_rule A (2 ∷ []) ≡ Err TrapUnmarked
  pub guard_marked : trap_rule (one_place 1) (0 ∷ []) ≡ Ok (three (pos 1) (pos 0) (pos 0) (pos 1))
  pub leaks_unmarked : trap_rule (drained 0) (0 ∷ []) ≡ Err (NoTrap 0)
  pub leaks_marked : trap_rule (drained 1) (0 ∷ []) ≡ Err (NoTrap 0)
  -- lengths
  pub weights_0 : weight_rule A [] ≡ Err (BodyLength 0)
  pub weights_4 : weight_rule A (9 ∷ 0 ∷ 0 ∷ 9 ∷ []) ≡ Err (BodyLength 4)
  pub trap_0 : trap_rule A [] ≡ Err (BodyLength 0)
  pub place_0 : place_rule A [] ≡ Err (BodyLength 0)
  pub place_2 : place_rule A (9 ∷ 9 ∷ []) ≡ Err (BodyLength 2)
  -- names over the whole body before the order and the numbers of its entries
  pub missing_first : weight_rule A (0 ∷ 0 ∷ 0 ∷ 7 ∷ 1 ∷ 0 ∷ []) ≡ Err (MissingPlace 7)
  pub not_rising : weight_rule A (2 ∷ 1 ∷ 0 ∷ 1 ∷ 1 ∷ 0 ∷ []) ≡ Err (EntryUnfit 1)
  pub zero_weight : weight_rule A (0 ∷ 1 ∷ 0 ∷ 1 ∷ 0 ∷ 0 ∷ []) ≡ Err (EntryUnfit 1)
  pub same_place : trap_rule A (0 ∷ 2 ∷ 2 ∷ []) ≡ Err (EntryUnfit 2)
  pub unfit_before_falls : weight_rule A (1 ∷ 255 ∷ 255 ∷ 1 ∷ 1 ∷ 0 ∷ []) ≡ Err (EntryUnfit 1)
  pub missing_line : fit_entries Multipliers Line 2 (2 ∷ 1 ∷ 0 ∷ []) ≡ Err (MissingLine 2)
  pub missing_condition : fit_one Condition 16 (16 ∷ []) ≡ Err (MissingCondition 16)
  pub last_condition : fit_one Condition 16 (15 ∷ []) ≡ Ok 15
  -- numbers at their limits
  pub extremes : fit_entries Weights Place 3 (0 ∷ 0 ∷ 128 ∷ 2 ∷ 255 ∷ 127 ∷ []) ≡ Ok (entry 0 (negsuc 32767) ∷ entry 2 (pos 32767) ∷ [])
  pub lightest : weight_rule A (0 ∷ 0 ∷ 128 ∷ []) ≡ Ok (three (negsuc 32767) (pos 0) (pos 0) (negsuc 32767))
  pub heaviest : weight_rule A (1 ∷ 255 ∷ 127 ∷ []) ≡ Ok (three (pos 0) (pos 32767) (pos 0) (pos 0))
  pub multipliers : fit_entries Multipliers Line 2 (0 ∷ 0 ∷ 128 ∷ 1 ∷ 255 ∷ 255 ∷ []) ≡ Ok (entry 0 (pos 32768) ∷ entry 1 (pos 65535) ∷ [])
  pub names : fit_entries Names Place 96 (0 ∷ 95 ∷ []) ≡ Ok (entry 0 (pos 1) ∷ entry 95 (pos 1) ∷ [])
  pub bound_below : fit_bounded 3 (255 ∷ 255 ∷ 255 ∷ 255 ∷ 0 ∷ 1 ∷ 0 ∷ []) ≡ Ok (negsuc 0, entry 0 (pos 1) ∷ [])
  pub least_bound : fit_bounded 3 (0 ∷ 0 ∷ 0 ∷ 128 ∷ 0 ∷ 1 ∷ 0 ∷ []) ≡ Ok (negsuc 2147483647, entry 0 (pos 1) ∷ [])
  pub greatest_bound : fit_bounded 3 (255 ∷ 255 ∷ 255 ∷ 127 ∷ 0 ∷ 1 ∷ 0 ∷ []) ≡ Ok (pos 2147483647, entry 0 (pos 1) ∷ [])
  pub bound_alone : fit_bounded 3 (0 ∷ 0 ∷ 0 ∷ 0 ∷ []) ≡ Err (BodyLength 4)
  pub bound_cut : fit_bounded 3 (0 ∷ 0 ∷ 0 ∷ []) ≡ Err (BodyLength 3)
  pub bound_missing : fit_bounded 3 (0 ∷ 0 ∷ 0 ∷ 0 ∷ 3 ∷ 0 ∷ 0 ∷ []) ≡ Err (MissingPlace 3)
  -- faults as they are told of the step at 12
  pub steps_told : ◌≡◌ {A = List Told}
      (told (Step 12 (BodyLength 4)) ∷ told (Step 12 (MissingPlace 5)) ∷ told (Step 12 (MissingLine 5)) ∷ told (Step 12 (MissingCondition 5)) ∷ told (Step 12 (EntryUnfit 1)) ∷ told (Step 12 (ColumnFalls 5)) ∷ told (Step 12 (NoTrap 5)) ∷ told (Step 12 TrapUnmarked) ∷ told (Step 12 (Other 60 5)) ∷ [])
      (tells 7 3 12 4 ∷ tells 8 3 12 5 ∷ tells 8 3 12 5 ∷ tells 8 3 12 5 ∷ tells 9 3 12 1 ∷ tells 10 3 12 5 ∷ tells 11 3 12 5 ∷ tells 12 3 12 0 ∷ tells 60 3 12 5 ∷ [])
  -- the kinds that every house has
  pub has_weights : has base 87 ≡ true
  pub has_traps : has base 84 ≡ true
  pub has_places : has base 80 ≡ true
  pub has_no_head : has base 72 ≡ false
  pub asked_traps : asked (base 84) A (0 ∷ []) ≡ Some (Err (NoTrap 0))
  pub asked_nothing : asked (base 72) A (0 ∷ []) ≡ None
  pub in_common : common base base ≡ Some 80
