-- Number and detail of each fault of a body.
use Rattle.std.specs.Prelude.{ℕ, Bool, ◌&&◌, nat_le}
use Rattle.rules.specs.declared.fault.Fault.{Fault}
use Rattle.rules.specs.declared.fault.Fault.TheVariants.{BodyLength, MissingPlace, MissingLine, MissingCondition, EntryUnfit, ColumnFalls, NoTrap, TrapUnmarked, Other}

abbrev pub fault_told : Fault → ℕ × ℕ
fault_told (BodyLength n) = (7, n)
fault_told (MissingPlace p) = (8, p)
fault_told (MissingLine k) = (8, k)
fault_told (MissingCondition c) = (8, c)
fault_told (EntryUnfit k) = (9, k)
fault_told (ColumnFalls t) = (10, t)
fault_told (NoTrap t) = (11, t)
fault_told TrapUnmarked = (12, 0)
fault_told (Other n d) = (n, d)

-- the form of the body is at fault
abbrev pub formal : Fault → Bool
formal f = nat_le 7 (fault_told f).0 && nat_le (fault_told f).0 9
