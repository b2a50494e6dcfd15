-- What an answer says beside its words.
use Rattle.std.specs.Prelude.{Bool, true, false}
use Rattle.rules.specs.declared.failure.Failure.{Failure}
use Rattle.rules.specs.declared.failure.Failure.TheVariants.{Refused as Refused', Memory as Memory'}
use Rattle.desk.specs.declared.answer.Denial.{Denial}
use Rattle.desk.specs.declared.answer.Denial.TheVariants.{Refused, Memory}
use Rattle.desk.specs.declared.answer.Grant.{Grant}
use Rattle.desk.specs.declared.answer.Grant.TheVariants.{Done, Sealed, Number, Marked, Help, Quit}

abbrev pub failed : Failure → Denial
failed (Refused' e) = Refused e
failed Memory' = Memory

abbrev pub ends : Grant → Bool
ends Done = false
ends (Sealed p c) = false
ends (Number n) = false
ends (Marked p m) = false
ends Help = false
ends Quit = true
