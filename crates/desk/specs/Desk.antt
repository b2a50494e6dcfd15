-- What the desk does with each order.
use Rattle.std.specs.Prelude.{◌≡◌, ℕ, Bool, true, false, List, Some, None, Ok, Err, Option, Result}
use Rattle.std.specs.Option.{ok_or, option_map}
use Rattle.rules.specs.Outcome.{Outcome, ◌>>=◌}
use Rattle.text.specs.Reading.{Read}
use Rattle.net.specs.Net.{Meaning}
use Rattle.net.specs.Firing.{Marking, rehearse as rehearsed}
use Rattle.net.specs.Views.{tokens}
use Rattle.arcs.specs.Arcs.{Drafted, add_arc, arc as arc_of, arc_net, begin_arcs, seal_arcs}
use Rattle.arcs.specs.Views.{drafted, sealed}
use Rattle.orders.specs.Parts.{Word, idle, no_memory}
use Rattle.orders.specs.declared.question.Question.{Question}
use Rattle.orders.specs.declared.question.Question.TheVariants.{Taken, Given, Start, Places, Cues}
use Rattle.desk.specs.Orders.{Order, read, net_arcs, arc, seal_net, ask_net, rehearse, help, quit}
use Rattle.desk.specs.declared.answer.Denial.{Denial}
use Rattle.desk.specs.declared.answer.Denial.TheVariants.{Refused, Unread, NoDraft, NoNet, Memory}
use Rattle.desk.specs.declared.answer.Grant.{Grant}
use Rattle.desk.specs.declared.answer.Grant.TheVariants.{Done, Sealed, Number, Marked, Help, Quit}
use Rattle.desk.specs.declared.desk.Desk.{Desk}

-- a net being drafted, and a sealed one
pub record State : Type 0 where
  pub draft : Option Drafted
  pub net : Option Drafted

abbrev pub standing : Desk → State
standing x = record { draft = option_map drafted x.draft; net = option_map sealed x.net }

pub data Reply : Type 0 where
  done : Reply
  sealed_as : (places cues : ℕ) → Reply
  number : ℕ → Reply
  marked : (places : ℕ) → Marking → Reply
  helped : Reply
  ended : Reply

abbrev pub reply : Grant → Reply
reply Done = done
reply (Sealed p c) = sealed_as p c
reply (Number n) = number n
reply (Marked p m) = marked p (tokens m)
reply Help = helped
reply Quit = ended

-- the library's refusal is the desk's
abbrev pub passed_on : {A : Type 0} → Outcome A → Result A Denial
passed_on (Ok a) = Ok a
passed_on (Err e) = Err (Refused e)

abbrev pub asked : Meaning → Question → ℕ
asked n (Taken p t) = n.taken p t
asked n (Given p t) = n.given p t
asked n (Start p) = n.start p
asked n Places = n.places
asked n Cues = n.cues

abbrev pub read_or_denied : {A : Type 0} → Read A → Result A Denial
read_or_denied (Ok a) = Ok a
read_or_denied (Err e) = Err (Unread e)

-- the reply and the later state, or why not
abbrev pub perform : State → Order → Result (Reply × State) Denial
perform s (net_arcs places starts) = do
  d ← passed_on (begin_arcs places starts)
  Ok (done, record { draft = Some d; net = None })
perform s (arc t p i o) = do
  d ← ok_or s.draft NoDraft
  d' ← passed_on (add_arc d (arc_of t p i o))
  Ok (done, record { draft = Some d'; net = s.net })
perform s seal_net = do
  d ← ok_or s.draft NoDraft
  d' ← passed_on (seal_arcs d)
  Ok (sealed_as (arc_net d').places (arc_net d').cues, record { draft = None; net = Some d' })
perform s (ask_net q) = do
  d ← ok_or s.net NoNet
  Ok (number (asked (arc_net d) q), s)
perform s (rehearse cues) = do
  d ← ok_or s.net NoNet
  m ← passed_on (rehearsed (arc_net d) (arc_net d).start cues)
  Ok (marked (arc_net d).places m, s)
perform s help = Ok (helped, s)
perform s quit = Ok (ended, s)

-- a line of words is read, and what it orders is done
abbrev pub perform_line : State → List Word → Result (Reply × State) Denial
perform_line s ws = do
  o ← read_or_denied (read ws)
  perform s o

-- want of memory, which no rule foresees
abbrev pub memory_failed : Denial → Bool
memory_failed (Refused e) = false
memory_failed (Unread e) = no_memory e
memory_failed NoDraft = false
memory_failed NoNet = false
memory_failed Memory = true

-- the answer and the later state are those of the rules; a denial changes nothing, nor does want of memory
abbrev pub Comes : Result (Reply × State) Denial → State → Result Grant Denial → State → Type 0
Comes o s (Ok g) s' = o ≡ Ok (reply g, s')
Comes o s (Err e) s' = (s' ≡ s) × (memory_failed e ≡ false → o ≡ Err e)

abbrev pub Obeyed : State → Order → Result Grant Denial → State → Type 0
Obeyed s o r s' = Comes (perform s o) s r s'

-- a line that orders nothing has no answer and changes nothing
abbrev pub Answered : State → List Word → Option (Result Grant Denial) → State → Type 0
Answered s ws None s' = (idle ws ≡ true) × (s' ≡ s)
Answered s ws (Some r) s' = (idle ws ≡ false) × Comes (perform_line s ws) s r s'
