-- The language of the desk: what each row of words orders.
use Rattle.std.specs.Prelude.{ℕ, cond, List, [], ◌∷◌, Ok, Err, vec_items, codes, Result}
use Rattle.rules.specs.Outcome.{◌>>=◌}
use Rattle.text.specs.Names.{same}
use Rattle.text.specs.Reading.{Read, all_numbers}
use Rattle.text.specs.declared.problem.Problem.{Problem}
use Rattle.text.specs.declared.problem.Problem.TheVariants.{Missing, Unknown}
use Rattle.orders.specs.Parts as parts
use Rattle.orders.specs.Parts.{Word, ReadBy, alone, named, read_pairs}
use Rattle.orders.specs.Questions as questions
use Rattle.orders.specs.declared.question.Question.{Question}
use Rattle.desk.specs.declared.command.Command.{Command}
use Rattle.desk.specs.declared.command.Command.TheVariants.{NetArcs, Arc, SealNet, AskNet, Rehearse, Help, Quit}
use Rattle.desk.specs.declared.read.Verb.{Verb}
use Rattle.desk.specs.declared.read.Verb.TheVariants.{Net as ToNet, Arc as ToArc, Seal as ToSeal, Ask as ToAsk, Rehearse as ToRehearse, Help as ToHelp, Quit as ToQuit}

pub data Order : Type 0 where
  net_arcs : (places : ℕ) (starts : List ℕ) → Order
  arc : (cue place taken given : ℕ) → Order
  seal_net : Order
  ask_net : Question → Order
  rehearse : (cues : List ℕ) → Order
  help : Order
  quit : Order

-- what a command stands for
abbrev pub order : Command → Order
order (NetArcs places starts) = net_arcs places (vec_items starts)
order (Arc t p i o) = arc t p i o
order SealNet = seal_net
order (AskNet q) = ask_net q
order (Rehearse cues) = rehearse (vec_items cues)
order Help = help
order Quit = quit

-- a command is read as the language says, but for want of memory
abbrev pub ReadAs : Read Order → Result Command Problem → Type 0
ReadAs o r = ReadBy order o r

abbrev pub read_arcs : List Word → Read Order
read_arcs ws = do
  k ← parts.read_arcs ws
  Ok (net_arcs k.0 k.1)

abbrev pub read_net : List Word → Read Order
read_net ws = named (codes "arcs") read_arcs ws

abbrev pub read_arc : List Word → Read Order
read_arc ws = do
  k ← read_pairs ws
  Ok (arc k.0.0 k.0.1 k.1.0 k.1.1)

abbrev pub read_seal : List Word → Read Order
read_seal ws = named (codes "net") (alone seal_net) ws

abbrev pub read_question : List Word → Read Order
read_question ws = do
  q ← questions.read_question ws
  Ok (ask_net q)

abbrev pub read_ask : List Word → Read Order
read_ask ws = named (codes "net") read_question ws

abbrev pub read_rehearse : List Word → Read Order
read_rehearse ws = do
  cues ← all_numbers ws
  Ok (rehearse cues)

abbrev pub verb : Word → Read Verb
verb w =
    cond (same w (codes "net")) (Ok ToNet)
    (cond (same w (codes "arc")) (Ok ToArc)
    (cond (same w (codes "seal")) (Ok ToSeal)
    (cond (same w (codes "ask")) (Ok ToAsk)
    (cond (same w (codes "rehearse")) (Ok ToRehearse)
    (cond (same w (codes "help")) (Ok ToHelp)
    (cond (same w (codes "quit")) (Ok ToQuit) (Err Unknown)))))))

abbrev pub read_verb : Verb → List Word → Read Order
read_verb ToNet ws = read_net ws
read_verb ToArc ws = read_arc ws
read_verb ToSeal ws = read_seal ws
read_verb ToAsk ws = read_ask ws
read_verb ToRehearse ws = read_rehearse ws
read_verb ToHelp ws = alone help ws
read_verb ToQuit ws = alone quit ws

abbrev pub read : List Word → Read Order
read [] = Err Missing
read (w ∷ ws) = do
  v ← verb w
  read_verb v ws
