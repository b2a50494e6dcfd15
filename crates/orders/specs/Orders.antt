-- The language of the desk: what each row of words orders.
use Rattle.std.specs.Prelude.{ℕ, Bool, cond, List, [], ◌∷◌, None, Ok, Err, vec_items, codes, Option, Result}
use Rattle.rules.specs.Outcome.{◌>>=◌}
use Rattle.text.specs.Names.{same}
use Rattle.text.specs.Reading.{Read, first_number, all_numbers}
use Rattle.text.specs.Words.{head, tail}
use Rattle.text.specs.declared.problem.Problem.{Problem}
use Rattle.text.specs.declared.problem.Problem.TheVariants.{Missing, Unknown}
use Rattle.row_words.specs.RowWords.{row_body}
use Rattle.orders.specs.Parts as parts
use Rattle.orders.specs.Parts.{Word, ReadBy, alone, named, read_pair, read_pairs, read_single}
use Rattle.orders.specs.Questions as questions
use Rattle.orders.specs.declared.command.Command.{Command}
use Rattle.orders.specs.declared.command.Command.TheVariants.{NetArcs, Arc, NetThreads, Thread, Move, SealNet, Conditions, Row, SealConditions, AskNet, Rehearse, Records, Help, Quit}
use Rattle.orders.specs.declared.question.Question.{Question}
use Rattle.orders.specs.declared.read.Make.{Make}
use Rattle.orders.specs.declared.read.Make.TheVariants.{Arcs, Threads}
use Rattle.orders.specs.declared.read.Object.{Object}
use Rattle.orders.specs.declared.read.Object.TheVariants.{Net as TheNet, Conditions as TheConditions}
use Rattle.orders.specs.declared.read.Verb.{Verb}
use Rattle.orders.specs.declared.read.Verb.TheVariants.{Net as ToNet, Arc as ToArc, Thread as ToThread, Move as ToMove, Seal as ToSeal, Conditions as ToConditions, Row as ToRow, Ask as ToAsk, Rehearse as ToRehearse, Records as ToRecords, Help as ToHelp, Quit as ToQuit}

pub data Order : Type 0 where
  net_arcs : (places : ℕ) (starts : List ℕ) → Order
  arc : (cue place taken given : ℕ) → Order
  net_threads : Order
  thread : (states start : ℕ) → Order
  move : (cue thread from to : ℕ) → Order
  seal_net : Order
  conditions : (places : ℕ) → Order
  row : (condition : ℕ) (body : List ℕ) → Order
  seal_conditions : Order
  ask_net : Question → Order
  rehearse : (cues : List ℕ) → Order
  records : Order
  help : Order
  quit : Order

-- what a command stands for
abbrev pub order : Command → Order
order (NetArcs places starts) = net_arcs places (vec_items starts)
order (Arc t p i o) = arc t p i o
order NetThreads = net_threads
order (Thread n s) = thread n s
order (Move t k i o) = move t k i o
order SealNet = seal_net
order (Conditions n) = conditions n
order (Row c body) = row c (vec_items body)
order SealConditions = seal_conditions
order (AskNet q) = ask_net q
order (Rehearse cues) = rehearse (vec_items cues)
order Records = records
order Help = help
order Quit = quit

-- a command is read as the language says, but for want of memory
abbrev pub ReadAs : Read Order → Result Command Problem → Type 0
ReadAs o r = ReadBy order o r

abbrev pub read_arcs : List Word → Read Order
read_arcs ws = do
  k ← parts.read_arcs ws
  Ok (net_arcs k.0 k.1)

abbrev pub make : Word → Read Make
make w =
    cond (same w (codes "arcs")) (Ok Arcs)
    (cond (same w (codes "threads")) (Ok Threads) (Err Unknown))

abbrev pub read_make : Make → List Word → Read Order
read_make Arcs ws = read_arcs ws
read_make Threads ws = alone net_threads ws

abbrev pub read_net : List Word → Read Order
read_net [] = Err Missing
read_net (w ∷ ws) = do
  m ← make w
  read_make m ws

abbrev pub read_arc : List Word → Read Order
read_arc ws = do
  k ← read_pairs ws
  Ok (arc k.0.0 k.0.1 k.1.0 k.1.1)

abbrev pub read_thread : List Word → Read Order
read_thread ws = do
  k ← read_pair ws
  Ok (thread k.0 k.1)

abbrev pub read_move : List Word → Read Order
read_move ws = do
  k ← read_pairs ws
  Ok (move k.0.0 k.0.1 k.1.0 k.1.1)

abbrev pub object : Word → Read Object
object w =
    cond (same w (codes "net")) (Ok TheNet)
    (cond (same w (codes "conditions")) (Ok TheConditions) (Err Unknown))

abbrev pub read_object : Object → List Word → Read Order
read_object TheNet ws = alone seal_net ws
read_object TheConditions ws = alone seal_conditions ws

abbrev pub read_seal : List Word → Read Order
read_seal [] = Err Missing
read_seal (w ∷ ws) = do
  x ← object w
  read_object x ws

abbrev pub read_conditions : List Word → Read Order
read_conditions ws = do
  places ← read_single ws
  Ok (conditions places)

abbrev pub read_row : List Word → Read Order
read_row ws = do
  c ← first_number ws
  body ← row_body (tail ws)
  Ok (row c body)

abbrev pub read_question : List Word → Read Order
read_question ws = do
  q ← questions.read_question ws
  Ok (ask_net q)

abbrev pub read_ask : List Word → Read Order
read_ask ws = named (codes "net") read_question ws

abbrev pub read_rehearse : List Word → Read Order
read_rehearse ws = do
  cues ← all_numbers ws
  Ok (rehearse cues)

-- one word, which names a file
abbrev pub read_records : List Word → Read Order
read_records [] = Err Missing
read_records (w ∷ ws) = alone records ws

abbrev pub verb : Word → Read Verb
verb w =
    cond (same w (codes "net")) (Ok ToNet)
    (cond (same w (codes "arc")) (Ok ToArc)
    (cond (same w (codes "thread")) (Ok ToThread)
    (cond (same w (codes "move")) (Ok ToMove)
    (cond (same w (codes "seal")) (Ok ToSeal)
    (cond (same w (codes "conditions")) (Ok ToConditions)
    (cond (same w (codes "row")) (Ok ToRow)
    (cond (same w (codes "ask")) (Ok ToAsk)
    (cond (same w (codes "rehearse")) (Ok ToRehearse)
    (cond (same w (codes "records")) (Ok ToRecords)
    (cond (same w (codes "help")) (Ok ToHelp)
    (cond (same w (codes "quit")) (Ok ToQuit) (Err Unknown))))))))))))

abbrev pub read_verb : Verb → List Word → Read Order
read_verb ToNet ws = read_net ws
read_verb ToArc ws = read_arc ws
read_verb ToThread ws = read_thread ws
read_verb ToMove ws = read_move ws
read_verb ToSeal ws = read_seal ws
read_verb ToConditions ws = read_conditions ws
read_verb ToRow ws = read_row ws
read_verb ToAsk ws = read_ask ws
read_verb ToRehearse ws = read_rehearse ws
read_verb ToRecords ws = read_records ws
read_verb ToHelp ws = alone help ws
read_verb ToQuit ws = alone quit ws

abbrev pub read : List Word → Read Order
read [] = Err Missing
read (w ∷ ws) = do
  v ← verb w
  read_verb v ws

-- a command that reads a file names it next
abbrev pub names_file : Word → Bool
names_file w = same w (codes "records")

abbrev pub file_named : List Word → Option Word
file_named [] = None
file_named (w ∷ ws) = cond (names_file w) (head ws) None
