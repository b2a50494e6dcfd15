-- Questions to a net: what each row of words asks.
use Rattle.std.specs.Prelude.{cond, List, [], ◌∷◌, Ok, Err, codes}
use Rattle.rules.specs.Outcome.{◌>>=◌}
use Rattle.text.specs.Names.{same}
use Rattle.text.specs.Reading.{Read}
use Rattle.text.specs.declared.problem.Problem.TheVariants.{Missing, Unknown}
use Rattle.orders.specs.Parts.{Word, alone, read_pair, read_single}
use Rattle.orders.specs.declared.question.Question.{Question}
use Rattle.orders.specs.declared.question.Question.TheVariants.{Taken, Given, Start, Places, Cues}
use Rattle.orders.specs.declared.question.Topic.{Topic}
use Rattle.orders.specs.declared.question.Topic.TheVariants.{Taken as OfTaken, Given as OfGiven, Start as OfStart, Places as OfPlaces, Cues as OfCues}

abbrev pub topic : Word → Read Topic
topic w =
    cond (same w (codes "taken")) (Ok OfTaken)
    (cond (same w (codes "given")) (Ok OfGiven)
    (cond (same w (codes "start")) (Ok OfStart)
    (cond (same w (codes "places")) (Ok OfPlaces)
    (cond (same w (codes "cues")) (Ok OfCues) (Err Unknown)))))

abbrev pub read_taken : List Word → Read Question
read_taken ws = do
  k ← read_pair ws
  Ok (Taken k.0 k.1)

abbrev pub read_given : List Word → Read Question
read_given ws = do
  k ← read_pair ws
  Ok (Given k.0 k.1)

abbrev pub read_start : List Word → Read Question
read_start ws = do
  p ← read_single ws
  Ok (Start p)

abbrev pub read_topic : Topic → List Word → Read Question
read_topic OfTaken ws = read_taken ws
read_topic OfGiven ws = read_given ws
read_topic OfStart ws = read_start ws
read_topic OfPlaces ws = alone Places ws
read_topic OfCues ws = alone Cues ws

abbrev pub read_question : List Word → Read Question
read_question [] = Err Missing
read_question (w ∷ ws) = do
  t ← topic w
  read_topic t ws
