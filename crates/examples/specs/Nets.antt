-- Small nets.
use Rattle.std.specs.Prelude.{ℕ, [], ◌∷◌}
use Rattle.net.specs.Net.{Meaning}
use Rattle.net.specs.Firing.{of_list}
use Rattle.arcs.specs.Arcs.{Drafted, arc, arc_net}

-- three places, start (1,0,0); cue 0 takes from 0 and 2 and gives to 1 and 2
abbrev pub draft_A : Drafted
draft_A = record { places = 3; start = of_list (1 ∷ 0 ∷ 0 ∷ []); arcs = arc 0 0 1 0 ∷ arc 0 1 0 1 ∷ arc 0 2 1 1 ∷ [] }

abbrev pub A : Meaning
A = arc_net draft_A

-- one place; cue 0 gives it 1, cue 2 takes 1 and gives 1, cue 1 has no arcs, cue 3 takes 2 and gives 3
abbrev pub one_place : ℕ → Meaning
one_place n = arc_net (record { places = 1; start = of_list (n ∷ []); arcs = arc 0 0 0 1 ∷ arc 2 0 1 1 ∷ arc 3 0 2 3 ∷ [] })

-- one place with n tokens; cue 0 takes 1
abbrev pub drained : ℕ → Meaning
drained n = arc_net (record { places = 1; start = of_list (n ∷ []); arcs = arc 0 0 1 0 ∷ [] })
