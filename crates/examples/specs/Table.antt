-- Small nets and numbers, and what the rules make of them.
use Rattle.std.specs.Prelude.{◌≡◌, ℕ, true, false, List, [], ◌∷◌, replicate, pos, negsuc, Ok, Err}
use Rattle.rules.specs.Outcome.{Outcome, ◌>>=◌, answered, left}
use Rattle.rules.specs.Refusals.{told, tells}
use Rattle.rules.specs.declared.refusal.Told.{Told}
use Rattle.rules.specs.declared.refusal.Refusal.TheVariants.{PlaceCount, StartLength, StartTokens, CueRange, PlaceRange, TakenRange, GivenRange, EmptyArc, NoSuchCue, ArcsFull, ArcOrder, CueShort, PlaceFull, NoArcs, StateCount, StartState, NoSuchThread, NoSuchState, ThreadsFull, MovesFull, ThreadAfterMove, MoveOrder, NoMoves}
use Rattle.net.specs.Net.{Meaning}
use Rattle.net.specs.Firing.{fire, of_list, rehearse}
use Rattle.scale.specs.Makes.{reduced}
use Rattle.whole.specs.Divisors.{divisor, row_divisor}
use Rattle.whole.specs.Limits.{within}
use Rattle.whole.specs.Rounding.{risen, rounded_up}
use Rattle.arcs.specs.Arcs.{Drafted, add_arc, arc, begin_arcs, seal_arcs}
use Rattle.threads.specs.Threads as threads
use Rattle.threads.specs.Threads.{add_move, add_thread, begin_threads, book_net, move, seal_threads, thread}
use Rattle.examples.specs.Nets.{A, draft_A, one_place}
use Rattle.examples.specs.Evidence.{EvidenceTable}
use Rattle.examples.specs.Files.{Files}

abbrev pub drafted : ℕ → List ℕ → Drafted
drafted places starts = record { places = places; start = of_list starts; arcs = [] }

-- what is left on place p where t fires at the start of n
abbrev pub left_on : Meaning → ℕ → ℕ → ℕ
left_on n t p = left n.start (fire n t n.start) p

abbrev pub why_not : Meaning → ℕ → Outcome Unit
why_not n t = answered (fire n t n.start)

-- threads of 2 and 3 states; cue 0 moves the first on and needs the second where it is, cue 2 moves the second on
abbrev pub draft_book : threads.Drafted
draft_book = record { threads = thread 2 0 ∷ thread 3 1 ∷ []; moves = move 0 0 0 1 ∷ move 0 1 1 1 ∷ move 2 1 1 2 ∷ [] }

abbrev pub book : Meaning
book = book_net draft_book

abbrev pub on_two_threads : threads.Drafted
on_two_threads = record { threads = draft_book.threads; moves = [] }

abbrev pub twelve : threads.Drafted
twelve = record { threads = replicate 12 (thread 8 7); moves = [] }

pub record Table : Type 0 where
  -- the net of three places
  pub drafts : (begin_arcs 3 (1 ∷ 0 ∷ 0 ∷ []) >>= λ d. add_arc d (arc 0 0 1 0) >>= λ d. add_arc d (arc 0 1 0 1) >>= λ d. add_arc d (arc 0 2 1 1)) ≡ Ok draft_A
  pub short : fire A 0 A.start ≡ Err (CueShort 2)
  pub short_told : told (CueShort 2) ≡ tells 35 0 0 2
  pub questions : ◌≡◌ {A = List ℕ} (A.places ∷ A.cues ∷ A.taken 0 0 ∷ A.given 0 0 ∷ A.taken 2 0 ∷ A.given 2 0 ∷ A.given 1 0 ∷ A.start 0 ∷ []) (3 ∷ 1 ∷ 1 ∷ 0 ∷ 1 ∷ 1 ∷ 1 ∷ 1 ∷ [])
  pub nowhere : ◌≡◌ {A = List ℕ} (A.taken 3 0 ∷ A.taken 0 1 ∷ A.given 3 0 ∷ A.given 1 1 ∷ A.start 3 ∷ []) (0 ∷ 0 ∷ 0 ∷ 0 ∷ 0 ∷ [])
  pub lowest_short : fire A 0 (of_list (0 ∷ 9 ∷ 0 ∷ [])) ≡ Err (CueShort 0)
  pub moved : ◌≡◌ {A = List ℕ} (left A.start (fire A 0 (of_list (1 ∷ 0 ∷ 1 ∷ []))) 0 ∷ left A.start (fire A 0 (of_list (1 ∷ 0 ∷ 1 ∷ []))) 1 ∷ left A.start (fire A 0 (of_list (1 ∷ 0 ∷ 1 ∷ []))) 2 ∷ []) (0 ∷ 1 ∷ 1 ∷ [])
  -- at the limit of tokens
  pub fills : ◌≡◌ {A = ℕ} (left_on (one_place 65534) 0 0) 65535
  pub overfills : why_not (one_place 65535) 0 ≡ Err (PlaceFull 0)
  pub full_told : told (PlaceFull 7) ≡ tells 36 0 0 7
  pub takes_and_gives : why_not (one_place 65535) 2 ≡ Ok tt
  pub takes_first : why_not (one_place 1) 3 ≡ Err (CueShort 0)
  pub gives_more : ◌≡◌ {A = ℕ} (left_on (one_place 2) 3 0) 3
  pub no_arcs_fires : why_not (one_place 0) 1 ≡ Ok tt
  pub no_cue : why_not (one_place 0) 4 ≡ Err (NoSuchCue 4)
  pub cue_range_told : told (NoSuchCue 4) ≡ tells 20 0 0 0
  pub sequence : answered (rehearse (one_place 0) (one_place 0).start (0 ∷ 0 ∷ 3 ∷ 1 ∷ 2 ∷ [])) ≡ Ok tt
  pub sequence_stops : answered (rehearse (one_place 0) (one_place 0).start (0 ∷ 3 ∷ 4 ∷ [])) ≡ Err (CueShort 0)
  -- beginning
  pub no_place : answered (begin_arcs 0 []) ≡ Err (PlaceCount 0)
  pub places_before_starts : answered (begin_arcs 97 []) ≡ Err (PlaceCount 97)
  pub starts_missing : answered (begin_arcs 2 (1 ∷ [])) ≡ Err (StartLength 1 2)
  pub starts_surplus : answered (begin_arcs 1 (1 ∷ 70000 ∷ [])) ≡ Err (StartLength 2 1)
  pub start_too_high : answered (begin_arcs 2 (65535 ∷ 65536 ∷ [])) ≡ Err (StartTokens 1 65536)
  -- arcs: 20 for each number in turn, then order
  pub bad_cue : answered (add_arc draft_A (arc 256 3 256 256)) ≡ Err (CueRange 256)
  pub bad_place : answered (add_arc draft_A (arc 255 3 256 256)) ≡ Err (PlaceRange 3)
  pub bad_taken : answered (add_arc draft_A (arc 255 2 256 256)) ≡ Err (TakenRange 256)
  pub bad_given : answered (add_arc draft_A (arc 255 2 255 256)) ≡ Err (GivenRange 256)
  pub empty_arc : answered (add_arc draft_A (arc 0 0 0 0)) ≡ Err EmptyArc
  pub same_again : answered (add_arc draft_A (arc 0 2 1 1)) ≡ Err ArcOrder
  pub place_before : answered (add_arc draft_A (arc 0 1 1 1)) ≡ Err ArcOrder
  pub next_cue : answered (add_arc draft_A (arc 1 0 255 255)) ≡ Ok tt
  pub order_told : told ArcOrder ≡ tells 34 0 0 0
  pub full_draft_told : told ArcsFull ≡ tells 33 0 0 0
  pub unsealed : answered (seal_arcs (drafted 1 (0 ∷ []))) ≡ Err NoArcs
  pub unsealed_told : told NoArcs ≡ tells 39 0 0 0
  pub sealed : answered (seal_arcs draft_A) ≡ Ok tt
  -- thread books
  pub book_drafts : (add_thread begin_threads (thread 2 0) >>= λ d. add_thread d (thread 3 1) >>= λ d. add_move d (move 0 0 0 1) >>= λ d. add_move d (move 0 1 1 1) >>= λ d. add_move d (move 2 1 1 2)) ≡ Ok draft_book
  pub book_places : ◌≡◌ {A = List ℕ} (book.places ∷ book.cues ∷ book.start 0 ∷ book.start 1 ∷ book.start 2 ∷ book.start 3 ∷ book.start 4 ∷ book.start 5 ∷ []) (5 ∷ 3 ∷ 1 ∷ 0 ∷ 0 ∷ 1 ∷ 0 ∷ 0 ∷ [])
  pub book_moves : ◌≡◌ {A = List ℕ} (book.taken 0 0 ∷ book.given 0 0 ∷ book.taken 1 0 ∷ book.given 1 0 ∷ book.taken 3 2 ∷ book.given 4 2 ∷ []) (1 ∷ 0 ∷ 0 ∷ 1 ∷ 1 ∷ 1 ∷ [])
  pub takes_and_gives_back : ◌≡◌ {A = List ℕ} (book.taken 3 0 ∷ book.given 3 0 ∷ []) (1 ∷ 1 ∷ [])
  pub book_nowhere : ◌≡◌ {A = List ℕ} (book.taken 2 0 ∷ book.taken 3 1 ∷ book.given 3 1 ∷ book.taken 5 0 ∷ book.given 5 0 ∷ book.taken 0 3 ∷ []) (0 ∷ 0 ∷ 0 ∷ 0 ∷ 0 ∷ 0 ∷ [])
  pub book_waits : answered (rehearse book book.start (2 ∷ 0 ∷ [])) ≡ Err (CueShort 3)
  pub book_goes_on : answered (rehearse book book.start (0 ∷ 1 ∷ 2 ∷ [])) ≡ Ok tt
  pub one_state : answered (add_thread begin_threads (thread 1 1)) ≡ Err (StateCount 1)
  pub nine_states : answered (add_thread draft_book (thread 9 0)) ≡ Err (StateCount 9)
  pub no_start_state : answered (add_thread draft_book (thread 2 2)) ≡ Err (StartState 2 2)
  pub thread_late : answered (add_thread (record { threads = twelve.threads; moves = move 0 0 0 0 ∷ [] }) (thread 2 0)) ≡ Err ThreadAfterMove
  pub thread_13 : answered (add_thread twelve (thread 2 0)) ≡ Err ThreadsFull
  pub move_cue : answered (add_move on_two_threads (move 256 2 2 2)) ≡ Err (CueRange 256)
  pub move_thread : answered (add_move on_two_threads (move 255 2 2 2)) ≡ Err (NoSuchThread 2)
  pub move_from : answered (add_move on_two_threads (move 255 0 2 3)) ≡ Err (NoSuchState 2)
  pub move_to : answered (add_move on_two_threads (move 255 1 2 3)) ≡ Err (NoSuchState 3)
  pub move_again : answered (add_move draft_book (move 2 1 1 2)) ≡ Err MoveOrder
  pub move_earlier : answered (add_move draft_book (move 2 0 1 0)) ≡ Err MoveOrder
  pub move_next : answered (add_move draft_book (move 3 0 1 0)) ≡ Ok tt
  pub no_moves : answered (seal_threads on_two_threads) ≡ Err NoMoves
  pub book_sealed : answered (seal_threads draft_book) ≡ Ok tt
  pub book_refusals : ◌≡◌ {A = List Told} (told (StateCount 9) ∷ told (StartState 2 2) ∷ told (NoSuchThread 2) ∷ told (NoSuchState 3) ∷ told ThreadsFull ∷ told MovesFull ∷ told ThreadAfterMove ∷ told MoveOrder ∷ told NoMoves ∷ [])
      (tells 20 0 0 0 ∷ tells 20 0 0 0 ∷ tells 20 0 0 0 ∷ tells 20 0 0 0 ∷ tells 33 0 0 0 ∷ tells 33 0 0 0 ∷ tells 34 0 0 0 ∷ tells 34 0 0 0 ∷ tells 39 0 0 0 ∷ [])
  -- whole numbers: rounding toward zero is up only below zero
  pub up_over : rounded_up (pos 3) 2 ≡ pos 2
  pub up_even : rounded_up (pos 4) 2 ≡ pos 2
  pub up_below : rounded_up (negsuc 2) 2 ≡ negsuc 0
  pub up_below_even : rounded_up (negsuc 3) 2 ≡ negsuc 1
  pub risen_above : risen (pos 2) (pos 1) 2 ≡ pos 3
  pub risen_below : risen (negsuc 3) (negsuc 0) 2 ≡ negsuc 2
  pub risen_stays : risen (negsuc 3) (pos 0) 2 ≡ negsuc 3
  pub divides_both : ◌≡◌ {A = ℕ} (divisor 6 4) 2
  pub divides_none : ◌≡◌ {A = ℕ} (divisor 0 7) 7
  pub row : ◌≡◌ {A = ℕ} (row_divisor (pos 6 ∷ negsuc 3 ∷ pos 0 ∷ [])) 2
  pub at_limit : within (pos 1099511627776) ≡ true
  pub past_limit : within (pos 1099511627777) ≡ false
  pub at_limit_below : within (negsuc 1099511627775) ≡ true
  pub past_limit_below : within (negsuc 1099511627776) ≡ false
  pub remainder_below : ◌≡◌ {A = ℕ} (reduced 5 (negsuc 0)) 4
  -- certificate files
  pub files : Files
  -- bodies and evidence
  pub evidence : EvidenceTable
