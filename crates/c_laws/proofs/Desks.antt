-- A desk over the calls for C and Rust is a desk of pane_laws, so what is on air in memory is that of the plain walk. Assumes nothing.
use mathlib.Core.Bool.{Bool, true, false}
use mathlib.Core.List.{List, [], ◌∷◌, ◌++◌, map}
use mathlib.Core.Logic.{◌⊎◌, inl, inr, ⊎_elim}
use mathlib.Core.Path.{◌≡◌, refl, sym, ap, ◌∙◌, subst}
use Prim.Native.Nat.{ℕ, ◌-◌, ◌≤◌, ◌<◌}
use native.Mathlib.Omega.{arith}
use lib.Ieee.{Float}
use borrow.Author.Tests.{leb-true}
use Rattle.base.specs.Refusals.{number_of}
use Rattle.base.specs.declared.Refusal.{Refusal}
use Rattle.std.specs.Prelude.{Result, Ok, Err}
use Rattle.base.specs.Choice.{if◌then◌otherwise◌, ◌<?◌, ◌≤?◌}
use Rattle.base.proofs.Bools as bools
use Rattle.state.specs.State.{finite_vector}
use Rattle.state.specs.declared.State.{State}
use Rattle.state.specs.declared.Setting.{Setting}
use Rattle.state.specs.declared.Vector.{Vector}
use Rattle.run.specs.Step.{step}
use Rattle.run.specs.Walk.{walk}
use Rattle.run.specs.Run.{run_answer}
use Rattle.run.specs.declared.RunAnswer.{RunAnswer}
use Rattle.run_laws.specs.Journey.{Call}
use Rattle.run_laws.specs.Journey as journeys
use Rattle.centre.specs.Move.{move_answer}
use Rattle.centre_laws.specs.Legs.{Move, Leg, walk_with_moves, MayFly, Flown, LegHolds}
use Rattle.centre_laws.specs.Legs as legs
use Rattle.centre_laws.proofs.Moved.{move_keeps}
use Rattle.centre_laws.proofs.Legs.{stand_walked, legs_hold}
use Rattle.pane_live.specs.Pane.{take, feed, clear, after, figure, frame_at}
use Rattle.pane_live.specs.declared.Pane.{Pane}
use Rattle.pane_live.specs.declared.Pane.TheVariants.{Blank, One, Two}
use Rattle.pane_live.specs.declared.TakeAnswer.{TakeAnswer}
use Rattle.pane_live.specs.declared.TakeAnswer.TheVariants as taken
use Rattle.pane_live.specs.declared.FrameAnswer.{FrameAnswer}
use Rattle.pane_live.specs.declared.FrameAnswer.TheVariants as frame
use Rattle.pane_laws.specs.Desk.{InHand, Desk}
use Rattle.pane_laws.specs.Desk as desk
use Rattle.pane_laws.specs.OnAir.{OnAir, OffAir, OnAirMoving, OffAirMoving}
use Rattle.pane_laws.specs.OnAir as air
use Rattle.pane_laws.specs.Night.{Night}
use Rattle.pane_laws.proofs.Shown.{on_air, off_air, on_air_moving, off_air_moving}
use Rattle.pane_motion.specs.Motion.{motion_at}
use Rattle.pane_motion.specs.declared.Motion.{Motion}
use Rattle.pane_motion.proofs.Same.{same_frame}
use Rattle.belfry_book.proofs.Told.{returned_0}
use Rattle.c_answer.specs.Handed.{handed, answered}
use Rattle.c_run.specs.Lent.{state_of, guesses_of, whole_in}
use Rattle.c_run.specs.Answers.{outcome_number, of_move}
use Rattle.c_pane.specs.Lent.{Kept, pane_of, fed_with, left}
use Rattle.belfry_pane.specs.Answers.{late, empty, of_frame, of_motion}
use Rattle.c_laws.specs.Table.{in_table}
use Rattle.c_laws.specs.Linked.{LinkedCall, as_call}
use Rattle.c_laws.specs.Desks.{Held, state_in, HeldIn, flown, moved_to, fed_by, frame_in, motion_in, LinkedLeg, as_leg, setting_in, flight, move}
use Rattle.c_laws.specs.Desks.{LinkedDesk, begins, runs, tries, offers, clears, renews, moves, OnAirIn, OffAirIn, empty_in, late_in}
use Rattle.c_laws.specs.Desks.{OnAirMovingIn, OffAirMovingIn, empty_moving_in, late_moving_in, NightIn}
use Rattle.c_laws.specs.Desks.{flights_from, LinkedFlown, no_leg, leg}
use Rattle.c_laws.proofs.Numbers.{number_told, move_told}
use Rattle.c_laws.proofs.Journeys.{state_reads_back}
use Rattle.c_laws.proofs.Panes.{pane_reads_back, fed_as_answered}

-- ---- what a call wrote, read again

-- the memory after a call reads as the pane after it, for any earlier contents of the memory
left_reads : (kept : Kept) (answer : TakeAnswer Refusal)
    → pane_of (left kept answer).memory.numbers (left kept answer).memory.places ≡ after (pane_of kept.numbers kept.places) answer
left_reads kept (taken.Taken next) = pane_reads_back next
left_reads kept taken.Unchanged = refl
left_reads kept (taken.Refused k) = refl

-- a frame is refused only with 7
by_seven : (pane : Pane) (t : ℕ) (k : Refusal) → frame_at pane t ≡ frame.Refused k → k ≡ Refusal.NotFinite
unfolding frame_at
by_seven Blank t k e = let z : ◌≡◌ {A = ℕ} 0 1 = cc in absurd (omega arith)
by_seven (One a) t k e = let z : ◌≡◌ {A = ℕ} 0 1 = cc in absurd (omega arith)
by_seven (Two a b) t k e = go (b.moment <? t) (t <? a.moment) (finite_vector (figure a b t)) e
  where
    go : (late early fin : Bool)
        → (if late then frame.Late (t - b.moment) otherwise if early then frame.Empty otherwise if fin then frame.Current (figure a b t) otherwise frame.Refused Refusal.NotFinite) ≡ frame.Refused k → k ≡ Refusal.NotFinite
    go true early fin e = let z : ◌≡◌ {A = ℕ} 0 1 = cc in absurd (omega arith)
    go false true fin e = let z : ◌≡◌ {A = ℕ} 0 1 = cc in absurd (omega arith)
    go false false true e = let z : ◌≡◌ {A = ℕ} 0 1 = cc in absurd (omega arith)
    go false false false e = cc

moving_by_seven : (pane : Pane) (t : ℕ) (k : Refusal) → motion_at pane t ≡ frame.Refused k → k ≡ Refusal.NotFinite
moving_by_seven pane t k e = ⊎_elim (by_seven pane t k) (λ alone. alone.0) (((same_frame pane t).refused k).0 e)

in_hand : (s : Held) (hand : List Held) → HeldIn s hand → InHand (state_in s) (map state_in hand)
in_hand s [] i = i
in_hand s (first ∷ rest) (inl same) = inl (ap state_in same)
in_hand s (first ∷ rest) (inr later) = inr (in_hand s rest later)

module _ (m extras : List Float) (dut rule : ℕ) where
  abbrev setting : Setting
  setting = setting_in m extras dut rule

  abbrev answer_of : List ℕ → ℕ → ℕ → Held → LinkedCall → RunAnswer Refusal
  answer_of b h target s call = run_answer b setting (state_in s) h target call.budget (guesses_of call.guesses)

  flight_reads : (b : List ℕ) (h target : ℕ) (s : Held) (call : LinkedCall)
      → state_in (flown s (flight m extras dut rule b h target s call)) ≡ (answer_of b h target s call).state
  flight_reads b h target s call = state_reads_back b setting (state_in s) h target call.budget (guesses_of call.guesses)

  fed_reads : (b : List ℕ) (h target : ℕ) (s : Held) (call : LinkedCall) (kept : Kept)
      → (let now = fed_by kept s (flight m extras dut rule b h target s call) in pane_of now.numbers now.places)
      ≡ after (pane_of kept.numbers kept.places) (feed (pane_of kept.numbers kept.places) (answer_of b h target s call))
  fed_reads b h target s call kept =
      let pane = pane_of kept.numbers kept.places in
      let r = answer_of b h target s call in
      left_reads kept (fed_with pane (outcome_number r.outcome) (state_in (flown s (flight m extras dut rule b h target s call))))
      ∙ ap (λ (x : State). after pane (fed_with pane (outcome_number r.outcome) x)) (flight_reads b h target s call)
      ∙ ap (after pane) (fed_as_answered pane r)

  -- a move that returned 0 was accepted, and what it wrote reads as the moved state
  pub record Moves (b : List ℕ) (s : Held) (centre : ℕ) (before : List Float) : Type 0 where
    pub next : State
    pub accepted : move_answer b setting (state_in s) centre ≡ Ok next
    pub reads : state_in (moved_to s centre (move m extras dut rule b s centre before)) ≡ next

  pub move_reads : (b : List ℕ) (s : Held) (centre : ℕ) (before : List Float) → (move m extras dut rule b s centre before).returned ≡ 0 → Moves b s centre before
  move_reads b s centre before zero = go (move_answer b setting (state_in s) centre) refl (move_told b setting (state_in s) centre) zero
    where
      go : (answer : Result State Refusal) → move_answer b setting (state_in s) centre ≡ answer → in_table (of_move (move_answer b setting (state_in s) centre)) ≡ true
          → (answered before (of_move (move_answer b setting (state_in s) centre))).returned ≡ 0 → Moves b s centre before
      go (Ok next) e tabled none =
          let keeps = move_keeps b setting (state_in s) centre next e in
          record {
            next = next;
            accepted = e;
            reads =
                ap (λ (a : Result State Refusal). state_in (moved_to s centre (answered before (of_move a)))) e
                ∙ ap (λ (t : ℕ). state_of t centre (whole_in next)) (sym keeps.0)
                ∙ ap (λ (c : ℕ). state_of next.moment c (whole_in next)) (sym keeps.1);
          }
      go (Err k) e is none =
          let number : number_of k ≡ 0 = sym (ap (λ (a : Result State Refusal). (answered before (of_move a)).returned) e) ∙ none in
          let least : 1 ≤ number_of k = leb-true 1 (number_of k) (bools.left (1 ≤? number_of k) (number_of k ≤? 18) (number_told k)) in
          absurd (omega arith)

  -- ---- the desk

  module _ (h : ℕ) (injection : Held) where
    pub as_desk : (b : List ℕ) (made : List Move) (hand : List Held) (kept : Kept) → LinkedDesk m extras dut rule h injection b made hand kept
        → Desk setting h (state_in injection) b made (map state_in hand) (pane_of kept.numbers kept.places)
    as_desk b made hand kept (begins b' kept' reads) =
        subst (Desk setting h (state_in injection) b [] (state_in injection ∷ [])) (sym reads) (desk.begins b)
    as_desk b made hand kept (runs b' made' hand' kept' s target call d i) =
        subst
        (λ (x : State). Desk setting h (state_in injection) b made (x ∷ map state_in hand') (pane_of kept.numbers kept.places))
        (sym (flight_reads b h target s call))
        (subst (Desk setting h (state_in injection) b made ((answer_of b h target s call).state ∷ map state_in hand'))
        (sym (fed_reads b h target s call kept'))
        (desk.runs b made (map state_in hand') (pane_of kept'.numbers kept'.places) (state_in s) target call.budget (guesses_of call.guesses)
        (as_desk b made hand' kept' d) (in_hand s hand' i)))
    as_desk b made hand kept (tries b' made' hand' kept' s target call d i) =
        subst
        (λ (x : State). Desk setting h (state_in injection) b made (x ∷ map state_in hand') (pane_of kept.numbers kept.places))
        (sym (flight_reads b h target s call))
        (desk.tries b made (map state_in hand') (pane_of kept.numbers kept.places) (state_in s) target call.budget (guesses_of call.guesses)
        (as_desk b made hand' kept d) (in_hand s hand' i))
    as_desk b made hand kept (offers b' made' hand' kept' s d i) =
        subst (Desk setting h (state_in injection) b made (map state_in hand))
        (sym (left_reads kept' (take (pane_of kept'.numbers kept'.places) (state_in s))))
        (desk.offers b made (map state_in hand) (pane_of kept'.numbers kept'.places) (state_in s) (as_desk b made hand kept' d) (in_hand s hand i))
    as_desk b made hand kept (clears b' made' hand' kept' d) =
        desk.clears b made (map state_in hand) (pane_of kept'.numbers kept'.places) (as_desk b made hand kept' d)
    as_desk b made hand kept (renews a b' made' hand' kept' before d zero) =
        let fuller = returned_0 before a b zero in
        desk.renews a b made (map state_in hand) (pane_of kept.numbers kept.places) (as_desk a made hand kept d) fuller.all_held fuller.pass.second
    as_desk b made hand kept (moves b' made' hand' kept' s centre before d i zero) =
        let moved = move_reads b s centre before zero in
        subst
        (λ (x : State). Desk setting h (state_in injection) b (made' ++ (record { at = s.moment; centre = centre } ∷ [])) (x ∷ []) clear)
        (sym moved.reads)
        (desk.moves b made' (map state_in hand') (pane_of kept'.numbers kept'.places) (state_in s) moved.next centre (as_desk b made' hand' kept' d)
        (in_hand s hand' i) moved.accepted)

    module _ (b : List ℕ) (made : List Move) (hand : List Held) (kept : Kept) (d : LinkedDesk m extras dut rule h injection b made hand kept) (t : ℕ) where
      -- a frame that returned 0 shows a position
      pub on_air_in_memory : (frame_in kept t).returned ≡ 0 → OnAirIn m extras dut rule b h injection made t (frame_in kept t)
      on_air_in_memory zero = go (frame_at (pane_of kept.numbers kept.places) t) refl zero
        where
          go : (answer : FrameAnswer Vector Refusal) → frame_at (pane_of kept.numbers kept.places) t ≡ answer → (of_frame (frame_at (pane_of kept.numbers kept.places) t)).returned ≡ 0
              → OnAirIn m extras dut rule b h injection made t (frame_in kept t)
          go (frame.Current p) e none =
              record {
                p = p;
                written = ap (λ (a : FrameAnswer Vector Refusal). (of_frame a).position) e;
                shown =
                    on_air setting h (state_in injection) b made (map state_in hand) (pane_of kept.numbers kept.places) (as_desk b made hand kept d) t p e;
              }
          go (frame.Late ms) e none =
              let clash : ◌≡◌ {A = ℕ} 102 0 = sym (ap (λ (a : FrameAnswer Vector Refusal). (of_frame a).returned) e) ∙ none in
              absurd (omega arith)
          go frame.Empty e none =
              let clash : ◌≡◌ {A = ℕ} 103 0 = sym (ap (λ (a : FrameAnswer Vector Refusal). (of_frame a).returned) e) ∙ none in
              absurd (omega arith)
          go (frame.Refused k) e none =
              let number : number_of k ≡ 0 = sym (ap (λ (a : FrameAnswer Vector Refusal). (of_frame a).returned) e) ∙ none in
              let seven : number_of k ≡ 7 = ap number_of (by_seven (pane_of kept.numbers kept.places) t k e) in
              absurd (omega arith)

      -- past the last state, while the step after it cannot be taken under the book in use
      pub off_air_in_memory : (start last : State) (n : ℕ) (k : Refusal) → walk_with_moves b setting h made (state_in injection) ≡ Ok start
          → walk (step b setting h) n start ≡ Ok last → step b setting h last ≡ Err k → last.moment < t
          → OffAirIn m extras dut rule b h start last t (frame_in kept t)
      off_air_in_memory start last n k moved walked off past =
          go (frame_at (pane_of kept.numbers kept.places) t)
          (off_air setting h (state_in injection) b made (map state_in hand) (pane_of kept.numbers kept.places) (as_desk b made hand kept d) start last n k t moved walked off past)
        where
          go : (answer : FrameAnswer Vector Refusal) → OffAir b setting h start last t answer → OffAirIn m extras dut rule b h start last t (of_frame answer)
          go answer air.empty = empty_in
          go answer (air.late n s walked within gone) = late_in n s walked within gone

      -- the same for a frame with velocity
      pub on_air_moving_in_memory : (motion_in kept t).returned ≡ 0 → OnAirMovingIn m extras dut rule b h injection made t (motion_in kept t)
      on_air_moving_in_memory zero = go (motion_at (pane_of kept.numbers kept.places) t) refl zero
        where
          go : (answer : FrameAnswer Motion Refusal) → motion_at (pane_of kept.numbers kept.places) t ≡ answer → (of_motion (motion_at (pane_of kept.numbers kept.places) t)).returned ≡ 0
              → OnAirMovingIn m extras dut rule b h injection made t (motion_in kept t)
          go (frame.Current x) e none =
              record {
                motion = x;
                written = ap (λ (a : FrameAnswer Motion Refusal). (of_motion a).motion) e;
                shown =
                    on_air_moving setting h (state_in injection) b made (map state_in hand) (pane_of kept.numbers kept.places) (as_desk b made hand kept d) t x e;
              }
          go (frame.Late ms) e none =
              let clash : ◌≡◌ {A = ℕ} 102 0 = sym (ap (λ (a : FrameAnswer Motion Refusal). (of_motion a).returned) e) ∙ none in
              absurd (omega arith)
          go frame.Empty e none =
              let clash : ◌≡◌ {A = ℕ} 103 0 = sym (ap (λ (a : FrameAnswer Motion Refusal). (of_motion a).returned) e) ∙ none in
              absurd (omega arith)
          go (frame.Refused k) e none =
              let number : number_of k ≡ 0 = sym (ap (λ (a : FrameAnswer Motion Refusal). (of_motion a).returned) e) ∙ none in
              let seven : number_of k ≡ 7 = ap number_of (moving_by_seven (pane_of kept.numbers kept.places) t k e) in
              absurd (omega arith)

      pub off_air_moving_in_memory : (start last : State) (n : ℕ) (k : Refusal) → walk_with_moves b setting h made (state_in injection) ≡ Ok start
          → walk (step b setting h) n start ≡ Ok last → step b setting h last ≡ Err k → last.moment < t
          → OffAirMovingIn m extras dut rule b h start last t (motion_in kept t)
      off_air_moving_in_memory start last n k moved walked off past =
          go (motion_at (pane_of kept.numbers kept.places) t)
          (off_air_moving setting h (state_in injection) b made (map state_in hand) (pane_of kept.numbers kept.places) (as_desk b made hand kept d) start last n k t moved walked off past)
        where
          go : (answer : FrameAnswer Motion Refusal) → OffAirMoving b setting h start last t answer → OffAirMovingIn m extras dut rule b h start last t (of_motion answer)
          go answer air.empty_moving = empty_moving_in
          go answer (air.late_moving n s walked within gone) = late_moving_in n s walked within gone

  pub the_night_in_memory : (h : ℕ) (injection : Held) (b c : List ℕ) (made : List Move) (start last : State) (n : ℕ) (k : Refusal)
      → Night setting h (state_in injection) b c made start last n k → NightIn m extras dut rule h injection b c made start last
  the_night_in_memory h injection b c made start last n k night =
      record {
        silent = λ hand kept t d past.
            off_air_in_memory h injection b made hand kept d t start last n k
            (stand_walked b setting h (state_in injection) start made night.moves) night.walked night.off past;
        shows = λ hand kept t d shown. on_air_in_memory h injection c made hand kept d t shown;
        silent_moving = λ hand kept t d past.
            off_air_moving_in_memory h injection b made hand kept d t start last n k
            (stand_walked b setting h (state_in injection) start made night.moves) night.walked night.off past;
        shows_moving = λ hand kept t d shown. on_air_moving_in_memory h injection c made hand kept d t shown;
      }

  -- a move that is refused returns its number, and leaves the memory unchanged
  pub refused_move_unwritten : (b : List ℕ) (s : Held) (centre : ℕ) (before : List Float) (k : Refusal) → move_answer b setting (state_in s) centre ≡ Err k
      → move m extras dut rule b s centre before ≡ handed (number_of k) before
  refused_move_unwritten b s centre before k e = ap (λ (a : Result State Refusal). answered before (of_move a)) e

  -- ---- legs

  flights_read : (b : List ℕ) (h target : ℕ) (s : Held) (calls : List LinkedCall)
      → state_in (flights_from m extras dut rule b h target s calls) ≡ journeys.after b setting h target (state_in s) (map as_call calls)
  flights_read b h target s [] = refl
  flights_read b h target s (call ∷ calls) =
      flights_read b h target (flown s (flight m extras dut rule b h target s call)) calls
      ∙ ap (λ (x : State). journeys.after b setting h target x (map as_call calls)) (flight_reads b h target s call)

  -- legs through `belfry_fly` and `belfry_move` are legs of demand 3
  pub are_legs : (b : List ℕ) (h : ℕ) (s last : Held) (flew : List LinkedLeg) → LinkedFlown m extras dut rule b h s flew last
      → Flown b setting h (state_in s) (map as_leg flew) (state_in last)
  are_legs b h s last flew (no_leg s') = legs.no_leg (state_in s)
  are_legs b h s last flew (leg s' last' l rest before may at zero later) =
      let there = flights_from m extras dut rule b h l.target s l.calls in
      let read = flights_read b h l.target s l.calls in
      let moved = move_reads b there l.centre before zero in
      legs.leg (state_in s) moved.next (state_in last) (as_leg l) (map as_leg rest) may
      (ap (λ (x : State). x.moment) (sym read) ∙ at)
      (ap (λ (x : State). move_answer b setting x l.centre) (sym read) ∙ moved.accepted)
      (subst (λ (x : State). Flown b setting h x (map as_leg rest) (state_in last)) moved.reads
      (are_legs b h (moved_to there l.centre (move m extras dut rule b there l.centre before)) last rest later))

  -- so demand 3 with moves holds of them: the flights of a leg after any legs before it
  pub linked_legs_hold : (b : List ℕ) (h : ℕ) (injection start : Held) (before : List LinkedLeg) (target : ℕ) (calls : List LinkedCall)
      → LinkedFlown m extras dut rule b h injection before start → MayFly b setting h (state_in start) target (map as_call calls)
      → LegHolds b setting h (state_in injection) (map as_leg before) target (map as_call calls)
  linked_legs_hold b h injection start before target calls flew may =
      legs_hold b setting h (state_in injection) (state_in start) (map as_leg before) target (map as_call calls) (are_legs b h injection start before flew) may
