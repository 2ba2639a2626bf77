-- A desk over the calls for C and Rust: the desk of pane_laws, with states in hand, flights, moves and the pane as numbers in memory. Each
-- event is what the exported call promises about its memory.
use Rattle.std.specs.Prelude.{List, [], ◌∷◌, ◌++◌, map, ◌⊎◌, ◌≡◌, ℕ, ◌-◌, ◌≤◌, ◌<◌, Float, Ok}
use Rattle.state.specs.declared.State.{State}
use Rattle.state.specs.declared.Setting.{Setting}
use Rattle.state.specs.declared.Vector.{Vector}
use Rattle.run.specs.Step.{step}
use Rattle.run.specs.Walk.{walk}
use Rattle.run.specs.Run.{run_answer}
use Rattle.centre.specs.Move.{move_answer}
use Rattle.centre_laws.specs.Legs.{Move, Leg, MayFly}
use Rattle.book_holds.specs.Answer.{holds_answer}
use Rattle.belfry_book.specs.Lent.{of_holds}
use Rattle.pane_live.specs.Pane.{take, feed, clear, frame_at}
use Rattle.pane_live.specs.declared.Pane.TheVariants.{Blank}
use Rattle.c_answer.specs.Handed.{Handed, answered}
use Rattle.c_run.specs.Lent.{setting_of, state_of, guesses_of, vector_in}
use Rattle.c_run.specs.Answers.{RunMemory, of_flight, of_move}
use Rattle.c_pane.specs.Lent.{Kept, pane_of, pane_in, fed_with, left}
use Rattle.belfry_pane.specs.Answers.{late, empty, nothing, FrameMemory, framed, of_frame}
use Rattle.belfry_pane.specs.Answers.{MotionMemory, in_motion, six_in, no_motion, of_motion}
use Rattle.pane_motion.specs.Motion.{motion_at}
use Rattle.pane_motion.specs.declared.Motion.{Motion}
use Rattle.pane_laws.specs.OnAir.{OnAir, OnAirMoving}
use Rattle.c_laws.specs.Linked.{LinkedCall, as_call}

-- a state that the desk has in hand: its moment, its centre and its nine coordinates
pub record Held : Type 0 where
  pub moment : ℕ
  pub centre : ℕ
  pub coordinates : List Float

abbrev pub state_in : Held → State
state_in s = state_of s.moment s.centre s.coordinates

abbrev pub HeldIn : Held → List Held → Type 0
HeldIn s [] = ⊥
HeldIn s (first ∷ rest) = (s ≡ first) ⊎ HeldIn s rest

-- the state that a flight wrote: about the centre given to the call
abbrev pub flown : Held → RunMemory → Held
flown s memory = record { moment = memory.moment; centre = s.centre; coordinates = memory.coordinates }

-- the state that a move wrote: its moment stays with the caller, and the new centre was given
abbrev pub moved_to : Held → ℕ → Handed (List Float) → Held
moved_to s centre memory = record { moment = s.moment; centre = centre; coordinates = memory.memory }

-- the pane that `belfry_feed` leaves, fed with a flight's memory, and that `belfry_take` leaves, with a state in hand
abbrev pub fed_by : Kept → Held → RunMemory → Kept
fed_by kept s memory = (left kept (fed_with (pane_of kept.numbers kept.places) memory.returned (state_in (flown s memory)))).memory

abbrev pub taken_by : Kept → Held → Kept
taken_by kept s = (left kept (take (pane_of kept.numbers kept.places) (state_in s))).memory

-- the result of `belfry_frame` at t
abbrev pub frame_in : Kept → ℕ → FrameMemory
frame_in kept t = of_frame (frame_at (pane_of kept.numbers kept.places) t)

-- the result of `belfry_frame_motion` at t
abbrev pub motion_in : Kept → ℕ → MotionMemory
motion_in kept t = of_motion (motion_at (pane_of kept.numbers kept.places) t)

-- a leg through `belfry_fly` and `belfry_move`
pub record LinkedLeg : Type 0 where
  pub target : ℕ
  pub calls : List LinkedCall
  pub centre : ℕ

abbrev pub as_leg : LinkedLeg → Leg
as_leg l = record { target = l.target; calls = map as_call l.calls; centre = l.centre }

-- under the coefficients m, the extras (J, A, K), DUT and the rule
module _ (m extras : List Float) (dut rule : ℕ) where
  abbrev pub setting_in : Setting
  setting_in = setting_of m extras dut rule

  -- the result of `belfry_fly`, from a state in hand
  abbrev pub flight : List ℕ → ℕ → ℕ → Held → LinkedCall → RunMemory
  flight b h target s call = of_flight (run_answer b setting_in (state_in s) h target call.budget (guesses_of call.guesses))

  -- the result of `belfry_move`, in memory that held `before`
  abbrev pub move : List ℕ → Held → ℕ → List Float → Handed (List Float)
  move b s centre before = answered before (of_move (move_answer b setting_in (state_in s) centre))

  pub data LinkedDesk (h : ℕ) (injection : Held) : List ℕ → List Move → List Held → Kept → Type 0 where
    -- with memory that reads as an empty pane, as zeros do
    begins : (b : List ℕ) (kept : Kept) → pane_of kept.numbers kept.places ≡ Blank → LinkedDesk h injection b [] (injection ∷ []) kept
    -- a flight's memory is fed to the pane, or the flight is kept
    runs : (b : List ℕ) (made : List Move) (hand : List Held) (kept : Kept) (s : Held) (target : ℕ) (call : LinkedCall)
        → LinkedDesk h injection b made hand kept → HeldIn s hand
        → LinkedDesk h injection b made (flown s (flight b h target s call) ∷ hand) (fed_by kept s (flight b h target s call))
    tries : (b : List ℕ) (made : List Move) (hand : List Held) (kept : Kept) (s : Held) (target : ℕ) (call : LinkedCall)
        → LinkedDesk h injection b made hand kept → HeldIn s hand → LinkedDesk h injection b made (flown s (flight b h target s call) ∷ hand) kept
    offers : (b : List ℕ) (made : List Move) (hand : List Held) (kept : Kept) (s : Held) → LinkedDesk h injection b made hand kept → HeldIn s hand
        → LinkedDesk h injection b made hand (taken_by kept s)
    clears : (b : List ℕ) (made : List Move) (hand : List Held) (kept : Kept) → LinkedDesk h injection b made hand kept
        → LinkedDesk h injection b made hand (pane_in clear)
    -- a book for which `belfry_book_holds` returned 0, for any earlier contents of its memory
    renews : (b c : List ℕ) (made : List Move) (hand : List Held) (kept : Kept) (before : ℕ) → LinkedDesk h injection b made hand kept
        → (of_holds before (holds_answer b c)).returned ≡ 0 → LinkedDesk h injection c made hand kept
    -- a move that returned 0
    moves : (b : List ℕ) (made : List Move) (hand : List Held) (kept : Kept) (s : Held) (centre : ℕ) (before : List Float)
        → LinkedDesk h injection b made hand kept → HeldIn s hand → (move b s centre before).returned ≡ 0
        → LinkedDesk h injection b (made ++ (record { at = s.moment; centre = centre } ∷ [])) (moved_to s centre (move b s centre before) ∷ []) (pane_in clear)

  -- it returned 0: the position that it wrote is on air
  pub record OnAirIn (b : List ℕ) (h : ℕ) (injection : Held) (made : List Move) (t : ℕ) (memory : FrameMemory) : Type 0 where
    pub p : Vector
    pub written : memory.position ≡ vector_in p
    pub shown : OnAir b setting_in h (state_in injection) made t p

  -- it returned 103, or 102 and the milliseconds since a state of the walk from start, no later than `last`. The place of the position has
  -- three NaNs.
  pub data OffAirIn (b : List ℕ) (h : ℕ) (start last : State) (t : ℕ) : FrameMemory → Type 0 where
    empty_in : OffAirIn b h start last t (framed empty nothing 0)
    late_in : (n : ℕ) (s : State) → walk (step b setting_in h) n start ≡ Ok s → s.moment ≤ last.moment → s.moment < t
        → OffAirIn b h start last t (framed late nothing (t - s.moment))

  -- the same for a frame with velocity: six numbers, or six NaNs
  pub record OnAirMovingIn (b : List ℕ) (h : ℕ) (injection : Held) (made : List Move) (t : ℕ) (memory : MotionMemory) : Type 0 where
    pub motion : Motion
    pub written : memory.motion ≡ six_in motion
    pub shown : OnAirMoving b setting_in h (state_in injection) made t motion

  pub data OffAirMovingIn (b : List ℕ) (h : ℕ) (start last : State) (t : ℕ) : MotionMemory → Type 0 where
    empty_moving_in : OffAirMovingIn b h start last t (in_motion empty no_motion 0)
    late_moving_in : (n : ℕ) (s : State) → walk (step b setting_in h) n start ≡ Ok s → s.moment ≤ last.moment → s.moment < t
        → OffAirMovingIn b h start last t (in_motion late no_motion (t - s.moment))

  -- A night on which a record of the book b ends, and the fuller book c, in memory. For all actions of the desk, under b no frame past
  -- `last` returns 0. Under c a frame that returns 0 shows the plain walk under c.
  pub record NightIn (h : ℕ) (injection : Held) (b c : List ℕ) (made : List Move) (start last : State) : Type 0 where
    pub silent : (hand : List Held) (kept : Kept) (t : ℕ) → LinkedDesk h injection b made hand kept → last.moment < t
        → OffAirIn b h start last t (frame_in kept t)
    pub shows : (hand : List Held) (kept : Kept) (t : ℕ) → LinkedDesk h injection c made hand kept → (frame_in kept t).returned ≡ 0
        → OnAirIn c h injection made t (frame_in kept t)
    -- both for `belfry_frame_motion`
    pub silent_moving : (hand : List Held) (kept : Kept) (t : ℕ) → LinkedDesk h injection b made hand kept → last.moment < t
        → OffAirMovingIn b h start last t (motion_in kept t)
    pub shows_moving : (hand : List Held) (kept : Kept) (t : ℕ) → LinkedDesk h injection c made hand kept → (motion_in kept t).returned ≡ 0
        → OnAirMovingIn c h injection made t (motion_in kept t)

  -- ---- legs: demand 3 with moves

  -- the state that flights toward a target reach
  abbrev pub flights_from : List ℕ → ℕ → ℕ → Held → List LinkedCall → Held
  flights_from b h target s [] = s
  flights_from b h target s (call ∷ calls) = flights_from b h target (flown s (flight b h target s call)) calls

  -- the flights of each arrive at its target, and its move returned 0
  pub data LinkedFlown (b : List ℕ) (h : ℕ) : Held → List LinkedLeg → Held → Type 0 where
    no_leg : (s : Held) → LinkedFlown b h s [] s
    leg : (s last : Held) (l : LinkedLeg) (legs : List LinkedLeg) (before : List Float) → MayFly b setting_in h (state_in s) l.target (map as_call l.calls)
        → (flights_from b h l.target s l.calls).moment ≡ l.target
        → (move b (flights_from b h l.target s l.calls) l.centre before).returned ≡ 0
        → LinkedFlown b h (moved_to (flights_from b h l.target s l.calls) l.centre (move b (flights_from b h l.target s l.calls) l.centre before)) legs last
        → LinkedFlown b h s (l ∷ legs) last
