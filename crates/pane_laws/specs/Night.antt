-- A night on which a record of the book in use ends, and a fuller book arrives later. The record of the Moon ended at 02:10, and the fuller
-- book came at 02:41.
use Rattle.base.specs.declared.Refusal.{Refusal}
use Rattle.std.specs.Prelude.{true, List, ◌≡◌, ℕ, ◌≤◌, ◌<◌, Ok, Err}
use Rattle.state.specs.State.{position, centre_allowed}
use Rattle.state.specs.declared.State.{State}
use Rattle.state.specs.declared.Setting.{Setting}
use Rattle.state.specs.declared.Vector.{Vector}
use Rattle.book.specs.Passes.{passes}
use Rattle.gravity.specs.declared.Guesses.{Guesses}
use Rattle.run.specs.Step.{step}
use Rattle.run.specs.Walk.{walk}
use Rattle.run.specs.Run.{run_answer}
use Rattle.run.specs.declared.Outcome.TheVariants as outcome
use Rattle.run.specs.declared.RunAnswer.{RunAnswer}
use Rattle.run_laws.specs.Journey.{Call, journey}
use Rattle.run_laws.specs.Journey as journeys
use Rattle.centre_laws.specs.Legs.{Move, walk_with_moves, MovesStand}
use Rattle.book_laws.specs.Fuller.{HoldsAll}
use Rattle.pane_live.specs.Pane.{take, feed, clear, after, figure, shown, frame_at}
use Rattle.pane_live.specs.Laws.{fed}
use Rattle.pane_live.specs.declared.Pane.{Pane}
use Rattle.pane_live.specs.declared.Pane.TheVariants.{Blank, One, Two}
use Rattle.pane_live.specs.declared.FrameAnswer.TheVariants as frame
use Rattle.pane_laws.specs.Desk.{InHand, Desk}
use Rattle.pane_motion.specs.Motion.{motion_at}
use Rattle.pane_motion.specs.declared.Motion.{Motion}
use Rattle.pane_laws.specs.OnAir.{OnAir, OffAir, OnAirMoving, OffAirMoving}

-- the pane that took the injection and then every answer of a journey
abbrev pub pane_of_journey : List ℕ → Setting → ℕ → ℕ → State → List Call → Pane
pane_of_journey b setting h target injection calls = fed (after clear (take clear injection)) (journey b setting h target injection calls)

-- and after that, from the state that the journey reached, every answer of a second one under the book c
abbrev pub pane_of_night : List ℕ → List ℕ → Setting → ℕ → ℕ → State → List Call → List Call → Pane
pane_of_night b c setting h target injection calls later =
    fed (pane_of_journey b setting h target injection calls) (journey c setting h target (journeys.after b setting h target injection calls) later)

-- the newest state that the pane holds
abbrev pub Newest : Pane → State → Type 0
Newest Blank s = ⊥
Newest (One a) s = a ≡ s
Newest (Two a b) s = b ≡ s

-- a run that was not refused
abbrev pub NotRefused : RunAnswer Refusal → Type 0
NotRefused r = (k : Refusal) → r.outcome ≡ outcome.Refused k → ⊥

-- the answer of a run on air, once it is fed: from the newest state of the pane to that of the answer
pub record PutOn (b : List ℕ) (setting : Setting) (h : ℕ) (pane : Pane) (newest s : State) (target budget : ℕ) (given : Guesses) : Type 0 where
  pub between : (t : ℕ) → newest.moment ≤ t → t ≤ (run_answer b setting s h target budget given).state.moment
      → frame_at (after pane (feed pane (run_answer b setting s h target budget given))) t
      ≡ shown (figure newest (run_answer b setting s h target budget given).state t)
  pub there : frame_at (after pane (feed pane (run_answer b setting s h target budget given))) (run_answer b setting s h target budget given).state.moment
      ≡ frame.Current (position (run_answer b setting s h target budget given).state)

-- What happened. After the moves made, `start`, n steps of the plain walk under the book b lead to `last`. The next step is refused with k:
-- Cover if "a used body has no cover".
-- The book c passes and is fuller.
pub record Night (setting : Setting) (h : ℕ) (injection : State) (b c : List ℕ) (made : List Move) (start last : State) (n : ℕ) (k : Refusal) : Type 0 where
  pub moves : MovesStand b setting h injection made start
  pub centred : centre_allowed setting start.centre ≡ true
  pub walked : walk (step b setting h) n start ≡ Ok last
  pub off : step b setting h last ≡ Err k
  pub fuller : HoldsAll b c
  pub pass : passes c ≡ true

-- What the desk may rely on, for all its actions.
pub record NightHolds (setting : Setting) (h : ℕ) (injection : State) (b c : List ℕ) (made : List Move) (start last : State) : Type 0 where
  -- under b no frame past `last` shows a position: it is late, counted from a state of the walk, or empty
  pub silent : (hand : List State) (pane : Pane) (t : ℕ) → Desk setting h injection b made hand pane → last.moment < t
      → OffAir b setting h start last t (frame_at pane t)
  -- under c the plain walk goes through every state that it reached under b, after as many steps
  pub same_start : walk_with_moves c setting h made injection ≡ Ok start
  pub same_walk : (m : ℕ) (s : State) → walk (step b setting h) m start ≡ Ok s → walk (step c setting h) m start ≡ Ok s
  -- if the step after `last` cannot be taken under c either, still no frame past `last` shows a position
  pub still : (j : Refusal) (hand : List State) (pane : Pane) (t : ℕ) → step c setting h last ≡ Err j → Desk setting h injection c made hand pane
      → last.moment < t → OffAir c setting h start last t (frame_at pane t)
  -- every position that is shown under c is that walk's
  pub shows : (hand : List State) (pane : Pane) (t : ℕ) (p : Vector) → Desk setting h injection c made hand pane → frame_at pane t ≡ frame.Current p
      → OnAir c setting h injection made t p
  -- a run under c from a state in hand that is not refused and goes past the newest state of the pane puts its own state on air. Up to it
  -- the pane shows the figure between the two.
  pub again : (hand : List State) (pane : Pane) (newest s : State) (target budget : ℕ) (given : Guesses)
      → Desk setting h injection c made hand pane → InHand s hand → Newest pane newest
      → NotRefused (run_answer c setting s h target budget given) → newest.moment < (run_answer c setting s h target budget given).state.moment
      → PutOn c setting h pane newest s target budget given
  -- both for frames with velocity
  pub silent_moving : (hand : List State) (pane : Pane) (t : ℕ) → Desk setting h injection b made hand pane → last.moment < t
      → OffAirMoving b setting h start last t (motion_at pane t)
  pub shows_moving : (hand : List State) (pane : Pane) (t : ℕ) (m : Motion) → Desk setting h injection c made hand pane → motion_at pane t ≡ frame.Current m
      → OnAirMoving c setting h injection made t m
