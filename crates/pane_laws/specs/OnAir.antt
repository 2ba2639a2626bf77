-- What a frame may show, compared with the plain walk from the injection with the moves that the desk made.
use Rattle.std.specs.Prelude.{List, ◌≡◌, ℕ, ◌-◌, ◌≤◌, ◌<◌, Ok}
use Rattle.base.specs.declared.Refusal.{Refusal}
use Rattle.state.specs.declared.State.{State}
use Rattle.state.specs.declared.Setting.{Setting}
use Rattle.state.specs.declared.Vector.{Vector}
use Rattle.run.specs.Step.{step}
use Rattle.run.specs.Walk.{walk}
use Rattle.centre_laws.specs.Legs.{Move, walk_with_moves, MovesStand}
use Rattle.pane_live.specs.Pane.{figure}
use Rattle.pane_live.specs.declared.FrameAnswer.{FrameAnswer}
use Rattle.pane_live.specs.declared.FrameAnswer.TheVariants as frame
use Rattle.pane_motion.specs.Motion.{frame_velocity}
use Rattle.pane_motion.specs.declared.Motion.{Motion}

-- On air at t: the position p is the document's figure between two states of the plain walk, both after its last move.
pub record OnAir (b : List ℕ) (setting : Setting) (h : ℕ) (injection : State) (made : List Move) (t : ℕ) (p : Vector) : Type 0 where
  -- the state of the plain walk after its last move; without moves this is the injection. Each move is at its named moment.
  pub start : State
  pub moved : walk_with_moves b setting h made injection ≡ Ok start
  pub moves : MovesStand b setting h injection made start
  -- n0 steps from there lead to the older state, n1 to the newer
  pub n0 : ℕ
  pub n1 : ℕ
  pub rises : n0 < n1
  pub older : State
  pub newer : State
  pub walked0 : walk (step b setting h) n0 start ≡ Ok older
  pub walked1 : walk (step b setting h) n1 start ≡ Ok newer
  -- t lies between them
  pub from : older.moment ≤ t
  pub until : t ≤ newer.moment
  -- "the cubic through both positions and velocities"; "at either end it is that state's position, to the bit"
  pub is : p ≡ figure older newer t

-- Off air at t: the frame is empty, or late by the time since a state of the walk from start, no later than `last`. It shows no position.
pub data OffAir (b : List ℕ) (setting : Setting) (h : ℕ) (start last : State) (t : ℕ) : FrameAnswer Vector Refusal → Type 0 where
  empty : OffAir b setting h start last t frame.Empty
  late : (n : ℕ) (s : State) → walk (step b setting h) n start ≡ Ok s → s.moment ≤ last.moment → s.moment < t
      → OffAir b setting h start last t (frame.Late (t - s.moment))

-- ---- the same for a frame with velocity

-- On air at t with a velocity: the position is on air, and the velocity is that of the same cubic through the same two states.
pub record OnAirMoving (b : List ℕ) (setting : Setting) (h : ℕ) (injection : State) (made : List Move) (t : ℕ) (m : Motion) : Type 0 where
  pub place : OnAir b setting h injection made t m.position
  pub speed : m.velocity ≡ frame_velocity place.older place.newer t

pub data OffAirMoving (b : List ℕ) (setting : Setting) (h : ℕ) (start last : State) (t : ℕ) : FrameAnswer Motion Refusal → Type 0 where
  empty_moving : OffAirMoving b setting h start last t frame.Empty
  late_moving : (n : ℕ) (s : State) → walk (step b setting h) n start ≡ Ok s → s.moment ≤ last.moment → s.moment < t
      → OffAirMoving b setting h start last t (frame.Late (t - s.moment))
