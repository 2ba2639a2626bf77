-- (02, R-14) What a frame returns and writes to the caller's memory.
use Rattle.std.specs.Prelude.{ℕ, List, [], ◌∷◌, Float}
use Rattle.std.specs.Float.{nan}
use Rattle.base.specs.Refusals.{number_of}
use Rattle.base.specs.declared.Refusal.{Refusal}
use Rattle.state.specs.declared.Vector.{Vector}
use Rattle.pane_live.specs.declared.FrameAnswer.{FrameAnswer}
use Rattle.pane_live.specs.declared.FrameAnswer.TheVariants as frame
use Rattle.pane_motion.specs.declared.Motion.{Motion}
use Rattle.c_run.specs.Lent.{vector_in}

-- ---- a frame

abbrev pub late : ℕ
late = 102

abbrev pub empty : ℕ
empty = 103

-- the result of a frame: the number returned, the three coordinates and the milliseconds
pub record FrameMemory : Type 0 where
  pub returned : ℕ
  pub position : List Float
  pub late : ℕ

abbrev pub framed : ℕ → List Float → ℕ → FrameMemory
framed returned position late = record { returned = returned; position = position; late = late }

-- "no position": three NaNs, so that no older figure remains
abbrev pub nothing : List Float
nothing = nan ∷ nan ∷ nan ∷ []

-- the number returned, at every type of what is shown: 0, 102 for late, 103 for empty, or the refusal number
abbrev pub frame_number : {A : Type 0} → FrameAnswer A Refusal → ℕ
frame_number (frame.Current x) = 0
frame_number (frame.Late ms) = late
frame_number frame.Empty = empty
frame_number (frame.Refused k) = number_of k

-- how late, in milliseconds
abbrev pub frame_late : {A : Type 0} → FrameAnswer A Refusal → ℕ
frame_late (frame.Current x) = 0
frame_late (frame.Late ms) = ms
frame_late frame.Empty = 0
frame_late (frame.Refused k) = 0

-- the coordinates of what is shown, and if the frame is not current, NaNs
abbrev pub current_or : {A : Type 0} → (A → List Float) → List Float → FrameAnswer A Refusal → List Float
current_or written none (frame.Current x) = written x
current_or written none (frame.Late ms) = none
current_or written none frame.Empty = none
current_or written none (frame.Refused k) = none

-- both places are always written
abbrev pub of_frame : FrameAnswer Vector Refusal → FrameMemory
of_frame shown = framed (frame_number shown) (current_or vector_in nothing shown) (frame_late shown)

-- ---- a frame with velocity

-- its result: the number returned, the six coordinates and the milliseconds
pub record MotionMemory : Type 0 where
  pub returned : ℕ
  pub motion : List Float
  pub late : ℕ

abbrev pub in_motion : ℕ → List Float → ℕ → MotionMemory
in_motion returned six late = record { returned = returned; motion = six; late = late }

-- position, then velocity
abbrev pub six_in : Motion → List Float
six_in m = m.position.x ∷ m.position.y ∷ m.position.z ∷ m.velocity.x ∷ m.velocity.y ∷ m.velocity.z ∷ []

-- "writes six NaNs when it is not current"
abbrev pub no_motion : List Float
no_motion = nan ∷ nan ∷ nan ∷ nan ∷ nan ∷ nan ∷ []

-- the same numbers as a frame returns, and both places are always written
abbrev pub of_motion : FrameAnswer Motion Refusal → MotionMemory
of_motion shown = in_motion (frame_number shown) (current_or six_in no_motion shown) (frame_late shown)
