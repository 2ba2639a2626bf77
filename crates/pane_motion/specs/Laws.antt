-- A frame has the same word, lateness and position with velocity and without, for every pane and every moment. There is one exception.
use Rattle.base.specs.declared.Refusal.{Refusal}
use Rattle.std.specs.Prelude.{false, ◌⊎◌, ◌↔◌, ◌≡◌, ℕ}
use Rattle.state.specs.State.{finite_vector}
use Rattle.state.specs.declared.State.{State}
use Rattle.state.specs.declared.Vector.{Vector}
use Rattle.pane_live.specs.Pane.{frame_at}
use Rattle.pane_live.specs.declared.Pane.{Pane}
use Rattle.pane_live.specs.declared.Pane.TheVariants.{Two}
use Rattle.pane_live.specs.declared.FrameAnswer.TheVariants.{Current, Late, Empty, Refused}
use Rattle.pane_motion.specs.Motion.{frame_velocity, motion_at}
use Rattle.pane_motion.specs.declared.Motion.{Motion}

-- the frame has a position, and the velocity there is not finite
pub record NoVelocity (pane : Pane) (t : ℕ) : Type 0 where
  pub older : State
  pub newer : State
  pub held : pane ≡ Two older newer
  pub position : Vector
  pub shown : frame_at pane t ≡ Current position
  pub not_finite : finite_vector (frame_velocity older newer t) ≡ false

pub record SameFrame (pane : Pane) (t : ℕ) : Type 0 where
  pub current : (m : Motion) → motion_at pane t ≡ Current m → frame_at pane t ≡ Current m.position
  pub late : (ms : ℕ) → (motion_at pane t ≡ Late ms) ↔ (frame_at pane t ≡ Late ms)
  pub empty : (motion_at pane t ≡ Empty) ↔ (frame_at pane t ≡ Empty)
  pub refused : (k : Refusal) → (motion_at pane t ≡ Refused k) ↔ ((frame_at pane t ≡ Refused k) ⊎ ((k ≡ Refusal.NotFinite) × NoVelocity pane t))
