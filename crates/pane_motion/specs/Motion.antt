-- Document 02, R-14, with a velocity: a frame shows the position on "the cubic through both positions and velocities", and the derivative
-- of the cubic there (docs/DECISIONS.md, "what velocity has a frame").
use Rattle.base.specs.declared.Refusal.{Refusal}
use Rattle.std.specs.Prelude.{ℕ, ◌-◌, Float}
use Rattle.base.specs.Choice.{if◌then◌otherwise◌, ◌=?◌}
use Rattle.base.specs.Floats.{◌⊕◌, ◌⊖◌, ◌⊗◌, ◌⊘◌, whole}
use Rattle.state.specs.State.{velocity, finite_vector}
use Rattle.state.specs.declared.Vector.{Vector}
use Rattle.state.specs.declared.State.{State}
use Rattle.pane_live.specs.Pane.{c2, c3, frame_at}
use Rattle.pane_live.specs.declared.Pane.{Pane}
use Rattle.pane_live.specs.declared.Pane.TheVariants.{Blank, One, Two}
use Rattle.pane_live.specs.declared.FrameAnswer.{FrameAnswer}
use Rattle.pane_live.specs.declared.FrameAnswer.TheVariants.{Current, Late, Empty, Refused}
use Rattle.pane_motion.specs.declared.Motion.{Motion}

-- one component: "v = (m0 + s·(2·c2 + s·(3·c3)))/D, with D, s, m0, c2 and c3 of the order above"
abbrev pub rate : Float → Float → Float → Float → Float → Float → Float
rate D s p0 v0 p1 v1 =
    let m0 = D ⊗ v0 in
    let m1 = D ⊗ v1 in
    let e = p1 ⊖ p0 in
    (m0 ⊕ s ⊗ (whole 2 ⊗ c2 e m0 m1 ⊕ s ⊗ (whole 3 ⊗ c3 e m0 m1))) ⊘ D

-- `gone` ms after the older state, in a span of that many ms, with D and s as for the position (`between`, pane_live/Pane)
unfoldable pub rate_between : State → State → ℕ → ℕ → Vector
rate_between a b gone span =
    let D = whole span ⊘ whole 1000 in
    let s = whole gone ⊘ whole span in
    record {
      x = rate D s a.x a.vx b.x b.vx;
      y = rate D s a.y a.vy b.y b.vy;
      z = rate D s a.z a.vz b.z b.vz;
    }

-- "At t0 and at t1 it is the state's own velocity, by case"
unfoldable pub frame_velocity : State → State → ℕ → Vector
frame_velocity a b t =
    if t =? a.moment then velocity a otherwise
    if t =? b.moment then velocity b otherwise rate_between a b (t - a.moment) (b.moment - a.moment)

abbrev pub moving : Vector → Vector → Motion
moving p v = record { position = p; velocity = v }

-- "Any of the six numbers that is not finite is 7": the frame has checked the first three
abbrev pub shown_motion : Vector → Vector → FrameAnswer Motion Refusal
shown_motion p v = if finite_vector v then Current (moving p v) otherwise Refused Refusal.NotFinite

-- the frame, with the velocity v if it is current
abbrev pub with_velocity : FrameAnswer Vector Refusal → Vector → FrameAnswer Motion Refusal
with_velocity (Current p) v = shown_motion p v
with_velocity (Late ms) v = Late ms
with_velocity Empty v = Empty
with_velocity (Refused k) v = Refused k

unfoldable pub motion_at : Pane → ℕ → FrameAnswer Motion Refusal
motion_at Blank t = Empty
motion_at (One a) t = Empty
motion_at (Two a b) t = with_velocity (frame_at (Two a b) t) (frame_velocity a b t)
