-- Document 02, R-14: the live pane. "It keeps the last two reached states and answers each frame with current, late or empty."
use Rattle.base.specs.declared.Refusal.{Refusal}
use Rattle.std.specs.Prelude.{ℕ, ◌-◌, Bool, ◌&&◌, Float}
use Rattle.base.specs.Choice.{if◌then◌otherwise◌, ◌<?◌, ◌=?◌}
use Rattle.base.specs.Floats.{◌⊕◌, ◌⊖◌, ◌⊗◌, ◌⊘◌, whole}
use Rattle.state.specs.State.{position, velocity, finite_vector}
use Rattle.state.specs.declared.Vector.{Vector}
use Rattle.state.specs.declared.State.{State}
use Rattle.run.specs.declared.Outcome.{Outcome}
use Rattle.run.specs.declared.Outcome.TheVariants as outcome
use Rattle.run.specs.declared.RunAnswer.{RunAnswer}
use Rattle.pane_live.specs.declared.Pane.{Pane}
use Rattle.pane_live.specs.declared.Pane.TheVariants.{Blank, One, Two}
use Rattle.pane_live.specs.declared.TakeAnswer.{TakeAnswer}
use Rattle.pane_live.specs.declared.TakeAnswer.TheVariants.{Taken, Unchanged, Refused}
use Rattle.pane_live.specs.declared.FrameAnswer.{FrameAnswer}
use Rattle.pane_live.specs.declared.FrameAnswer.TheVariants as frame

-- ---- taking states

-- "A new state is taken only if its centre agrees and its moment is later"
abbrev pub follows : State → State → Bool
follows newer s = (s.centre =? newer.centre) && (newer.moment <? s.moment)

-- "Refusals: such a state is 18"
abbrev pub taken_after : State → State → TakeAnswer Refusal
taken_after newer s = if follows newer s then Taken (Two newer s) otherwise Refused Refusal.NotNext

unfoldable pub take : Pane → State → TakeAnswer Refusal
take Blank s = Taken (One s)
take (One a) s = taken_after a s
take (Two a b) s = taken_after b s

-- "a refused run changes nothing in the pane", whatever R tells of its refusal; any other gives the pane the state reached
abbrev pub feed_by : {R : Type 0} → Outcome R → Pane → State → TakeAnswer Refusal
feed_by outcome.Arrived pane s = take pane s
feed_by outcome.Going pane s = take pane s
feed_by (outcome.Refused k) pane s = Unchanged

unfoldable pub feed : {R : Type 0} → Pane → RunAnswer R → TakeAnswer Refusal
feed pane r = feed_by r.outcome pane r.state

-- "clearing it makes it empty, and then any centre is taken"
abbrev pub clear : Pane
clear = Blank

-- the pane after a call
abbrev pub after : {R : Type 0} → Pane → TakeAnswer R → Pane
after pane (Taken next) = next
after pane Unchanged = pane
after pane (Refused k) = pane

-- ---- the figure of a frame

-- docs/DECISIONS.md, "The operation order": "c2 = (3·e - 2·m0) - m1; c3 = (m0 + m1) - 2·e"
abbrev pub c2 : Float → Float → Float → Float
c2 e m0 m1 = (whole 3 ⊗ e ⊖ whole 2 ⊗ m0) ⊖ m1

abbrev pub c3 : Float → Float → Float → Float
c3 e m0 m1 = (m0 ⊕ m1) ⊖ whole 2 ⊗ e

-- one component of "the cubic through both positions and velocities", by that order
abbrev pub cubic : Float → Float → Float → Float → Float → Float → Float
cubic D s p0 v0 p1 v1 =
    let m0 = D ⊗ v0 in
    let m1 = D ⊗ v1 in
    let e = p1 ⊖ p0 in
    p0 ⊕ s ⊗ (m0 ⊕ s ⊗ (c2 e m0 m1 ⊕ s ⊗ c3 e m0 m1))

-- `gone` ms after the older state, in a span of that many ms: "s = (t - t0)/(t1 - t0) as one quotient"
unfoldable pub between : State → State → ℕ → ℕ → Vector
between a b gone span =
    let D = whole span ⊘ whole 1000 in
    let s = whole gone ⊘ whole span in
    record {
      x = cubic D s a.x a.vx b.x b.vx;
      y = cubic D s a.y a.vy b.y b.vy;
      z = cubic D s a.z a.vz b.z b.vz;
    }

-- "at either end it is that state's position, to the bit"
unfoldable pub figure : State → State → ℕ → Vector
figure a b t =
    if t =? a.moment then position a otherwise
    if t =? b.moment then position b otherwise between a b (t - a.moment) (b.moment - a.moment)

-- "a figure not finite is 7"
abbrev pub shown : Vector → FrameAnswer Vector Refusal
shown p = if finite_vector p then frame.Current p otherwise frame.Refused Refusal.NotFinite

-- "Late: the moment is past the newer state; the pane gives how late, and no position"; "Empty: .. the moment is before the older"; "Current:
-- the frame's moment lies between them, ends included"
abbrev pub frame_between : State → State → ℕ → FrameAnswer Vector Refusal
frame_between a b t =
    if b.moment <? t then frame.Late (t - b.moment) otherwise
    if t <? a.moment then frame.Empty otherwise shown (figure a b t)

-- "Empty: fewer than two states"
unfoldable pub frame_at : Pane → ℕ → FrameAnswer Vector Refusal
frame_at Blank t = frame.Empty
frame_at (One a) t = frame.Empty
frame_at (Two a b) t = frame_between a b t
