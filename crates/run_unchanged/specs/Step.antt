-- Document 01's step before document 02's R-8: its first slope is computed, and nothing is stored with the new state.
use Rattle.base.specs.declared.Refusal.{Refusal}
use Rattle.std.specs.Prelude.{ℕ, Result, Ok, Err}
use Rattle.state.specs.State.{position, carrying, bare}
use Rattle.state.specs.declared.Vector.{Vector}
use Rattle.state.specs.declared.State.{State}
use Rattle.state.specs.declared.Injection.{Injection}
use Rattle.gravity.specs.Acceleration.{nowhere}
use Rattle.run.specs.Step.{Moved, and_then, keeping}
use Rattle.run.specs.Stages.{stage2}

module _ (acc : ℕ → Vector → Result Vector Refusal) where
  -- "The four stages, in order, stand at t, t + h/2, t + h/2 and t + h"
  abbrev pub stage1 : (Injection → Moved) → ℕ → State → Moved
  stage1 ends h s = and_then (acc s.moment (position s)) (stage2 acc ends h s)

  -- the new state as it was, with zeros for the acceleration
  abbrev pub unkept : Injection → Moved
  unkept i = Ok (carrying i nowhere)

  abbrev pub step_before : ℕ → State → Moved
  step_before h s = stage1 unkept h s

  -- what R-8 adds to a step: the acceleration of the new state, or the refusal of a state that has none
  abbrev pub kept_after : Moved → Moved
  kept_after (Ok s) = keeping acc (bare s)
  kept_after (Err k) = Err k
