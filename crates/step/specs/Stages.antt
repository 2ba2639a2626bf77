-- The step as the code makes it, one stage after another. acc t p is the acceleration at the position p at the moment t; a1 is that of the
-- first stage.
use Rattle.base.specs.declared.Refusal.{Refusal}
use Rattle.std.specs.Prelude.{ℕ, ◌+◌, ◌/◌, Result}
use Rattle.state.specs.State.{position, velocity}
use Rattle.state.specs.declared.Vector.{Vector}
use Rattle.state.specs.declared.State.{State}
use Rattle.state.specs.declared.Injection.{Injection}
use Rattle.step_sums.specs.Slopes.{step_h, along, half}
pub use Rattle.step_end.specs.Arrival.{velocity2, velocity3, velocity4, lastly}
use Rattle.step.specs.Step.{Moved, and_then}

module _ (acc : ℕ → Vector → Result Vector Refusal) (ends : Injection → Moved) (h : ℕ) (s : State) where
  abbrev pub stage4 : Vector → Vector → Vector → Moved
  stage4 a1 a2 a3 = and_then (acc (s.moment + h) (along (position s) (step_h h) (velocity3 h s a2))) (lastly ends h s a1 a2 a3)

  abbrev pub stage3 : Vector → Vector → Moved
  stage3 a1 a2 = and_then (acc (s.moment + h / 2) (along (position s) (half h) (velocity2 h s a1))) (stage4 a1 a2)

  abbrev pub stage2 : Vector → Moved
  stage2 a1 = and_then (acc (s.moment + h / 2) (along (position s) (half h) (velocity s))) (stage3 a1)
