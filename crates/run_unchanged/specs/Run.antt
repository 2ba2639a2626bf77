-- Document 01's run before document 02's R-6, R-7 and R-8, without its guesses: about the Earth, from the moment, the position and the
-- velocity only.
use Rattle.base.specs.declared.Refusal.{Refusal}
use Rattle.std.specs.Prelude.{List, ◌≡◌, ℕ, ◌+◌, Err}
use Rattle.base.specs.Checks.{checked}
use Rattle.state.specs.State.{position, bare}
use Rattle.state.specs.declared.State.{State}
use Rattle.state.specs.declared.Setting.{Setting}
use Rattle.run.specs.Run.{Reached, ended, run_to}
use Rattle.run.specs.declared.Outcome.TheVariants.{Refused}
use Rattle.run.specs.declared.RunAnswer.{RunAnswer}
use Rattle.run_unchanged.specs.Acceleration.{acceleration_before, start_before}
use Rattle.run_unchanged.specs.Step.{step_before}

-- its outcome, steps and state
abbrev pub run_before : List ℕ → Setting → State → ℕ → ℕ → ℕ → Reached
run_before b setting s h target budget =
    checked (start_before b setting s h target)
    (run_to (step_before (acceleration_before b setting) h) target budget s)
    (λ k. ended (Refused k) s)

abbrev pub reached_by : RunAnswer Refusal → Reached
reached_by r = record { outcome = r.outcome; steps = r.steps; state = r.state }

-- The result r of a run, and its result q before: "all bits stay as they were". R-8 moves one thing: "a step whose new state has none is
-- refused at that step". Before R-8 the step after it was refused.
pub data AsBefore (b : List ℕ) (setting : Setting) (r q : Reached) : Type 0 where
  same : r.outcome ≡ q.outcome → r.steps ≡ q.steps → bare r.state ≡ bare q.state → AsBefore b setting r q
  without : (k : Refusal) → r.outcome ≡ Refused k → q.steps ≡ r.steps + 1
      → acceleration_before b setting q.state.moment (position q.state) ≡ Err k → AsBefore b setting r q
