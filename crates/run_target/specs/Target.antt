-- Document 01, "The step and the run" and "Refusal numbers": the length of a step and the way to the target, 2 and 5.
use Rattle.std.specs.Prelude.{Bool, ◌&&◌, ℕ, ◌-◌, ◌%◌}
use Rattle.base.specs.Choice.{◌≤?◌, ◌=?◌}
use Rattle.base.specs.Checks.{Checked, require, ◌before◌}
use Rattle.base.specs.declared.Refusal.{Refusal}

-- "Step h is an even number of ms, 2 to 86,400,000"
abbrev pub step_allowed : ℕ → Bool
step_allowed h = (2 ≤? h) && (h ≤? 86_400_000) && (h % 2 =? 0)

-- 5: "target before the state, or not a whole number of steps away"
abbrev pub within_steps : ℕ → ℕ → ℕ → Bool
within_steps t h target = (t ≤? target) && ((target - t) % h =? 0)

-- the last group of a run's checks, as the code makes them
unfoldable pub target_checks : ℕ → ℕ → ℕ → Checked
target_checks t h target = require (step_allowed h) Refusal.Step before require (within_steps t h target) Refusal.Target
