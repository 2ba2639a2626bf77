-- Document 01, "The step and the run" and "Refusal numbers", and document 02, R-6 and R-8: the checks of a run call before its first step.
use Rattle.std.specs.Prelude.{◌&&◌, List, ℕ}
use Rattle.base.specs.Checks.{Checked, ◌before◌}
use Rattle.base.specs.Limits.{is_moment}
use Rattle.state.specs.State.{finite_state, centre_allowed}
use Rattle.state.specs.declared.State.{State}
use Rattle.state.specs.declared.Setting.{Setting}
use Rattle.state_checks.specs.Common.{common_checks}
use Rattle.gravity_stored.specs.Injection.{stored_check}
pub use Rattle.run_target.specs.Target.{step_allowed, within_steps}
use Rattle.run_target.specs.Target.{target_checks}

-- "1, 4, 3 (state, then target), 7 (state)"; R-6: 14 "directly after 4"
unfoldable pub inputs_checks : List ℕ → Setting → State → ℕ → Checked
inputs_checks b setting s target =
    common_checks b setting (centre_allowed setting s.centre) (is_moment s.moment && is_moment target) (finite_state s)

-- "Run call order: 1, 4, 3 (state, then target), 7 (state), 2, 5"; R-8: "after 7 for position and velocity, the rule's own 6 or 7, then
-- .. 15"
unfoldable pub start_checks : List ℕ → Setting → State → ℕ → ℕ → Checked
start_checks b setting s h target =
    inputs_checks b setting s target
    before stored_check b setting s
    before target_checks s.moment h target
