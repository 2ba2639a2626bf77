-- Document 02, R-8: "Injection, step and change of centre must keep it equal to the rule at that state".
use Rattle.base.specs.declared.Refusal.{Refusal}
use Rattle.state.specs.declared.Vector.{Vector}
use Rattle.std.specs.Prelude.{Bool, false, List, ℕ, Result, Ok, Err}
use Rattle.base.specs.Limits.{is_moment}
use Rattle.state.specs.State.{acceleration, starting_position, carrying, bare, same_vector, finite_injection, centre_allowed}
use Rattle.state.specs.declared.State.{State}
use Rattle.state.specs.declared.Injection.{Injection}
use Rattle.state.specs.declared.Setting.{Setting}
use Rattle.base.specs.Checks.{Checked, require, ◌before◌}
use Rattle.state_checks.specs.Common.{common_checks}
use Rattle.gravity.specs.Acceleration.{nowhere, acceleration_at}

-- "the rule at that state"
abbrev pub rule_at : List ℕ → Setting → Injection → Result Vector Refusal
rule_at b setting i = acceleration_at b setting i.centre i.moment (starting_position i)

-- the state that the rule makes from an injection, or the rule's own 6 or 7
abbrev pub kept_by : {R : Type 0} → Injection → Result Vector R → Result State R
kept_by i (Ok a) = Ok (carrying i a)
kept_by i (Err k) = Err k

unfoldable pub kept : List ℕ → Setting → Injection → Result State Refusal
kept b setting i = kept_by i (rule_at b setting i)

-- the checks of the injection call: 1, 4, 14, 3, "7 for position and velocity"
unfoldable pub injection_checks : List ℕ → Setting → Injection → Checked
injection_checks b setting i =
    common_checks b setting (centre_allowed setting i.centre) (is_moment i.moment) (finite_injection i)

-- "after 7 for position and velocity, the rule's own 6 or 7"
unfoldable pub injection_answer : List ℕ → Setting → Injection → Result State Refusal
injection_answer b setting i = injection_checks b setting i before kept b setting i

-- Whether the acceleration stored with a state is the rule's at that state, "by its bits".
abbrev pub stored_is_rule_by : State → Result Vector Refusal → Bool
stored_is_rule_by s (Ok a) = same_vector a (acceleration s)
stored_is_rule_by s (Err k) = false

unfoldable pub stored_is_rule : List ℕ → Setting → State → Bool
stored_is_rule b setting s = stored_is_rule_by s (rule_at b setting (bare s))

-- "A run call checks it once": "the rule's own 6 or 7, then, in a run, 15 for a stored value that is not the rule's"
abbrev pub stored_check_by : State → Result Vector Refusal → Checked
stored_check_by s (Ok a) = require (same_vector a (acceleration s)) Refusal.Stored
stored_check_by s (Err k) = Err k

unfoldable pub stored_check : List ℕ → Setting → State → Checked
stored_check b setting s = stored_check_by s (rule_at b setting (bare s))

-- An old order and an old line give no acceleration: the one "that the rule gives" is meant. If the injection is refused there is none.
-- Then zeros are stored, and the run refuses before it reads them.
abbrev pub or_none : Injection → Result State Refusal → State
or_none i (Ok s) = s
or_none i (Err k) = carrying i nowhere

unfoldable pub launched : List ℕ → Setting → Injection → State
launched b setting i = or_none i (injection_answer b setting i)
