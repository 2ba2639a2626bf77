-- What the code passes on besides the new state: the entries of the bodies at its moment.
use Rattle.std.specs.Prelude.{Result, Ok, Err}
use Rattle.base.specs.declared.Refusal.{Refusal}
use Rattle.base.specs.Refusals.{itself}
use Rattle.state.specs.State.{starting_position}
use Rattle.state.specs.declared.State.{State}
use Rattle.state.specs.declared.Setting.{Setting}
use Rattle.state.specs.declared.Injection.{Injection}
use Rattle.gravity.specs.Sight.{acceleration_for}
use Rattle.gravity.specs.declared.Sights.{Sights}
use Rattle.gravity.specs.declared.Guesses.{Guesses}
use Rattle.gravity_stored.specs.Injection.{kept_by}
use Rattle.step_end.specs.Arrival.{Moved}
use Rattle.step_end.specs.declared.Stepped.{Stepped}

abbrev pub kept : {R : Type 0} → Guesses → Result State R → Result Stepped R
kept entries (Ok s) = Ok (record { state = s; entries = entries })
kept entries (Err k) = Err k

-- the acceleration of the new state, by the bodies known at its moment
abbrev pub keeping_for : {R : Type 0} → (Refusal → R) → Sights R → Setting → Injection → Result State R
keeping_for held bodies setting i = kept_by i (acceleration_for held bodies setting (starting_position i))

abbrev pub keeping_under : Sights Refusal → Setting → Injection → Moved
keeping_under = keeping_for itself
