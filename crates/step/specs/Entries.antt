-- What the code passes from one step to the next besides the state, and what a step may rely on.
use Rattle.std.specs.Prelude.{true, List, ◌≡◌, ℕ, ◌+◌, ◌<◌}
use Rattle.base.specs.Limits.{end_of_time}
use Rattle.state.specs.State.{centre_allowed}
use Rattle.state.specs.declared.Setting.{Setting}
use Rattle.state.specs.declared.State.{State}
use Rattle.gravity.specs.Sight.{sights}
use Rattle.gravity.specs.declared.Guesses.{Guesses}

-- the entries of the bodies at the new moment
abbrev pub entries_after : List ℕ → Setting → ℕ → State → Guesses
entries_after b setting h s = (sights b setting s.centre (s.moment + h)).entries

-- what a step may rely on
abbrev pub MayStep : Setting → State → Type 0
MayStep setting s = (s.moment < end_of_time) × (centre_allowed setting s.centre ≡ true)
