-- Documents 01 and 02, "Refusal numbers" and R-6: the first checks of acceleration, injection, move and run.
use Rattle.std.specs.Prelude.{Bool, List, ℕ}
use Rattle.base.specs.Checks.{Checked, require, ◌before◌}
use Rattle.base.specs.declared.Refusal.{Refusal}
use Rattle.state.specs.State.{setting_allowed}
use Rattle.state.specs.declared.Setting.{Setting}
use Rattle.book.specs.Passes.{passes}

-- "1, 4, 3 .., 7", and R-6: 14 "directly after 4". The caller gives three of the tests: `centred`, each of its centres is allowed; `timed`,
-- each of its moments is in range. `finite`: its position, or its whole state, is finite.
unfoldable pub common_checks : List ℕ → Setting → Bool → Bool → Bool → Checked
common_checks b setting centred timed finite =
    require (passes b) Refusal.Book
    before require (setting_allowed setting) Refusal.Setting
    before require centred Refusal.Centre
    before require timed Refusal.Moment
    before require finite Refusal.NotFinite
