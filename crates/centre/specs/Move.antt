-- Document 02, R-6: "A separate call moves a state to another centre", and R-8: "a move to another centre works it out anew".
use Rattle.base.specs.declared.Refusal.{Refusal}
use Rattle.book.specs.declared.Motion.{Motion}
use Rattle.std.specs.Prelude.{◌&&◌, List, ℕ, Result, Ok, Err, Option, Some, None}
use Rattle.base.specs.Choice.{if◌then◌otherwise◌, ◌=?◌}
use Rattle.base.specs.Limits.{is_moment}
use Rattle.state.specs.State.{finite_injection, finite_state, centre_allowed}
use Rattle.state.specs.declared.State.{State}
use Rattle.state.specs.declared.Injection.{Injection}
use Rattle.state.specs.declared.Setting.{Setting}
use Rattle.base.specs.Checks.{Checked, ◌before◌}
use Rattle.state_checks.specs.Common.{common_checks}
use Rattle.book.specs.Lookup.{lookup}
use Rattle.book.specs.Series as series
use Rattle.gravity.specs.Acceleration.{at_rest}
use Rattle.gravity_stored.specs.Injection.{kept}
unfoldable pub use Rattle.centre_shift.specs.Shift.{shifted}

-- position and velocity of a body, seen from the Earth; "the Earth apart", it "needs cover"
abbrev pub motion_by : List ℕ → ℕ → Option ℕ → Option Motion
motion_by b t (Some i) = Some (record { place = series.place b i t; velocity = series.velocity b i t })
motion_by b t None = None

unfoldable pub motion_of : List ℕ → ℕ → ℕ → Option Motion
motion_of b number t = if number =? 1 then Some at_rest otherwise motion_by b t (lookup b number t)

-- "7 (result)"; R-8: "the rule's own 6 or 7 at its new state, after 7 (result)"
abbrev pub kept_or7 : List ℕ → Setting → Injection → Result State Refusal
kept_or7 b setting i = if finite_injection i then kept b setting i otherwise Err Refusal.NotFinite

-- 6: both lookups come before the result
abbrev pub move_by : List ℕ → Setting → State → ℕ → Option Motion → Option Motion → Result State Refusal
move_by b setting s centre (Some old) (Some new) = kept_or7 b setting (shifted s centre old new)
move_by b setting s centre (Some old) None = Err Refusal.Cover
move_by b setting s centre None to = Err Refusal.Cover

-- "moving to the centre it has changes nothing and looks nothing up"; R-8: "a move does not read" what is stored
unfoldable pub move_of : List ℕ → Setting → State → ℕ → Result State Refusal
move_of b setting s centre =
    if s.centre =? centre then Ok s otherwise
    move_by b setting s centre (motion_of b s.centre s.moment) (motion_of b centre s.moment)

-- 1, 4, "14, directly after 4", for the old centre and the new one; "a move then gives 3, 7 (state)"
unfoldable pub move_checks : List ℕ → Setting → State → ℕ → Checked
move_checks b setting s centre =
    common_checks b setting (centre_allowed setting s.centre && centre_allowed setting centre) (is_moment s.moment) (finite_state s)

-- "then .. 6, 7 (result), the number alone"
unfoldable pub move_answer : List ℕ → Setting → State → ℕ → Result State Refusal
move_answer b setting s centre = move_checks b setting s centre before move_of b setting s centre
