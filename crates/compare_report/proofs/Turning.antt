-- The report on the states, turn by turn: the next state of each side, the report on them, and the rest. Assumes nothing.
use mathlib.Core.Bool.{Bool, true, false}
use mathlib.Core.List.{List, ◌∷◌, ◌++◌}
use mathlib.Core.Path.{◌≡◌, refl, ap, ◌∙◌}
use lib.Dec.{ltb}
use Rattle.std.specs.Prelude.{Option, Some, None}
use Rattle.listing_scan.specs.declared.Row.{Row}
use Rattle.listing_read.specs.Form.{found_rows}
use Rattle.compare_report.specs.Report.{parted, text_of}
use Rattle.compare_report.specs.Turns.{side_of, differences_at, left, Ended}
use Rattle.compare_report.proofs.Puts.{text_append}

module _ (r s : Row) (ra rb : List Row) where
  two : (x y : Bool) → ltb r.moment s.moment ≡ x → ltb s.moment r.moment ≡ y
      → parted (r ∷ ra) (s ∷ rb) ≡ differences_at (Some r) (Some s) ++ parted (left (side_of (Some r) (Some s)).first (Some r) ra) (left (side_of (Some r) (Some s)).second (Some s) rb)
  unfolding parted
  two true y e f = rw e
  two false true e f = rw (e, f)
  two false false e f = rw (e, f)

pub one_turn : (f g : Option Row) (ra rb : List Row) → Ended f ra → Ended g rb
    → parted (found_rows f ++ ra) (found_rows g ++ rb) ≡ differences_at f g ++ parted (left (side_of f g).first f ra) (left (side_of f g).second g rb)
unfolding parted
one_turn None None ra rb a b = refl
one_turn (Some r) None ra rb a b = rw (b refl)
one_turn None (Some s) ra rb a b = rw (a refl)
one_turn (Some r) (Some s) ra rb a b = two r s ra rb (ltb r.moment s.moment) (ltb s.moment r.moment) refl refl

-- the same for the lines: what put_turn writes, and what is still to come
pub turn_text_lem : (f g : Option Row) (ra rb : List Row) → Ended f ra → Ended g rb
    → text_of (parted (found_rows f ++ ra) (found_rows g ++ rb)) ≡ text_of (differences_at f g) ++ text_of (parted (left (side_of f g).first f ra) (left (side_of f g).second g rb))
turn_text_lem f g ra rb a b = ap text_of (one_turn f g ra rb a b) ∙ text_append (differences_at f g) (parted (left (side_of f g).first f ra) (left (side_of f g).second g rb))
