-- At the epoch itself the table is the unit table: nothing has drifted yet. Assumes nothing.
use mathlib.Core.List.{[], ◌∷◌}
use mathlib.Core.Path.{◌≡◌, refl}
use lib.Ieee.{neg, of_int, round, add, mul}
use Rattle.base.specs.Floats.{whole}
use Rattle.earth_precession.specs.Precession.{Table, a11, a12, a13, a22, a23, a33, precession_by}

unfoldable pub unit : Table
unit =
    (whole 1 ∷ whole 0 ∷ whole 0 ∷ [])
    ∷ (neg (whole 0) ∷ whole 1 ∷ whole 0 ∷ [])
    ∷ (neg (whole 0) ∷ whole 0 ∷ whole 1 ∷ [])
    ∷ []

pub at_epoch : precession_by (whole 0) ≡ unit
unfolding precession_by a11 a12 a13 a22 a23 a33 unit of_int round add mul neg
at_epoch = refl
