-- Document 01, "Earth-fixed turn and conic", and document 02, R-2 and R-9: the orientation of the Earth at a moment, and its rate.
use Rattle.std.specs.Prelude.{List, [], ◌∷◌, ℕ, get_or, Float}
use Rattle.std.specs.Float.{nan}
use Rattle.std.specs.Float.Ieee.{neg}
use Rattle.base.specs.Floats.{◌⊕◌, ◌⊗◌, ◌⊘◌, whole, decimal}
use Rattle.state.specs.declared.Vector.{Vector}
use Rattle.hour.specs.Hour.{ut_day, ut_time, sidereal_angle}
use Rattle.sine.specs.declared.SineCosine.{SineCosine}
use Rattle.sine.specs.Sine.{c, sine_cosine}
use Rattle.earth_precession.specs.Precession.{Table, precession}

-- "(cos, sin, 0), (-sin, cos, 0), (0, 0, 1)"
unfoldable pub turn : SineCosine → Table
turn of =
    (of.cosine ∷ of.sine ∷ whole 0 ∷ [])
    ∷ (neg of.sine ∷ of.cosine ∷ whole 0 ∷ [])
    ∷ (whole 0 ∷ whole 0 ∷ whole 1 ∷ [])
    ∷ []

-- "Row times vector is (m1·X + m2·Y) + m3·Z" (a row always has three numbers, so the case of nan never occurs)
unfoldable pub row_times : List Float → Vector → Float
row_times row v =
    let m1 = get_or row 0 nan in
    let m2 = get_or row 1 nan in
    let m3 = get_or row 2 nan in
    (m1 ⊗ v.x ⊕ m2 ⊗ v.y) ⊕ m3 ⊗ v.z

unfoldable pub times : Table → Vector → Vector
times table v =
    record {
      x = row_times (get_or table 0 []) v;
      y = row_times (get_or table 1 []) v;
      z = row_times (get_or table 2 []) v;
    }

-- a column of a table, from the top
unfoldable pub column : Table → ℕ → Vector
column table j =
    record {
      x = get_or (get_or table 0 []) j nan;
      y = get_or (get_or table 1 []) j nan;
      z = get_or (get_or table 2 []) j nan;
    }

-- document 02, R-2: "The two tables of three by three are multiplied once .. each element is (first + second) + third". Rows of the left
-- table, columns of the right.
unfoldable pub row_product : List Float → Table → List Float
row_product row right = row_times row (column right 0) ∷ row_times row (column right 1) ∷ row_times row (column right 2) ∷ []

unfoldable pub product : Table → Table → Table
product left right =
    row_product (get_or left 0 []) right ∷ row_product (get_or left 1 []) right ∷ row_product (get_or left 2 []) right ∷ []

-- "w = (0.00417807417/(1 + 0.000000000000521·d))·c" for the UT day d
unfoldable pub rate : ℕ → Float
rate d = (decimal 417_807_417 100_000_000_000 ⊘ (whole 1 ⊕ decimal 521 1_000_000_000_000_000 ⊗ whole d)) ⊗ c

-- the orientation and the rate of the Earth: the table that is applied to 1950.0 coordinates, and w
pub record Rotation : Type 0 where
  pub table : Table
  pub w : Float

-- at a moment. R-2: "first taken to the mean equator of date by the precession table", of the moment itself, "and then turned" by its hour
-- angle, "the turn on the left". R-9: the hour angle is by the rule of the setting. The rate is that of the UT day: "the turn's rate w
-- stays document 01's".
unfoldable pub rotation : ℕ → ℕ → ℕ → Rotation
rotation rule moment dut =
    record {
      table = product (turn (sine_cosine (sidereal_angle rule (ut_day moment dut) (ut_time moment dut)))) (precession moment);
      w = rate (ut_day moment dut);
    }
