-- Document 02, R-2, and document 000, section ROTEQ: the table that takes 1950.0 coordinates to the mean equator of date.
use Rattle.std.specs.Prelude.{List, [], ◌∷◌, ℕ, ◌+◌, Float}
use Rattle.std.specs.Float.Ieee.{neg}
use Rattle.base.specs.Floats.{◌⊕◌, ◌⊗◌, ◌⊘◌, whole, decimal}

-- "three rows of three numbers"
abbrev pub Table : Type 0
Table = List (List Float)

-- DELTJD, "the difference between the J.D. of 1950.0 and the J.D. of 0 hr January 1, 1950", is -0.076643 day: the epoch 1950.0 lies
-- 6,621,955.2 ms before moment 0
abbrev pub since_epoch : ℕ → ℕ
since_epoch moment = moment + 6_621_955

-- "T the number of Julian centuries of 36,525 days past the epoch 1950.0": "one float quotient, the state's whole milliseconds past
-- that epoch by 3,155,760,000,000"
unfoldable pub centuries : ℕ → Float
centuries moment = whole (since_epoch moment) ⊘ whole 3_155_760_000_000

-- "Horner, an absent term as 0": c0 + c1·T + c2·T² + c3·T³
abbrev pub horner : Float → Float → Float → Float → Float → Float
horner T c0 c1 c2 c3 = ((c3 ⊗ T ⊕ c2) ⊗ T ⊕ c1) ⊗ T ⊕ c0

-- a coefficient as it is printed, with eight decimals
abbrev pub printed : ℕ → Float
printed n = decimal n 100_000_000

-- "a11 = 1 - 0.00029697T² - 0.00000013T³"
unfoldable pub a11 : Float → Float
a11 T = horner T (whole 1) (whole 0) (neg (printed 29_697)) (neg (printed 13))

-- "a12 = -a21 = -0.02234988T - 0.00000676T² + 0.00000221T³"
unfoldable pub a12 : Float → Float
a12 T = horner T (whole 0) (neg (printed 2_234_988)) (neg (printed 676)) (printed 221)

-- "a13 = -a31 = -0.00971711T + 0.00000207T² + 0.00000096T³"
unfoldable pub a13 : Float → Float
a13 T = horner T (whole 0) (neg (printed 971_711)) (printed 207) (printed 96)

-- "a22 = 1 - 0.00024976T² - 0.00000015T³"
unfoldable pub a22 : Float → Float
a22 T = horner T (whole 1) (whole 0) (neg (printed 24_976)) (neg (printed 15))

-- "a23 = a32 = -0.00010859T² - 0.00000003T³"
unfoldable pub a23 : Float → Float
a23 T = horner T (whole 0) (whole 0) (neg (printed 10_859)) (neg (printed 3))

-- "a33 = 1 - 0.00004721T² + 0.00000002T³"
unfoldable pub a33 : Float → Float
a33 T = horner T (whole 1) (whole 0) (neg (printed 4_721)) (printed 2)

unfoldable pub precession_by : Float → Table
precession_by T =
    (a11 T ∷ a12 T ∷ a13 T ∷ [])
    ∷ (neg (a12 T) ∷ a22 T ∷ a23 T ∷ [])
    ∷ (neg (a13 T) ∷ a23 T ∷ a33 T ∷ [])
    ∷ []

-- at the moment of the state, which is ephemeris time
unfoldable pub precession : ℕ → Table
precession moment = precession_by (centuries moment)
