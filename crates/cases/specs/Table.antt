-- Document 01, "Figures to check against": the cases marked P, in one table with one statement.
use Rattle.base.specs.declared.Refusal.{Refusal}
use Rattle.calendar.specs.declared.Calendar.{Calendar}
use Rattle.conic.specs.declared.CentredConic.{CentredConic}
use Rattle.book.specs.declared.Motion.{Motion}
use Rattle.std.specs.Prelude.{List, [], ◌∷◌, ◌≡◌, ℕ, ◌+◌, ◌*◌, Float, Result, Ok, Err}
use Rattle.std.specs.Float.Ieee.{neg}
use Rattle.base.specs.Floats.{whole}
use Rattle.calendar.specs.Gregorian.{ymd}
use Rattle.calendar.specs.Answers.{date_answer}
use Rattle.hour.specs.Hour.{hour_answer}
use Rattle.root.specs.Root.{root_of}
use Rattle.state.specs.declared.Vector.{Vector}
use Rattle.state.specs.declared.Setting.{Setting}
use Rattle.state.specs.declared.State.{State}
use Rattle.book.specs.Position.{position_answer}
use Rattle.gravity.specs.Acceleration.{acceleration_answer}
use Rattle.conic.specs.Conic.{conic_answer}
use Rattle.conic.specs.declared.Conic.{Conic}
use Rattle.conic.specs.declared.Conic.TheVariants.{Ellipse, Hyperbola}

-- a case: the input of a public call, and its whole answer
pub data Case : Type 0 where
  -- a day count
  day : ℕ → Result Calendar Refusal → Case
  -- d whole days and t milliseconds of UT, with DUT 0
  angle : ℕ → ℕ → Result ℕ Refusal → Case
  -- the Moon at a moment, in `series_book`
  moon_at : ℕ → Result Motion Refusal → Case
  -- a book and a setting; at (2, 0, 0) from the Earth at moment 0
  pulled : List ℕ → Setting → Result Vector Refusal → Case
  -- m 8, position (2, 0, 0) and the velocity's x and y
  orbit : ℕ → ℕ → Result CentredConic Refusal → Case

-- the book without entries, of 8 bytes
abbrev pub empty_book : List ℕ
empty_book = 8 ∷ 0 ∷ 0 ∷ 0 ∷ 0 ∷ 0 ∷ 0 ∷ 0 ∷ []

-- a book of one entry: the Moon, s 5,000, L 1,000, coefficients 1, 2, 3 for X, for Y and for Z
abbrev pub series_book : List ℕ
series_book =
    104 ∷ 0 ∷ 0 ∷ 0 ∷ 1 ∷ 0 ∷ 0 ∷ 0
    ∷ 2 ∷ 0 ∷ 3 ∷ 0 ∷ 32 ∷ 0 ∷ 0 ∷ 0
    ∷ 136 ∷ 19 ∷ 0 ∷ 0 ∷ 0 ∷ 0 ∷ 0 ∷ 0
    ∷ 232 ∷ 3 ∷ 0 ∷ 0 ∷ 0 ∷ 0 ∷ 0 ∷ 0
    ∷ 0 ∷ 0 ∷ 0 ∷ 0 ∷ 0 ∷ 0 ∷ 240 ∷ 63
    ∷ 0 ∷ 0 ∷ 0 ∷ 0 ∷ 0 ∷ 0 ∷ 0 ∷ 64
    ∷ 0 ∷ 0 ∷ 0 ∷ 0 ∷ 0 ∷ 0 ∷ 8 ∷ 64
    ∷ 0 ∷ 0 ∷ 0 ∷ 0 ∷ 0 ∷ 0 ∷ 240 ∷ 63
    ∷ 0 ∷ 0 ∷ 0 ∷ 0 ∷ 0 ∷ 0 ∷ 0 ∷ 64
    ∷ 0 ∷ 0 ∷ 0 ∷ 0 ∷ 0 ∷ 0 ∷ 8 ∷ 64
    ∷ 0 ∷ 0 ∷ 0 ∷ 0 ∷ 0 ∷ 0 ∷ 240 ∷ 63
    ∷ 0 ∷ 0 ∷ 0 ∷ 0 ∷ 0 ∷ 0 ∷ 0 ∷ 64
    ∷ 0 ∷ 0 ∷ 0 ∷ 0 ∷ 0 ∷ 0 ∷ 8 ∷ 64 ∷ []

-- a book of one entry: the Moon, s 0, L 1,000, at (4, 0, 0)
abbrev pub moon_book : List ℕ
moon_book =
    80 ∷ 0 ∷ 0 ∷ 0 ∷ 1 ∷ 0 ∷ 0 ∷ 0
    ∷ 2 ∷ 0 ∷ 2 ∷ 0 ∷ 32 ∷ 0 ∷ 0 ∷ 0
    ∷ 0 ∷ 0 ∷ 0 ∷ 0 ∷ 0 ∷ 0 ∷ 0 ∷ 0
    ∷ 232 ∷ 3 ∷ 0 ∷ 0 ∷ 0 ∷ 0 ∷ 0 ∷ 0
    ∷ 0 ∷ 0 ∷ 0 ∷ 0 ∷ 0 ∷ 0 ∷ 16 ∷ 64
    ∷ 0 ∷ 0 ∷ 0 ∷ 0 ∷ 0 ∷ 0 ∷ 0 ∷ 0
    ∷ 0 ∷ 0 ∷ 0 ∷ 0 ∷ 0 ∷ 0 ∷ 0 ∷ 0
    ∷ 0 ∷ 0 ∷ 0 ∷ 0 ∷ 0 ∷ 0 ∷ 0 ∷ 0
    ∷ 0 ∷ 0 ∷ 0 ∷ 0 ∷ 0 ∷ 0 ∷ 0 ∷ 0
    ∷ 0 ∷ 0 ∷ 0 ∷ 0 ∷ 0 ∷ 0 ∷ 0 ∷ 0 ∷ []

abbrev pub at200 : Vector
at200 = record { x = whole 2; y = whole 0; z = whole 0 }

-- the Earth's coefficient 8, the Moon's as given, and all else 0
abbrev pub earth8moon : ℕ → Setting
earth8moon m =
    record {
      earth = whole 8;
      moon = whole m;
      sun = whole 0;
      venus = whole 0;
      mars = whole 0;
      jupiter = whole 0;
      dut = 0;
      j = whole 0;
      a = whole 0;
      k = whole 0;
      rule = 0;
    }

-- the same position on each axis, and the same velocity
abbrev pub all_three : Float → Float → Result Motion Refusal
all_three p v = Ok (record { place = record { x = p; y = p; z = p }; velocity = record { x = v; y = v; z = v } })

-- an acceleration along x: y and z are -0.0, because the sum starts with -g
abbrev pub along_x : Float → Result Vector Refusal
along_x x = Ok (record { x = x; y = neg (whole 0); z = neg (whole 0) })

abbrev pub moving : ℕ → ℕ → State
moving vx vy =
    record {
      moment = 0;
      centre = 1;
      x = whole 2;
      y = whole 0;
      z = whole 0;
      vx = whole vx;
      vy = whole vy;
      vz = whole 0;
      ax = whole 0;
      ay = whole 0;
      az = whole 0;
    }

abbrev pub Right : Case → Type 0
Right (day d answer) = date_answer d ≡ answer
Right (angle d t answer) = hour_answer (d * 86_400_000 + t) 0 ≡ answer
Right (moon_at t answer) = position_answer series_book 2 t ≡ answer
Right (pulled book setting answer) = acceleration_answer book setting 1 0 at200 ≡ answer
Right (orbit vx vy answer) = conic_answer (whole 8) (moving vx vy) ≡ answer

abbrev pub about1 : Conic → Result CentredConic Refusal
about1 conic = Ok (record { centre = 1; conic = conic })

abbrev pub table : List Case
table =
    day 2_922 (Ok (ymd 1958 1 1))
    ∷ day 18_321 (Ok (ymd 2000 2 29))
    ∷ day 36_524 (Ok (ymd 2049 12 31))
    ∷ day 36_525 (Err Refusal.Date)
    ∷ angle 0 0 (Ok 1_000_755_426_000)
    ∷ angle 1 0 (Ok 1_010_611_899_460)
    ∷ angle 0 86_399_999 (Ok 1_010_611_467_099)
    ∷ angle 4_322 82_951_000 (Ok 266_188_071_271)
    ∷ moon_at 5_000 (all_three (whole 2) (neg (whole 20)))
    ∷ moon_at 5_500 (all_three (neg (whole 2)) (whole 4))
    ∷ pulled empty_book (earth8moon 0) (along_x (neg (whole 2)))
    ∷ pulled moon_book (earth8moon 16) (along_x (whole 1))
    ∷ orbit 0 2 (about1 (Ellipse (whole 2) (whole 0) (whole 2) (whole 2) (whole 2)))
    ∷ orbit 0 4 (about1 (Hyperbola (neg (whole 1)) (whole 3) (whole 8) (whole 2) (root_of (whole 8))))
    ∷ orbit 2 2 (Err Refusal.Parabola)
    ∷ []

abbrev pub AllRight : List Case → Type 0
AllRight [] = Unit {0}
AllRight (case ∷ rest) = Right case × AllRight rest
