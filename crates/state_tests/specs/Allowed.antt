-- Document 01, "Setting, state, acceleration", and document 02, R-6, R-7 and R-8: the tests of single numbers.
use Rattle.std.specs.Prelude.{Bool, not, ◌&&◌, ◌||◌, Float, ℕ}
use Rattle.std.specs.Float.{binary64}
use Rattle.std.specs.Float.Ieee.{to_bits}
use Rattle.std.specs.Float.Ieee.Scale.{finite}
use Rattle.base.specs.Choice.{◌=?◌, ◌≤?◌}
use Rattle.base.specs.Floats.{above0, below0}

-- "by its bits": +0.0 is not -0.0, and a value that is not finite equals none
abbrev pub same_bits : Float → Float → Bool
same_bits x y = finite x && finite y && (to_bits binary64 x =? to_bits binary64 y)

-- "A body is used when its coefficient is above 0"
abbrev pub used : Float → Bool
used m = above0 m

-- "Coefficients are finite and not negative; the Earth's is above 0"
abbrev pub coefficient_allowed : Float → Bool
coefficient_allowed m = finite m && not (below0 m)

abbrev pub earth_allowed : Float → Bool
earth_allowed m = finite m && above0 m

-- "centre, 1 to 6"
abbrev pub is_body : ℕ → Bool
is_body number = (1 ≤? number) && (number ≤? 6)

-- document 02, R-7: "With K above 0 the Sun is looked up as a used body, even where its coefficient is 0 and it does not pull". A body of
-- coefficient m is looked up if it pulls or is lit.
abbrev pub looked_up : Float → Bool → Bool
looked_up m lit = used m || lit
