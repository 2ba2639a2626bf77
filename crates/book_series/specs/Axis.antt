-- What the code keeps of one axis from turn to turn: b(k), b(k+1), d(k), d(k+1). The laws in proofs/Slopes.antt prove that the result is
-- `speed`.
use Rattle.std.specs.Prelude.{List, Float}
use Rattle.base.specs.Floats.{◌⊗◌, ◌⊘◌, zero64, whole}
use Rattle.book_series.specs.Series.{Pair, turn, clenshaw, slope_turn, last_slope, slopes}
use Rattle.book_series.specs.declared.inner.Axis.{Axis}

abbrev pub axis_by : Pair → Pair → Axis
axis_by b d = record { here = b.here; next = b.next; slope = d.here; after = d.next }

abbrev pub values : Axis → Pair
values a = record { here = a.here; next = a.next }

abbrev pub slopes_of : Axis → Pair
slopes_of a = record { here = a.slope; next = a.after }

abbrev pub axis_none : Axis
axis_none = record { here = zero64; next = zero64; slope = zero64; after = zero64 }

-- with one more coefficient in front
abbrev pub axis_turn : Float → Float → Axis → Axis
axis_turn w c a = axis_by (turn w c (values a)) (slope_turn w (values a) (slopes_of a))

abbrev pub axis_speed : Float → Float → Axis → Float
axis_speed w L a = (last_slope w (values a) (slopes_of a) ⊗ whole 2000) ⊘ L

-- everything computed from the coefficients after these
abbrev pub axis_of : Float → List Float → Axis
axis_of w cs = axis_by (clenshaw w cs) (slopes w cs)
