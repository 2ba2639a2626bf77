-- `pane_motion::motion_along` meets its contract. Assumes nothing.
use mathlib.Core.Path.{◌≡◌, refl}
use lib.Ieee.{binary64, of_bits, of_int, round}
use Rattle.base.specs.Floats.{whole}
use Rattle.pane_live.specs.Pane.{between}
use Rattle.pane_motion.specs.Motion.{rate_between}
use Rattle.pane_motion.proofs.motion_along.Goals as goal

thousand : of_bits binary64 0x408f_4000_0000_0000 ≡ whole 1000
unfolding of_bits of_int round
thousand = refl

pub returns : goal.returns
unfolding between rate_between
returns c = rw (
  c.rate_of-3.ensures,
  c.rate_of-2.ensures,
  c.rate_of.ensures,
  c.along_cubic-3.ensures,
  c.along_cubic-2.ensures,
  c.along_cubic.ensures,
  c.to_float.ensures,
  c.to_float-long.ensures,
  thousand,
)
