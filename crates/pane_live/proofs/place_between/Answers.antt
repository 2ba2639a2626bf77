-- `pane_live::place_between` meets its contract. Assumes nothing.
use Rattle.std.proofs.Common.{◌≡◌, refl}
use lib.Ieee.{binary64, of_bits, of_int, round}
use Rattle.base.specs.Floats.{whole}
use Rattle.pane_live.specs.Pane.{between}
use Rattle.pane_live.proofs.place_between.Goals as goal

thousand : of_bits binary64 0x408f_4000_0000_0000 ≡ whole 1000
unfolding of_bits of_int round
thousand = refl

pub returns : goal.returns
unfolding between
returns c = rw (c.along_cubic-3.ensures, c.along_cubic-2.ensures, c.along_cubic.ensures)
    (rw (c.to_float.ensures, c.to_float-long.ensures, thousand))
