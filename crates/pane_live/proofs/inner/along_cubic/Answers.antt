-- `pane_live::inner::along_cubic` meets its contract. Assumes nothing.
use Rattle.std.proofs.Common.{refl}
use lib.Ieee.{of_bits, of_int}
use Rattle.pane_live.proofs.inner.along_cubic.Goals as goal

pub returns : goal.returns
unfolding of_bits of_int
returns c = refl
