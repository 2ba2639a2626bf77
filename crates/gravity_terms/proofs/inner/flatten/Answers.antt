-- `gravity_terms::inner::flatten` meets its contract. Assumes nothing.
use lib.Ieee.{of_bits, of_int, round}
use Rattle.gravity_terms.proofs.inner.flatten.Goals as goal

pub returns : goal.returns
unfolding of_bits of_int round
returns c = rw (c.square-n.ensures)
