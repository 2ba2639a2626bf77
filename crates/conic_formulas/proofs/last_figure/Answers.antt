-- `conic_formulas::last_figure` meets its contract. Assumes nothing.
use lib.Ieee.{of_bits, of_int}
use Rattle.conic_formulas.specs.Orbit.{last_figure}
use Rattle.conic_formulas.proofs.last_figure.Goals as goal

pub returns-then-c3 : goal.returns-then-c3
unfolding last_figure of_bits of_int
returns-then-c3 c = rw c.if-c3.true

pub returns : goal.returns
unfolding last_figure
returns c = rw c.if-c3.false c.square_root.ensures
