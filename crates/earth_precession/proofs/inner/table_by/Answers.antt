-- `earth_precession::inner::table_by` meets its contract: its constants compute to the printed coefficients. Assumes nothing.
use lib.Ieee.{of_bits, of_int, round, neg}
use Rattle.earth_precession.specs.Precession.{a11, a12, a13, a22, a23, a33, precession_by}
use Rattle.earth_precession.proofs.inner.table_by.Goals as goal

pub returns : goal.returns
unfolding precession_by a11 a12 a13 a22 a23 a33 of_bits of_int round neg
returns c = rw (
  c.cubic-a33.ensures,
  c.cubic-a23.ensures,
  c.cubic-a22.ensures,
  c.cubic-a13.ensures,
  c.cubic-a12.ensures,
  c.cubic-a11.ensures,
)
