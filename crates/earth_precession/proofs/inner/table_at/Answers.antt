-- `earth_precession::inner::table_at` meets its contract. Assumes nothing.
use Rattle.earth_precession.specs.Precession.{precession}
use Rattle.earth_precession.proofs.inner.table_at.Goals as goal

pub returns : goal.returns
unfolding precession
returns c = rw (c.table_by.ensures, c.centuries_at.ensures)
