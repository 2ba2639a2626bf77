-- `earth_rotation::inner::table_times` meets its contract, row by row. Assumes nothing.
use Rattle.earth_rotation.specs.Rotation.{times}
use Rattle.earth_rotation.proofs.inner.table_times.Goals as goal

pub returns : goal.returns
unfolding times
returns c = let at_second = c.before in
    rw (at_second.row_times.ensures, at_second.row_times-2.ensures, c.row_times-3.ensures)
