-- `earth_rotation::inner::row_product` meets its contract, column by column. Assumes nothing.
use Rattle.earth_rotation.specs.Rotation.{column, row_product}
use Rattle.earth_rotation.proofs.inner.row_product.Goals as goal

pub returns : goal.returns
unfolding row_product column
returns c = rw (c.row_times-3.ensures, c.row_times-2.ensures, c.row_times.ensures)
