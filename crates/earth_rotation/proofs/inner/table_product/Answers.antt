-- `earth_rotation::inner::table_product` meets its contract, row by row. Assumes nothing.
use Rattle.earth_rotation.specs.Rotation.{product}
use Rattle.earth_rotation.proofs.inner.table_product.Goals as goal

pub returns : goal.returns
unfolding product
returns c = rw (c.row_product-3.ensures, c.row_product-2.ensures, c.row_product.ensures)
