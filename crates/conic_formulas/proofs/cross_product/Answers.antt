-- `conic_formulas::cross_product` meets its contract, operation by operation. Assumes nothing.
use mathlib.Core.Path.{refl}
use Rattle.conic_formulas.specs.Orbit.{cross}
use Rattle.conic_formulas.proofs.cross_product.Goals as goal

pub returns : goal.returns
unfolding cross
returns c = refl
