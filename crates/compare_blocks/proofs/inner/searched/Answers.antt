-- `compare_blocks::inner::searched` meets its contract. Assumes nothing.
use mathlib.Core.Path.{refl}
use Rattle.compare_blocks.proofs.Readings.{looks}
use Rattle.compare_blocks.proofs.inner.searched.Goals as goal

pub returns : goal.returns
returns c = looks _ _ _ _ c.requires c.next_row-next.ensures refl refl refl refl
