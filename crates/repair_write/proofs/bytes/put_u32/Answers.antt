-- `repair_write::bytes::put_u32` meets its contract: four bytes, the lowest first. Assumes nothing.
use native.Mathlib.Omega.{arith}
use mathlib.Core.Path.{◌∙◌}
use Rattle.repair_write.proofs.Texts.{four_bytes}
use Rattle.repair_write.proofs.bytes.put_u32.Goals as goal

pub returns : goal.returns
returns c = four_bytes _ _ _ _ _ (omega arith) (c.copy_from_slice.ensures.after ∙ c.to_le_bytes.ensures)
