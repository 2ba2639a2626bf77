-- `table_blocks::inner::go_on` meets its contract. Assumes nothing.
use Rattle.table_blocks.proofs.Reading.{byte_steps}
use Rattle.listing_scan.proofs.Taking.{takes}
use Rattle.table_blocks.proofs.inner.go_on.Goals as goal

pub returns : goal.returns
returns c = byte_steps _ _ _ _ _ _ _ c.requires.held c.if-b-eq10.false (rw c.take_byte.ensures (takes _ _))
