-- `listing_write::lines::put_arrived` meets its contract. Assumes nothing.
use Rattle.listing_write.specs.Lines.{arrived_line}
use Rattle.listing_write.proofs.lines.put_arrived.Goals as goal

pub returns : goal.returns
unfolding arrived_line
returns c = c.put_numbered.ensures
