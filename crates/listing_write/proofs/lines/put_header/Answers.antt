-- `listing_write::lines::put_header` meets its contract. Assumes nothing.
use Rattle.listing_write.specs.Lines.{header_line}
use Rattle.listing_write.proofs.lines.put_header.Goals as goal

pub returns : goal.returns
unfolding header_line
returns c = c.put_numbered.ensures
