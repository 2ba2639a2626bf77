-- `listing_write::lines::put_spaced` meets its contract. Assumes nothing.
use Rattle.text_write.proofs.Writing.{both}
use Rattle.listing_write.proofs.lines.put_spaced.Goals as goal

pub returns : goal.returns
returns c = both c.put_bytes-next.ensures c.put_float.ensures
