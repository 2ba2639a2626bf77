-- `pane_live::feed_by` meets its contract. Assumes nothing.
use Rattle.std.proofs.Common.{rules}
use Rattle.pane_live.proofs.feed_by.Goals as goal

pub take-requires : goal.take-requires
take-requires g c = search rules

pub take-requires-in-Going : goal.take-requires-in-Going
take-requires-in-Going g c = search rules

pub returns-in-Arrived : goal.returns-in-Arrived
returns-in-Arrived g c = rw c.in-Arrived.is c.take.ensures

pub returns-in-Going : goal.returns-in-Going
returns-in-Going g c = rw c.in-Going.is c.take-in-Going.ensures

pub returns-in-Refused : goal.returns-in-Refused
returns-in-Refused g c = rw c.in-Refused.is
