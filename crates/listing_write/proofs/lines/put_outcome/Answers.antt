-- `listing_write::lines::put_outcome` meets its contract, case by case. Assumes nothing.
use Rattle.text_write.proofs.Writing.{nothing}
use borrow.Author.Rules.{rules}
use Rattle.listing_write.proofs.lines.put_outcome.Goals as goal

pub put_arrived-requires : goal.put_arrived-requires
put_arrived-requires g c = search rules

pub put_refused-requires : goal.put_refused-requires
put_refused-requires g c = search rules

pub returns-in-Arrived : goal.returns-in-Arrived
returns-in-Arrived g c = rw c.in-Arrived.is c.put_arrived.ensures

pub returns-in-Refused : goal.returns-in-Refused
returns-in-Refused g c = rw (c.in-Refused.is, ← c.told.ensures) c.put_refused.ensures

pub returns-in-Going : goal.returns-in-Going
returns-in-Going g c = rw c.in-Going.is (nothing _ _)
