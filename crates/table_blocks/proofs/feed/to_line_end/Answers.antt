-- `table_blocks::feed::to_line_end` meets its contract. Assumes nothing.
use Rattle.table_blocks.specs.Onward.{ahead_of}
use Rattle.table_blocks.proofs.feed.to_line_end.Goals as goal

pub returns-in-Going : goal.returns-in-Going
unfolding ahead_of
returns-in-Going c = rw c.in-Going.is c.line_ahead.ensures

pub returns-in-Refused : goal.returns-in-Refused
unfolding ahead_of
returns-in-Refused c = rw c.in-Refused.is
