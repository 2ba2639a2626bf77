-- `listing_read::feed::to_feed` meets its contract. Assumes nothing.
use mathlib.Core.Path.{sym, ◌∙◌}
use Rattle.listing_read.proofs.Whole.{not_begun, whole_line}
use Rattle.listing_read.proofs.feed.to_feed.Goals as goal

pub returns-in-Some : goal.returns-in-Some
returns-in-Some c = let start = c.args in
    rw (c.row_in.ensures, not_begun start.scan (sym c.has_begun.ensures ∙ c.if-has_begun.false))
    (sym (whole_line start.block.now start.at _ (sym c.state_line.ensures ∙ c.in-Some.is)))
