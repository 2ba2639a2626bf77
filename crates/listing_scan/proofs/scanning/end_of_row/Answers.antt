-- `listing_scan::scanning::end_of_row` meets its contract. Assumes nothing.
use Rattle.listing_scan.proofs.Bytes.{end_row, end_short}
use Rattle.listing_scan.proofs.scanning.end_of_row.Goals as goal

pub returns-then-more-eq0 : goal.returns-then-more-eq0
returns-then-more-eq0 c = end_row _ _ c.if-more-eq0.true

pub returns : goal.returns
returns c = end_short _ _ c.if-more-eq0.false
