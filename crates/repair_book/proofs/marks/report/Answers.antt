-- `repair_book::marks::report` meets its contract. Assumes nothing.
use Rattle.repair_book.specs.Report.{report_of}
use Rattle.repair_book.proofs.marks.report.Goals as goal

pub returns : goal.returns
unfolding report_of
returns c = rw (← c.looked_at.ensures, ← c.changed_from.ensures, ← c.requires.all_sound.1)
