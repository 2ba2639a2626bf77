-- `book::inner::velocity_at` meets its contract: the entry's block lies inside a book that passes. Assumes nothing.
use mathlib.Core.Path.{◌∙◌}
use Rattle.book_series.proofs.Slopes.{velocity_by_lem}
use Rattle.book.proofs.inner.velocity_at.Goals as goal

pub returns : goal.returns
returns c = let r = c.reading_at-r.ensures in c.slopes_at.ensures ∙ velocity_by_lem _ _ _ _ _ _ _ r.offset r.size r.by r.long
