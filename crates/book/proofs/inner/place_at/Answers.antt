-- `book::inner::place_at` meets its contract: the entry's block lies inside a book that passes. Assumes nothing.
use mathlib.Core.Path.{◌∙◌}
use Rattle.book_series.proofs.Turns.{place_by_lem}
use Rattle.book.proofs.inner.place_at.Goals as goal

pub returns : goal.returns
returns c = let r = c.reading_at-r.ensures in c.series_at.ensures ∙ place_by_lem _ _ _ _ _ _ r.offset r.size r.by
