-- `book::inner::two_places_at` meets its contract: the block of each entry lies inside a book that passes. Assumes nothing.
use Rattle.book_series.proofs.Turns.{place_by_lem}
use Rattle.book.proofs.inner.two_places_at.Goals as goal

pub returns : goal.returns
returns c = let r = c.reading_at-r.ensures in
    let s = c.reading_at-s.ensures in
    let two = c.two_series_at.ensures in
    record { first_value = rw two.first_value (place_by_lem _ _ _ _ _ _ r.offset r.size r.by); second_value = rw two.second_value (place_by_lem _ _ _ _ _ _ s.offset s.size s.by) }
