-- `repair_book::marks::changed_from` meets its contract, by those of its four tests. Assumes nothing.
use borrow.Author.Rules.{rules}
use Rattle.repair_book.proofs.marks.changed_from.Goals as goal

pub u32_at-stated-requires : goal.u32_at-stated-requires
u32_at-stated-requires c = search rules

pub overflow_cast-stated : goal.overflow_cast-stated
overflow_cast-stated c = search rules

pub u32_at-count-requires : goal.u32_at-count-requires
u32_at-count-requires c = search rules

pub overflow_cast-count : goal.overflow_cast-count
overflow_cast-count c = search rules

pub as_in_contents-requires : goal.as_in_contents-requires
as_in_contents-requires c = search rules

pub offsets_stay-requires : goal.offsets_stay-requires
offsets_stay-requires c = search rules

pub returns : goal.returns
returns c = rw (← c.u32_at-stated.ensures, ← c.u32_at-count.ensures, ← c.as_in_contents.ensures)
    (rw (← c.offsets_stay.ensures, ← c.requires.all_sound.1))
