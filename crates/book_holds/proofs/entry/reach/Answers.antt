-- `book_holds::entry::reach` meets its contract. The invariant: the entries below `next` come before the entry. Assumes nothing.
use native.Mathlib.Omega.{arith}
use Rattle.book.proofs.Passing.{passing, contents_inside}
use Rattle.book_holds.proofs.entry.reach.Goals as goal

pub u32_at-count-requires : goal.u32_at-count-requires
u32_at-count-requires c = let q = contents_inside _ (passing _ c.requires.first_value.1) in omega arith

pub comes_before-requires : goal.comes_before-requires
comes_before-requires c = let p = contents_inside _ (passing _ c.requires.first_value.0) in
    let q = contents_inside _ (passing _ c.requires.first_value.1) in
    let e = c.u32_at-count.ensures in
    (omega arith, omega arith)
