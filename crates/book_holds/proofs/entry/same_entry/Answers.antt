-- `book_holds::entry::same_entry` meets its contract: the fields, and then the coefficients. Assumes nothing.
use native.Mathlib.Omega.{arith}
use Rattle.book.proofs.Passing.{passing, contents_inside, block_inside}
use Rattle.book_holds.proofs.Reaching.{told_yes}
use Rattle.book_holds.proofs.entry.same_entry.Goals as goal

pub same_fields-requires : goal.same_fields-requires
same_fields-requires c = let p = contents_inside _ (passing _ c.requires.first_value.0) in
    let q = contents_inside _ (passing _ c.requires.first_value.1) in
    (omega arith, omega arith)

pub size_of-n-requires : goal.size_of-n-requires
size_of-n-requires c = let p = contents_inside _ (passing _ c.requires.first_value.0) in omega arith

pub offset_of-at-requires : goal.offset_of-at-requires
offset_of-at-requires c = let p = contents_inside _ (passing _ c.requires.first_value.0) in omega arith

pub offset_of-place-requires : goal.offset_of-place-requires
offset_of-place-requires c = let q = contents_inside _ (passing _ c.requires.first_value.1) in omega arith

pub same_bits-requires : goal.same_bits-requires
same_bits-requires c = let fields = told_yes _ c.if-not-same_fields.false c.same_fields.ensures in
    let p = passing _ c.requires.first_value.0 in
    let q = passing _ c.requires.first_value.1 in
    let in_first_lem = block_inside _ p _ c.requires.i_bound.0 in
    let in-second = block_inside _ q _ c.requires.i_bound.1 in
    let first-place = p.placed _ c.requires.i_bound.0 in
    let second-place = q.placed _ c.requires.i_bound.1 in
    let same = fields.size in
    let n = c.size_of-n.ensures.0 in
    let from = c.offset_of-at.ensures.0 in
    let to = c.offset_of-place.ensures.0 in
    (omega arith, omega arith)
