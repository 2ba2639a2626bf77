-- `line_answers::places::conic_call` meets its contract, call by call. Assumes nothing.
use mathlib.Core.Path.{sym, ◌∙◌}
use lib.ListN.{take}
use Rattle.line_answers.specs.Calls.{conic_call, orbit_call}
use Rattle.line_answers.proofs.Rows.{is_this, not_this, conic_row, orbit_row}
use Rattle.line_answers.proofs.Numbers.{conic_taken, orbit_taken}
use Rattle.line_answers.proofs.places.conic_call.Goals as goal

pub returns-then-reads : goal.returns-then-reads
returns-then-reads c = let book = c.args.book.now in
    let line = c.args.line.now in
    let v1 = c.reads.new.numbers in
    c.conic_line.ensures ∙ sym (is_this conic_call (conic_row book) line _ 7 v1 c.reads.ensures c.if-reads.true (conic_taken v1))

pub returns-then-reads-2 : goal.returns-then-reads-2
returns-then-reads-2 c = let book = c.args.book.now in
    let line = c.args.line.now in
    let v1 = c.reads.new.numbers in
    let v2 = c.reads-2.new.numbers in
    c.orbit_line.ensures ∙ sym (not_this conic_call (conic_row book) line _ (take 7 v1) c.reads.ensures c.if-reads.false
    ∙ is_this orbit_call (orbit_row book) line _ 12 v2 c.reads-2.ensures c.if-reads-2.true (orbit_taken v2))

pub returns : goal.returns
returns c = let book = c.args.book.now in
    let line = c.args.line.now in
    let v1 = c.reads.new.numbers in
    let v2 = c.reads-2.new.numbers in
    c.book_call.ensures ∙ sym (not_this conic_call (conic_row book) line _ (take 7 v1) c.reads.ensures c.if-reads.false
    ∙ not_this orbit_call (orbit_row book) line _ (take 12 v2) c.reads-2.ensures c.if-reads-2.false)
