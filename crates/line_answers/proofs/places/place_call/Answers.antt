-- `line_answers::places::place_call` meets its contract, call by call. Assumes nothing.
use mathlib.Core.Path.{sym, ◌∙◌}
use lib.ListN.{take}
use Rattle.line_answers.specs.Calls.{fixed_call, turn_call, sphere_call}
use Rattle.line_answers.proofs.Rows.{is_this, not_this, fixed_row, turn_row, sphere_row}
use Rattle.line_answers.proofs.Numbers.{fixed_taken, turn_taken, sphere_taken}
use Rattle.line_answers.proofs.places.place_call.Goals as goal

pub returns-then-reads : goal.returns-then-reads
returns-then-reads c = let book = c.args.book.now in
    let line = c.args.line.now in
    let v1 = c.reads.new.numbers in
    c.fixed_line.ensures ∙ sym (is_this fixed_call (fixed_row book) line _ 8 v1 c.reads.ensures c.if-reads.true (fixed_taken v1))

pub returns-then-reads-2 : goal.returns-then-reads-2
returns-then-reads-2 c = let book = c.args.book.now in
    let line = c.args.line.now in
    let v1 = c.reads.new.numbers in
    let v2 = c.reads-2.new.numbers in
    c.turn_line.ensures ∙ sym (not_this fixed_call (fixed_row book) line _ (take 8 v1) c.reads.ensures c.if-reads.false
    ∙ is_this turn_call (turn_row book) line _ 13 v2 c.reads-2.ensures c.if-reads-2.true (turn_taken v2))

pub returns-then-reads-3 : goal.returns-then-reads-3
returns-then-reads-3 c = let book = c.args.book.now in
    let line = c.args.line.now in
    let v1 = c.reads.new.numbers in
    let v2 = c.reads-2.new.numbers in
    let v3 = c.reads-3.new.numbers in
    c.sphere_line.ensures ∙ sym (not_this fixed_call (fixed_row book) line _ (take 8 v1) c.reads.ensures c.if-reads.false
    ∙ not_this turn_call (turn_row book) line _ (take 13 v2) c.reads-2.ensures c.if-reads-2.false
    ∙ is_this sphere_call (sphere_row book) line _ 9 v3 c.reads-3.ensures c.if-reads-3.true (sphere_taken v3))

pub returns : goal.returns
returns c = let book = c.args.book.now in
    let line = c.args.line.now in
    let v1 = c.reads.new.numbers in
    let v2 = c.reads-2.new.numbers in
    let v3 = c.reads-3.new.numbers in
    c.conic_call.ensures ∙ sym (not_this fixed_call (fixed_row book) line _ (take 8 v1) c.reads.ensures c.if-reads.false
    ∙ not_this turn_call (turn_row book) line _ (take 13 v2) c.reads-2.ensures c.if-reads-2.false
    ∙ not_this sphere_call (sphere_row book) line _ (take 9 v3) c.reads-3.ensures c.if-reads-3.false)
