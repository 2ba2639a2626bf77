-- `line_answers::flights::book_call` meets its contract, call by call. Assumes nothing.
use mathlib.Core.Path.{sym, ◌∙◌}
use lib.ListN.{take}
use Rattle.line_answers.specs.Calls.{body_call, accel_call, run_call}
use Rattle.line_answers.proofs.Rows.{is_this, not_this, body_row, accel_row, run_row}
use Rattle.line_answers.proofs.Numbers.{body_taken, accel_taken, run_taken}
use Rattle.line_answers.proofs.flights.book_call.Goals as goal

pub returns-then-reads : goal.returns-then-reads
returns-then-reads c = let book = c.args.book.now in
    let line = c.args.line.now in
    let v1 = c.reads.new.numbers in
    c.body_line.ensures ∙ sym (is_this (body_call book) (body_row book) line _ 2 v1 c.reads.ensures c.if-reads.true (body_taken v1 book))

pub returns-then-reads-2 : goal.returns-then-reads-2
returns-then-reads-2 c = let book = c.args.book.now in
    let line = c.args.line.now in
    let v1 = c.reads.new.numbers in
    let v2 = c.reads-2.new.numbers in
    c.accel_line.ensures ∙ sym (not_this (body_call book) (body_row book) line _ (take 2 v1) c.reads.ensures c.if-reads.false
    ∙ is_this (accel_call book) (accel_row book) line _ 11 v2 c.reads-2.ensures c.if-reads-2.true (accel_taken v2 book))

pub returns-then-reads-3 : goal.returns-then-reads-3
returns-then-reads-3 c = let book = c.args.book.now in
    let line = c.args.line.now in
    let v1 = c.reads.new.numbers in
    let v2 = c.reads-2.new.numbers in
    let v3 = c.reads-3.new.numbers in
    c.run_line.ensures ∙ sym (not_this (body_call book) (body_row book) line _ (take 2 v1) c.reads.ensures c.if-reads.false
    ∙ not_this (accel_call book) (accel_row book) line _ (take 11 v2) c.reads-2.ensures c.if-reads-2.false
    ∙ is_this (run_call book) (run_row book) line _ 22 v3 c.reads-3.ensures c.if-reads-3.true (run_taken v3 book))

pub returns : goal.returns
returns c = let book = c.args.book.now in
    let line = c.args.line.now in
    let v1 = c.reads.new.numbers in
    let v2 = c.reads-2.new.numbers in
    let v3 = c.reads-3.new.numbers in
    c.setting_call.ensures ∙ sym (not_this (body_call book) (body_row book) line _ (take 2 v1) c.reads.ensures c.if-reads.false
    ∙ not_this (accel_call book) (accel_row book) line _ (take 11 v2) c.reads-2.ensures c.if-reads-2.false
    ∙ not_this (run_call book) (run_row book) line _ (take 22 v3) c.reads-3.ensures c.if-reads-3.false)
