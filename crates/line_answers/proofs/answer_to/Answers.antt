-- `line_answers::answer_to` meets its contract, call by call. Assumes nothing.
use mathlib.Core.Path.{sym, ◌∙◌}
use lib.ListN.{take}
use Rattle.line_answers.specs.Calls.{root_call, sincos_call}
use Rattle.line_answers.proofs.Rows.{is_this, not_this, root_row, sincos_row}
use Rattle.line_answers.proofs.Numbers.{root_taken, sincos_taken}
use Rattle.line_answers.proofs.answer_to.Goals as goal

pub returns-then-reads : goal.returns-then-reads
returns-then-reads c = let book = c.args.book.now in
    let line = c.args.line.now in
    let v1 = c.reads.new.numbers in
    c.root_line.ensures ∙ sym (is_this root_call (root_row book) line _ 1 v1 c.reads.ensures c.if-reads.true (root_taken v1))

pub returns-then-reads-2 : goal.returns-then-reads-2
returns-then-reads-2 c = let book = c.args.book.now in
    let line = c.args.line.now in
    let v1 = c.reads.new.numbers in
    let v2 = c.reads-2.new.numbers in
    c.sincos_line.ensures ∙ sym (not_this root_call (root_row book) line _ (take 1 v1) c.reads.ensures c.if-reads.false
    ∙ is_this sincos_call (sincos_row book) line _ 1 v2 c.reads-2.ensures c.if-reads-2.true (sincos_taken v2))

pub returns : goal.returns
returns c = let book = c.args.book.now in
    let line = c.args.line.now in
    let v1 = c.reads.new.numbers in
    let v2 = c.reads-2.new.numbers in
    c.time_call.ensures ∙ sym (not_this root_call (root_row book) line _ (take 1 v1) c.reads.ensures c.if-reads.false
    ∙ not_this sincos_call (sincos_row book) line _ (take 1 v2) c.reads-2.ensures c.if-reads-2.false)
