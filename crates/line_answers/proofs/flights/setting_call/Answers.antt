-- `line_answers::flights::setting_call` meets its contract, call by call. Assumes nothing.
use mathlib.Core.Path.{sym, ◌∙◌}
use lib.ListN.{take}
use Rattle.line_answers.specs.Calls.{pull_call, inject_call, move_call, fly_call}
use Rattle.line_answers.proofs.Rows.{is_this, not_this, is_none, no_row, pull_row, inject_row, move_row, fly_row}
use Rattle.line_answers.proofs.Numbers.{pull_taken, inject_taken, move_taken, fly_taken}
use Rattle.line_answers.proofs.flights.setting_call.Goals as goal

pub returns-then-reads : goal.returns-then-reads
returns-then-reads c = let book = c.args.book.now in
    let line = c.args.line.now in
    let v1 = c.reads.new.numbers in
    c.pull_line.ensures ∙ sym (is_this (pull_call book) (pull_row book) line _ 16 v1 c.reads.ensures c.if-reads.true (pull_taken v1 book))

pub returns-then-reads-2 : goal.returns-then-reads-2
returns-then-reads-2 c = let book = c.args.book.now in
    let line = c.args.line.now in
    let v1 = c.reads.new.numbers in
    let v2 = c.reads-2.new.numbers in
    c.inject_line.ensures ∙ sym (not_this (pull_call book) (pull_row book) line _ (take 16 v1) c.reads.ensures c.if-reads.false
    ∙ is_this (inject_call book) (inject_row book) line _ 19 v2 c.reads-2.ensures c.if-reads-2.true (inject_taken v2 book))

pub returns-then-reads-3 : goal.returns-then-reads-3
returns-then-reads-3 c = let book = c.args.book.now in
    let line = c.args.line.now in
    let v1 = c.reads.new.numbers in
    let v2 = c.reads-2.new.numbers in
    let v3 = c.reads-3.new.numbers in
    c.move_line.ensures ∙ sym (not_this (pull_call book) (pull_row book) line _ (take 16 v1) c.reads.ensures c.if-reads.false
    ∙ not_this (inject_call book) (inject_row book) line _ (take 19 v2) c.reads-2.ensures c.if-reads-2.false
    ∙ is_this (move_call book) (move_row book) line _ 23 v3 c.reads-3.ensures c.if-reads-3.true (move_taken v3 book))

pub returns-then-reads-4 : goal.returns-then-reads-4
returns-then-reads-4 c = let book = c.args.book.now in
    let line = c.args.line.now in
    let v1 = c.reads.new.numbers in
    let v2 = c.reads-2.new.numbers in
    let v3 = c.reads-3.new.numbers in
    let v4 = c.reads-4.new.numbers in
    c.fly_line.ensures ∙ sym (not_this (pull_call book) (pull_row book) line _ (take 16 v1) c.reads.ensures c.if-reads.false
    ∙ not_this (inject_call book) (inject_row book) line _ (take 19 v2) c.reads-2.ensures c.if-reads-2.false
    ∙ not_this (move_call book) (move_row book) line _ (take 23 v3) c.reads-3.ensures c.if-reads-3.false
    ∙ is_this (fly_call book) (fly_row book) line _ 30 v4 c.reads-4.ensures c.if-reads-4.true (fly_taken v4 book))

pub returns : goal.returns
returns c = let book = c.args.book.now in
    let line = c.args.line.now in
    let v1 = c.reads.new.numbers in
    let v2 = c.reads-2.new.numbers in
    let v3 = c.reads-3.new.numbers in
    let v4 = c.reads-4.new.numbers in
    sym (not_this (pull_call book) (pull_row book) line _ (take 16 v1) c.reads.ensures c.if-reads.false
    ∙ not_this (inject_call book) (inject_row book) line _ (take 19 v2) c.reads-2.ensures c.if-reads-2.false
    ∙ not_this (move_call book) (move_row book) line _ (take 23 v3) c.reads-3.ensures c.if-reads-3.false
    ∙ not_this (fly_call book) (fly_row book) line _ (take 30 v4) c.reads-4.ensures c.if-reads-4.false
    ∙ is_none (no_row book) line)
