-- `line_answers::almanac::time_call` meets its contract, call by call. Assumes nothing.
use mathlib.Core.Path.{sym, ◌∙◌}
use lib.ListN.{take}
use Rattle.line_answers.specs.Calls.{hour_call, sidereal_call, date_call, day_call}
use Rattle.line_answers.proofs.Rows.{is_this, not_this, hour_row, sidereal_row, date_row, day_row}
use Rattle.line_answers.proofs.Numbers.{hour_taken, sidereal_taken, date_taken, day_taken}
use Rattle.line_answers.proofs.almanac.time_call.Goals as goal

pub returns-then-reads : goal.returns-then-reads
returns-then-reads c = let book = c.args.book.now in
    let line = c.args.line.now in
    let v1 = c.reads.new.numbers in
    c.hour_line.ensures ∙ sym (is_this hour_call (hour_row book) line _ 2 v1 c.reads.ensures c.if-reads.true (hour_taken v1))

pub returns-then-reads-2 : goal.returns-then-reads-2
returns-then-reads-2 c = let book = c.args.book.now in
    let line = c.args.line.now in
    let v1 = c.reads.new.numbers in
    let v2 = c.reads-2.new.numbers in
    c.sidereal_line.ensures ∙ sym (not_this hour_call (hour_row book) line _ (take 2 v1) c.reads.ensures c.if-reads.false
    ∙ is_this sidereal_call (sidereal_row book) line _ 3 v2 c.reads-2.ensures c.if-reads-2.true (sidereal_taken v2))

pub returns-then-reads-3 : goal.returns-then-reads-3
returns-then-reads-3 c = let book = c.args.book.now in
    let line = c.args.line.now in
    let v1 = c.reads.new.numbers in
    let v2 = c.reads-2.new.numbers in
    let v3 = c.reads-3.new.numbers in
    c.date_line.ensures ∙ sym (not_this hour_call (hour_row book) line _ (take 2 v1) c.reads.ensures c.if-reads.false
    ∙ not_this sidereal_call (sidereal_row book) line _ (take 3 v2) c.reads-2.ensures c.if-reads-2.false
    ∙ is_this date_call (date_row book) line _ 1 v3 c.reads-3.ensures c.if-reads-3.true (date_taken v3))

pub returns-then-reads-4 : goal.returns-then-reads-4
returns-then-reads-4 c = let book = c.args.book.now in
    let line = c.args.line.now in
    let v1 = c.reads.new.numbers in
    let v2 = c.reads-2.new.numbers in
    let v3 = c.reads-3.new.numbers in
    let v4 = c.reads-4.new.numbers in
    c.day_line.ensures ∙ sym (not_this hour_call (hour_row book) line _ (take 2 v1) c.reads.ensures c.if-reads.false
    ∙ not_this sidereal_call (sidereal_row book) line _ (take 3 v2) c.reads-2.ensures c.if-reads-2.false
    ∙ not_this date_call (date_row book) line _ (take 1 v3) c.reads-3.ensures c.if-reads-3.false
    ∙ is_this day_call (day_row book) line _ 3 v4 c.reads-4.ensures c.if-reads-4.true (day_taken v4))

pub returns : goal.returns
returns c = let book = c.args.book.now in
    let line = c.args.line.now in
    let v1 = c.reads.new.numbers in
    let v2 = c.reads-2.new.numbers in
    let v3 = c.reads-3.new.numbers in
    let v4 = c.reads-4.new.numbers in
    c.place_call.ensures ∙ sym (not_this hour_call (hour_row book) line _ (take 2 v1) c.reads.ensures c.if-reads.false
    ∙ not_this sidereal_call (sidereal_row book) line _ (take 3 v2) c.reads-2.ensures c.if-reads-2.false
    ∙ not_this date_call (date_row book) line _ (take 1 v3) c.reads-3.ensures c.if-reads-3.false
    ∙ not_this day_call (day_row book) line _ (take 3 v4) c.reads-4.ensures c.if-reads-4.false)
