-- `pane_lines::answer_to` meets its contract, call by call. Assumes nothing.
use mathlib.Core.Path.{sym, ◌∙◌}
use Rattle.line_form.proofs.Reading.{is_call, no_call}
use Rattle.pane_lines.proofs.Lines.{takes, frames, clears, others}
use Rattle.pane_lines.proofs.answer_to.Goals as goal

pub returns-then-reads : goal.returns-then-reads
returns-then-reads c = let x = c.args in
    c.take_line.ensures ∙ sym (takes x.pane x.line.now c.reads.new.numbers (is_call _ _ _ c.reads.ensures c.if-reads.true))

pub returns-then-reads-2 : goal.returns-then-reads-2
returns-then-reads-2 c = let x = c.args in
    let no1 = no_call _ _ _ c.reads.ensures c.if-reads.false in
    c.frame_line.ensures ∙ sym (frames x.pane x.line.now c.reads-2.new.numbers no1 (is_call _ _ _ c.reads-2.ensures c.if-reads-2.true))

pub returns-then-reads-3 : goal.returns-then-reads-3
returns-then-reads-3 c = let x = c.args in
    let no1 = no_call _ _ _ c.reads.ensures c.if-reads.false in
    let no2 = no_call _ _ _ c.reads-2.ensures c.if-reads-2.false in
    c.clear_line.ensures ∙ sym (clears x.pane x.line.now c.reads-3.new.numbers no1 no2 (is_call _ _ _ c.reads-3.ensures c.if-reads-3.true))

pub returns : goal.returns
returns c = let x = c.args in
    let no1 = no_call _ _ _ c.reads.ensures c.if-reads.false in
    let no2 = no_call _ _ _ c.reads-2.ensures c.if-reads-2.false in
    c.run_line.ensures ∙ sym (others x.pane x.line.now c.reads-3.new.numbers no1 no2 (no_call _ _ _ c.reads-3.ensures c.if-reads-3.false))
