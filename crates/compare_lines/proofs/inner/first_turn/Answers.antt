-- `compare_lines::inner::first_turn` meets its contract. Assumes nothing.
use borrow.Author.Rules.{rules}
use Rattle.compare_lines.proofs.inner.first_turn.Goals as goal

pub after_first-stage-requires : goal.after_first-stage-requires
after_first-stage-requires c = search rules

pub put_line-requires : goal.put_line-requires
put_line-requires c = search rules

pub returns : goal.returns
returns c = record { stage = c.after_first-stage.ensures; wrote = c.put_line.ensures }
