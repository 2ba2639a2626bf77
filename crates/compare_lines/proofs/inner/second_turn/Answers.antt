-- `compare_lines::inner::second_turn` meets its contract. Assumes nothing.
use borrow.Author.Rules.{rules}
use Rattle.compare_lines.proofs.inner.second_turn.Goals as goal

pub after_second-stage-requires : goal.after_second-stage-requires
after_second-stage-requires c = search rules

pub put_line-requires : goal.put_line-requires
put_line-requires c = search rules

pub returns : goal.returns
returns c = record { stage = c.after_second-stage.ensures; wrote = c.put_line.ensures }
