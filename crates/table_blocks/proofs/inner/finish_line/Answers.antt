-- `table_blocks::inner::finish_line` meets its contract. Assumes nothing.
use mathlib.Core.Path.{sym, ◌∙◌}
use Rattle.table_blocks.proofs.Reading.{ends_inside, ends_between}
use Rattle.table_blocks.proofs.inner.finish_line.Goals as goal

pub returns-then-has_begun : goal.returns-then-has_begun
returns-then-has_begun c = ends_inside _ _ _ _ _ _ _ (sym c.has_begun.ensures ∙ c.if-has_begun.true) c.end_line.ensures c.ended.ensures

pub returns : goal.returns
returns c = ends_between _ _ _ _ _ (sym c.has_begun.ensures ∙ c.if-has_begun.false) c.at_end.ensures
