-- `compare_blocks::inner::filled` meets its contract. Assumes nothing.
use mathlib.Core.Path.{sym, ◌∙◌}
use Rattle.compare_blocks.proofs.Readings.{stays}
use borrow.Author.Rules.{rules}
use Rattle.compare_blocks.proofs.inner.filled.Goals as goal

pub waits-requires : goal.waits-requires
waits-requires c = search rules

pub searched-requires : goal.searched-requires
searched-requires c = sym c.waits.ensures ∙ c.if-waits.true

pub returns-then-waits : goal.returns-then-waits
returns-then-waits c = c.searched.ensures

pub returns : goal.returns
returns c = stays _ _ (sym c.waits.ensures ∙ c.if-waits.false)
