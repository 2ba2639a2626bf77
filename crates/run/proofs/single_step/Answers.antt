-- `run::single_step` meets its contract. Assumes nothing.
use mathlib.Core.Path.{◌∙◌}
use Rattle.run.proofs.Start.{late}
use Rattle.run.proofs.single_step.Goals as goal

pub returns : goal.returns
returns c = c.run-2.ensures ∙ late _ _ _ _ _ _ _ _ c.if-state-lt-END_OF_TIME.false
