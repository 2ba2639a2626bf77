-- `compare_steps::steps_between` meets its contract. Assumes nothing.
use borrow.Author.Tests.{lt-ltb, le-ltb}
use Rattle.compare_steps.specs.Steps.{steps}
use Rattle.compare_steps.proofs.steps_between.Goals as goal

pub returns-then-p-q : goal.returns-then-p-q
unfolding steps
returns-then-p-q c = rw (← c.place_of-q.ensures, ← c.place_of-p.ensures, lt-ltb _ _ c.if-p-q.true)

pub returns : goal.returns
unfolding steps
returns c = rw (← c.place_of-q.ensures, ← c.place_of-p.ensures, le-ltb _ _ c.if-p-q.false)
