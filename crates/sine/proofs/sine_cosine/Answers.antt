-- `sine::sine_cosine` meets its contract. Assumes nothing.
use borrow.Author.Tests.{lt-ltb, le-ltb}
use Rattle.sine.specs.Sine.{sine_cosine_answer}
use Rattle.sine.proofs.sine_cosine.Goals as goal

pub returns-then-parts-lt-CIRCLE : goal.returns-then-parts-lt-CIRCLE
unfolding sine_cosine_answer
returns-then-parts-lt-CIRCLE c = simp (lt-ltb _ _ c.if-parts-lt-CIRCLE.true, c.of_parts.ensures)

pub returns : goal.returns
unfolding sine_cosine_answer
returns c = simp (le-ltb _ _ c.if-parts-lt-CIRCLE.false)
