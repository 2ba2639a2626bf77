-- `compare_steps::place_of` meets its contract. Assumes nothing.
use borrow.Author.Tests.{lt-ltb, le-ltb}
use Rattle.compare_steps.specs.Steps.{place}
use Rattle.compare_steps.proofs.place_of.Goals as goal

pub returns-then-bits-lt9223372036854775808 : goal.returns-then-bits-lt9223372036854775808
unfolding place
returns-then-bits-lt9223372036854775808 c = rw (lt-ltb _ _ c.if-bits-lt9223372036854775808.true)

pub returns : goal.returns
unfolding place
returns c = rw (le-ltb _ _ c.if-bits-lt9223372036854775808.false)
