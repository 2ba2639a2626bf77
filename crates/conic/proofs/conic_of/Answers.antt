-- `conic::conic_of` meets its contract. Assumes nothing.
use Rattle.conic.specs.Conic.{conic_of}
use Rattle.conic.proofs.conic_of.Goals as goal

pub returns-then-o : goal.returns-then-o
unfolding conic_of
returns-then-o c = rw c.if-o.true

pub returns : goal.returns
unfolding conic_of
returns c = rw c.if-o.false
