-- `conic_formulas::eccentricity_of` meets its contract. Assumes nothing.
use Rattle.conic_formulas.specs.Orbit.{eccentricity}
use Rattle.conic_formulas.proofs.eccentricity_of.Goals as goal

pub returns-then-e2 : goal.returns-then-e2
unfolding eccentricity
returns-then-e2 c = rw c.if-e2.true

pub returns : goal.returns
unfolding eccentricity
returns c = rw c.if-e2.false c.square_root.ensures
