-- `gravity_bodies::beside` meets its contract. Assumes nothing.
use Rattle.gravity_bodies.specs.Looked.{besides}
use Rattle.gravity_bodies.proofs.beside.Goals as goal

pub returns : goal.returns
unfolding besides
returns g c = rw (c.either-fifth.ensures, c.either-fourth.ensures, c.either-third.ensures, c.either-second.ensures, c.either-first.ensures)
