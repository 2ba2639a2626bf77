-- `launch::fixed_place` meets its contract: the sine takes each angle. Assumes nothing.
use Rattle.launch.specs.Sphere.{place_of}
use Rattle.launch.proofs.fixed_place.Goals as goal

pub returns : goal.returns
unfolding place_of
returns c = rw (c.place_on.ensures, c.of_parts-t.ensures, c.of_parts-f.ensures, c.parts_of.ensures)
