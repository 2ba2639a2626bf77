-- `launch::fixed_velocity` meets its contract: the sine takes each angle. Assumes nothing.
use Rattle.launch.specs.Sphere.{velocity_of}
use Rattle.launch.proofs.fixed_velocity.Goals as goal

pub returns : goal.returns
unfolding velocity_of
returns c = rw (
  c.relative_velocity.ensures,
  c.horizontal_velocity.ensures,
  c.of_parts-z.ensures,
  c.of_parts-g.ensures,
  c.parts_of-2.ensures,
  c.of_parts-t.ensures,
  c.of_parts-f.ensures,
  c.parts_of.ensures,
)
