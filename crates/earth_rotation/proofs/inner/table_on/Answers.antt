-- `earth_rotation::inner::table_on` meets its contract: the sine takes every hour angle. Assumes nothing.
use Rattle.earth_rotation.specs.Rotation.{rotation}
use Rattle.earth_rotation.proofs.Accepted.{Accepted, accepted}
use Rattle.earth_rotation.proofs.inner.table_on.Goals as goal

pub of_parts-of-requires : goal.of_parts-of-requires
of_parts-of-requires c = ((let at_start : Accepted c.args.rule c.args.moment c.args.dut c.args.parts = accepted _ _ _ _ c.requires in at_start)).in_circle

pub returns : goal.returns
unfolding rotation
returns c = rw (
  c.table_product.ensures,
  c.table_at.ensures,
  c.turn_table.ensures,
  c.of_parts-of.ensures,
  ((let at_start : Accepted c.args.rule c.args.moment c.args.dut c.args.parts = accepted _ _ _ _ c.requires in at_start)).angle,
)
