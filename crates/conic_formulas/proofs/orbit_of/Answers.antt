-- `conic_formulas::orbit_of` meets its contract: each figure is the formula applied to the figures before it. Assumes nothing.
use lib.Ieee.{of_bits, of_int}
use Rattle.conic_formulas.specs.Orbit.{orbit}
use Rattle.conic_formulas.proofs.orbit_of.Goals as goal

pub returns : goal.returns
unfolding orbit of_bits of_int
returns c = let at-e = c.before in
    let at-nc = at-e.before in
    let at-cross = at-nc.before in
    let at-root = at-cross.before in
    let at-v2 = at-root.before in
    let at_n = at-v2.before in
    let at-velocity = at_n.before in
    rw (
      c.last_figure-last.ensures,
      at-e.eccentricity_of-e.ensures,
      at-nc.square-nc.ensures,
      at-cross.cross_product.ensures,
      at-root.square_root.ensures,
      at-v2.square-v2.ensures,
      at_n.square-n.ensures,
      at-velocity.velocity_of-velocity.ensures,
      at-velocity.position_of-position.ensures,
    )
