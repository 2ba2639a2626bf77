-- `listing_write::lines::put_vector` meets its contract. Assumes nothing.
use native.Mathlib.Omega.{arith}
use Rattle.text_write.proofs.Writing.{both}
use Rattle.listing_write.specs.Lines.{vector_text}
use Rattle.listing_write.proofs.Lengths.{spaced_fits}
use Rattle.listing_write.proofs.lines.put_vector.Goals as goal

pub put_spaced-y-requires : goal.put_spaced-y-requires
put_spaced-y-requires c = omega (arith, c.put_spaced-x, spaced_fits c.args.v.x)

pub put_spaced-requires : goal.put_spaced-requires
put_spaced-requires c = let v = c.args.v in
    omega (arith, c.put_spaced-y, spaced_fits v.y, c.put_spaced-x, spaced_fits v.x)

pub returns : goal.returns
unfolding vector_text
returns c = both (both c.put_spaced-x.ensures c.put_spaced-y.ensures) c.put_spaced.ensures
