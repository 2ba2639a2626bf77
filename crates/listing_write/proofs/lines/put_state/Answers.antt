-- `listing_write::lines::put_state` meets its contract: four texts, one after the other. Assumes nothing.
use native.Mathlib.Omega.{arith}
use Rattle.text_write.proofs.Writing.{both}
use Rattle.text_write.proofs.Decimal.{decimal_fits}
use Rattle.listing_write.specs.Lines.{state_line}
use Rattle.listing_write.proofs.Lengths.{vector_fits}
use Rattle.listing_write.proofs.lines.put_state.Goals as goal

pub put_decimal-moment-requires : goal.put_decimal-moment-requires
put_decimal-moment-requires c = omega (arith, decimal_fits c.args.s.moment (omega arith))

pub put_vector-position-requires : goal.put_vector-position-requires
put_vector-position-requires c = omega (arith, c.put_decimal-moment, decimal_fits c.args.s.moment (omega arith))

pub put_vector-velocity-requires : goal.put_vector-velocity-requires
put_vector-velocity-requires c = let m = decimal_fits c.args.s.moment (omega (arith, c)) in
    omega (arith, c.put_decimal-moment, c.put_vector-position, vector_fits c.position_of.result)

pub put_bytes-requires : goal.put_bytes-requires
put_bytes-requires c = let m = decimal_fits c.args.s.moment (omega (arith, c)) in
    let p = vector_fits c.position_of.result in let v = vector_fits c.velocity_of.result in
    omega (arith, c.requires, c.put_decimal-moment, c.put_vector-position, c.put_vector-velocity)

pub returns : goal.returns
unfolding state_line
returns c = let p = rw c.position_of.ensures at c.put_vector-position.ensures in
    let v = rw c.velocity_of.ensures at c.put_vector-velocity.ensures in
    both (both (both c.put_decimal-moment.ensures p) v) c.put_bytes.ensures
