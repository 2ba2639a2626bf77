-- `listing_write::lines::put_numbered` meets its contract: three texts, one after the other. Assumes nothing.
use native.Mathlib.Omega.{arith}
use Rattle.text_write.proofs.Writing.{both}
use Rattle.text_write.proofs.Decimal.{decimal_fits}
use Rattle.listing_write.proofs.lines.put_numbered.Goals as goal

pub put_decimal-end-requires : goal.put_decimal-end-requires
put_decimal-end-requires c = omega (arith, decimal_fits c.args.n (omega arith), c.put_bytes-number)

pub put_bytes-requires : goal.put_bytes-requires
put_bytes-requires c = omega (arith, decimal_fits c.args.n (omega arith), c.put_bytes-number, c.put_decimal-end)

pub returns : goal.returns
returns c = both (both c.put_bytes-number.ensures c.put_decimal-end.ensures) c.put_bytes.ensures
