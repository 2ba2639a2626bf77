-- `table_blocks::inner::put_refused` meets its contract. Assumes nothing.
use native.Mathlib.Omega.{arith}
use Rattle.text_write.proofs.Writing.{both}
use Rattle.text_write.proofs.Decimal.{decimal_fits}
use Rattle.table_blocks.specs.Table.{refused_text}
use Rattle.table_blocks.proofs.inner.put_refused.Goals as goal

pub put_decimal-behind-requires : goal.put_decimal-behind-requires
put_decimal-behind-requires c = omega (arith, c.put_bytes-first, decimal_fits c.args.number (omega arith))

pub put_bytes-second-requires : goal.put_bytes-second-requires
put_bytes-second-requires c = omega (arith, c.put_decimal-behind, c.put_bytes-first, decimal_fits c.args.number (omega arith))

pub put_decimal-end-requires : goal.put_decimal-end-requires
put_decimal-end-requires c = let k = decimal_fits c.args.number (omega arith) in let l = decimal_fits c.args.line (omega arith) in
    omega (arith, c.requires, c.put_bytes-second, c.put_decimal-behind, c.put_bytes-first)

pub put_bytes-requires : goal.put_bytes-requires
put_bytes-requires c = let k = decimal_fits c.args.number (omega (arith, c.ranges)) in let l = decimal_fits c.args.line (omega (arith, c.ranges)) in
    omega (arith, c.requires, c.put_decimal-end, c.put_bytes-second, c.put_decimal-behind, c.put_bytes-first)

pub returns : goal.returns
unfolding refused_text
returns c = let two = both c.put_bytes-first.ensures c.put_decimal-behind.ensures in
    let four = both (both two c.put_bytes-second.ensures) c.put_decimal-end.ensures in
    both four c.put_bytes.ensures
