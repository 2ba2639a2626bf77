-- `listing_write::lines::put_refused` meets its contract: three texts, one after the other. Assumes nothing.
use native.Mathlib.Omega.{arith}
use Rattle.text_write.proofs.Writing.{both}
use Rattle.text_write.proofs.Decimal.{decimal_fits}
use Rattle.listing_write.specs.Lines.{refused_line}
use Rattle.listing_write.proofs.lines.put_refused.Goals as goal

pub put_decimal-count-requires : goal.put_decimal-count-requires
put_decimal-count-requires c = omega (arith, decimal_fits c.args.refusal (omega arith), decimal_fits c.args.steps (omega arith), c.put_bytes-number)

pub put_numbered-requires : goal.put_numbered-requires
put_numbered-requires c = omega (arith, decimal_fits c.args.refusal (omega arith), decimal_fits c.args.steps (omega arith), c.put_bytes-number, c.put_decimal-count)

pub returns : goal.returns
unfolding refused_line
returns c = both (both c.put_bytes-number.ensures c.put_decimal-count.ensures) c.put_numbered.ensures
