-- `compare_text::inner::put_numbered` meets its contract: two texts, one after the other. Assumes nothing.
use native.Mathlib.Omega.{arith}
use Rattle.text_write.proofs.Writing.{both}
use Rattle.text_write.proofs.Decimal.{decimal_fits}
use Rattle.compare_text.proofs.inner.put_numbered.Goals as goal

pub put_decimal-requires : goal.put_decimal-requires
put_decimal-requires c = omega (
  arith,
  decimal_fits c.args.n (omega arith),
  c.put_bytes-number.ensures.next,
  c.put_bytes-number.auto.out,
)

pub returns : goal.returns
returns c = record {
  wrote = both c.put_bytes-number.ensures c.put_decimal.ensures;
  short = omega (arith, decimal_fits c.args.n (omega arith), c.put_bytes-number.ensures.next, c.put_decimal.ensures.next);
}
