-- `text_decimal::is_large` meets its contract. Assumes nothing.
use mathlib.Core.Path.{sym}
use borrow.Author.Tests.{le-leb, lt-leb}
use Rattle.text_decimal.proofs.Values.{large_bits}
use Rattle.text_decimal.proofs.is_large.Goals as goal

pub returns-then-bits-lt-LIMIT : goal.returns-then-bits-lt-LIMIT
returns-then-bits-lt-LIMIT c = rw (large_bits c.args.bits) (sym (lt-leb 0x426d_1a94_a200_0000 _ c.if-bits-lt-LIMIT.true))

pub returns : goal.returns
returns c = rw (large_bits c.args.bits) (sym (le-leb 0x426d_1a94_a200_0000 _ c.if-bits-lt-LIMIT.false))
