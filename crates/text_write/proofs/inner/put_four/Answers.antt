-- `text_write::inner::put_four` meets its contract: two halves. Assumes nothing.
use Prim.Native.Nat.{◌*◌, ◌/◌}
use native.Mathlib.Omega.{arith}
use Rattle.text_write.proofs.Digits.{length_digits, square_is, halves}
use Rattle.text_write.proofs.inner.put_four.Goals as goal

pub put_two-requires : goal.put_two-requires
put_two-requires c = (
  omega arith,
  omega arith,
  omega
      (arith, c.put_two-next.ensures.next, length_digits c.args.base 2 (c.args.n / (c.args.base * c.args.base)), c.put_two-next.auto.out),
)

pub returns : goal.returns
returns c = halves c.args.base 2 2 c.args.n _ (square_is c.args.base)
    c.put_two-next.ensures c.put_two.ensures
