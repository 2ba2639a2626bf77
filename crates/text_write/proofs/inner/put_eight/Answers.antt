-- `text_write::inner::put_eight` meets its contract: two halves. Assumes nothing.
use Prim.Native.Nat.{◌*◌, ◌/◌}
use native.Mathlib.Omega.{arith}
use Rattle.text_write.proofs.Digits.{length_digits, square_again_is, halves}
use Rattle.text_write.proofs.inner.put_eight.Goals as goal

pub put_four-requires : goal.put_four-requires
put_four-requires c = (
  omega arith,
  omega arith,
  omega (
    arith,
    c.put_four-next.ensures.next,
    length_digits c.args.base 4
        (c.args.n / (c.args.base * c.args.base * (c.args.base * c.args.base))),
    c.put_four-next.auto.out,
  ),
)

pub returns : goal.returns
returns c = halves c.args.base 4 4 c.args.n _
    (square_again_is c.args.base) c.put_four-next.ensures c.put_four.ensures
