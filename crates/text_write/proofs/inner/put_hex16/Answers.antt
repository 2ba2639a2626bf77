-- `text_write::inner::put_hex16` meets its contract: two halves. Assumes nothing.
use Prim.Native.Nat.{◌/◌}
use native.Mathlib.Omega.{arith}
use mathlib.Core.Path.{refl}
use Rattle.text_write.proofs.Digits.{length_digits, halves}
use Rattle.text_write.proofs.inner.put_hex16.Goals as goal

pub put_eight-requires : goal.put_eight-requires
put_eight-requires c = (
  omega arith,
  omega arith,
  omega (
    arith,
    c.put_eight-next.ensures.next,
    length_digits 16 8
        (c.args.bits / 0x1_0000_0000),
    c.put_eight-next.auto.out,
  ),
)

pub returns : goal.returns
returns c = halves 16 8 8 c.args.bits 0x1_0000_0000 refl c.put_eight-next.ensures c.put_eight.ensures
