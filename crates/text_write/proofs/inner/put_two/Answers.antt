-- `text_write::inner::put_two` meets its contract: one digit after the other. Assumes nothing.
use Rattle.text_write.proofs.Digits.{two_digits}
use Rattle.text_write.proofs.inner.put_two.Goals as goal

pub returns : goal.returns
returns c = rw (c.digit_byte.ensures, c.digit_byte-2.ensures) (two_digits _ c.args.n _ c.args.out.now c.requires.2)
