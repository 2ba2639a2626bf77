-- `text_write::inner::put_float` meets its contract, by those of what it writes. Assumes nothing.
use Rattle.text_write.specs.Numerals.{float_text}
use Rattle.text_write.proofs.inner.put_float.Goals as goal

pub returns-in-Pattern : goal.returns-in-Pattern
unfolding float_text
returns-in-Pattern c = rw (← c.bits_of-b.ensures, c.in-Pattern.is) c.put_hex16.ensures

pub returns-in-NaN : goal.returns-in-NaN
unfolding float_text
returns-in-NaN c = rw (← c.bits_of-b.ensures, c.in-NaN.is) c.put_bytes.ensures
