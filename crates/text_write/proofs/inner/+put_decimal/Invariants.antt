-- The measure of `text_write::inner::put_decimal` is n.
use Rattle.text_write.proofs.inner.+put_decimal.Given as goal

abbrev pub decreases-put_decimal : goal.decreases-put_decimal
decreases-put_decimal l = l.n
