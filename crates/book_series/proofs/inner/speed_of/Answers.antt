-- `book_series::inner::speed_of` meets its contract. Assumes nothing.
use mathlib.Core.Path.{refl}
use lib.Ieee.{of_bits, of_int, round}
use Rattle.book_series.proofs.inner.speed_of.Goals as goal

pub returns : goal.returns
unfolding of_bits of_int round
returns c = refl
