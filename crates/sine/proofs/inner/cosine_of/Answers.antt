-- `sine::inner::cosine_of` meets its contract: its constants compute to the coefficients. Assumes nothing.
use mathlib.Core.Path.{refl}
use lib.Ieee.{of_bits, of_int, neg, round}
use Rattle.sine.specs.Sine.{C}
use Rattle.sine.proofs.inner.cosine_of.Goals as goal

pub returns : goal.returns
unfolding C of_bits of_int neg round
returns c = refl
