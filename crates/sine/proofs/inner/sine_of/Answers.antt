-- `sine::inner::sine_of` meets its contract: its constants compute to the coefficients. Assumes nothing.
use mathlib.Core.Path.{refl}
use lib.Ieee.{of_bits, of_int, neg, round}
use Rattle.sine.specs.Sine.{S}
use Rattle.sine.proofs.inner.sine_of.Goals as goal

pub returns : goal.returns
unfolding S of_bits of_int neg round
returns c = refl
