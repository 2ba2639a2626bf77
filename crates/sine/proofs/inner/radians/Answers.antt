-- `sine::inner::radians` meets its contract. Assumes nothing.
use mathlib.Core.Path.{refl}
use lib.Ieee.{of_bits, of_int, round}
use Rattle.sine.specs.Sine.{angle}
use Rattle.sine.proofs.inner.radians.Goals as goal

pub returns : goal.returns
unfolding angle of_bits of_int round
returns c = refl
