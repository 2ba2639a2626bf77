-- `state_tests::bits_agree` meets its contract. Assumes nothing.
use mathlib.Core.Bool.{true, not, true≢false}
use mathlib.Core.Path.{◌≡◌, sym, ◌∙◌}
use lib.Dec.{T}
use lib.Ieee.{Float, nan, inf, fin, is_nan}
use lib.Ieee.Scale.{finite}
use Rattle.state_tests.proofs.bits_agree.Goals as goal

number : (x : Float) → finite x ≡ true → T (not (is_nan x))
unfolding is_nan
number nan h = absurd (true≢false (sym h))
number (inf s) h = tt
number (fin s m e) h = tt

pub float_to_bits-result : goal.float_to_bits-result
float_to_bits-result c = number c.args.x (sym c.is_finite.ensures ∙ c.if-is_finite.true)

pub float_to_bits-result-then-is_finite-2 : goal.float_to_bits-result-then-is_finite-2
float_to_bits-result-then-is_finite-2 c = number c.args.y (sym c.is_finite-then-is_finite.ensures ∙ c.if-is_finite-2.true)
