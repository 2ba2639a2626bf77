-- The roots of the floats that are not finite and above zero. Assumes nothing.
use mathlib.Core.Path.{◌≡◌, refl, sym, ◌∙◌}
use mathlib.Core.Bool.{true, false, true≢false, false≢true}
use Prim.Native.Nat.{zero, suc, ◌+◌, ◌*◌}
use native.Mathlib.Omega.{arith}
use lib.Ieee.{Float, nan, inf, fin, binary64, up, down, of_bits, lt, sub}
use borrow.Author.Tests.{ltb-true}
use Rattle.root_split.proofs.Tests.{null, top, number_above, number_below}
use Rattle.root.specs.Root.{root_of}

pub root_infinity : (x : Float) → lt null x ≡ true → lt x top ≡ false → top ≡ root_of x
unfolding lt of_bits root_of
root_infinity nan h k = absurd (false≢true h)
root_infinity (inf true) h k = absurd (false≢true h)
root_infinity (inf false) h k = refl
root_infinity (fin s m e) h k = absurd (true≢false k)

pub root_negative : (x : Float) → lt x null ≡ true → sub binary64 top top ≡ root_of x
unfolding lt sub of_bits root_of
root_negative nan h = refl
root_negative (inf true) h = refl
root_negative (inf false) h = absurd (false≢true h)
root_negative (fin true zero e) h = let l = ltb-true 0 (0 * up e * 1 + 0 * down e) h in absurd (omega arith)
root_negative (fin true (suc m) e) h = refl
root_negative (fin false m e) h = let l = ltb-true (m * up e * 1) (0 * down e) h in absurd (omega arith)

pub root_null : (x : Float) → lt x null ≡ false → lt null x ≡ false → x ≡ root_of x
unfolding lt of_bits root_of
root_null nan h k = refl
root_null (inf true) h k = absurd (true≢false h)
root_null (inf false) h k = absurd (true≢false k)
root_null (fin s zero e) h k = refl
root_null (fin true (suc m) e) h k = absurd (true≢false (sym (number_below m e) ∙ h))
root_null (fin false (suc m) e) h k = absurd (true≢false (sym (number_above m e) ∙ k))
