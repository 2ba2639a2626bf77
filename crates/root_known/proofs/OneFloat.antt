-- Two floats of 64 bits that are equal and above zero are one float. Assumes nothing.
use mathlib.Core.Path.{◌≡◌, refl, sym, subst}
use mathlib.Core.Bool.{true, false, false≢true, ◌&&◌}
use Prim.Native.Nat.{ℕ, ◌*◌, ◌<◌}
use native.Mathlib.Nat.{mul-pos}
use native.Mathlib.Omega.{arith}
use lib.Dec.{T, eqb, eqb→eq}
use lib.IntN.{ℤ}
use lib.Ieee.{Float, nan, inf, fin, binary64, up, down, of_bits, lt, eq, fits}
use lib.Ieee.Fits.{down_pos, and_l, and_r}
use borrow.Author.Tests.{ltb-true}
use Rattle.root_split.proofs.Tests.{null}
use Rattle.root_split.proofs.Values.{value_unique}

-- the same sign, and equal fractions
plus_plus : (m : ℕ) (e : ℤ) (n : ℕ) (d : ℤ) → T (fits binary64 (fin false m e)) → T (fits binary64 (fin false n d)) → T (eqb (m * up e * down d) (n * up d * down e) && true) →
    ◌≡◌ {A = Float} (fin false m e) (fin false n d)
plus_plus m e n d p q h =
    value_unique binary64 (fin false m e) (fin false n d) false (m * up e) (down e) (n * up d) (down d) p q (down_pos e) (down_pos d) (refl, refl) (refl, refl)
    (eqb→eq (m * up e * down d) (n * up d * down e) (and_l (eqb (m * up e * down d) (n * up d * down e)) true h))

-- of two signs only the zeros are equal
plus_minus : (a b u v : ℕ) → 0 < u → 0 < v → T (eqb (u * v) b && eqb (u * v) 0) → ⊥
plus_minus a b u v p q h =
    let z = eqb→eq (u * v) 0 (and_r (eqb (u * v) b) (eqb (u * v) 0) h) in
    omega (arith, mul-pos p q)

pub one_float : (x y : Float) → T (fits binary64 x) → T (fits binary64 y) → lt null x ≡ true → eq x y ≡ true → x ≡ y
unfolding lt eq of_bits
one_float nan y p q h k = absurd (false≢true h)
one_float (inf true) y p q h k = absurd (false≢true h)
one_float (inf false) nan p q h k = absurd (false≢true k)
one_float (inf false) (inf true) p q h k = absurd (false≢true k)
one_float (inf false) (inf false) p q h k = refl
one_float (inf false) (fin t n d) p q h k = absurd (false≢true k)
one_float (fin true m e) y p q h k = absurd (false≢true h)
one_float (fin false m e) nan p q h k = absurd (false≢true k)
one_float (fin false m e) (inf t) p q h k = absurd (false≢true k)
one_float (fin false m e) (fin true n d) p q h k =
    let l = ltb-true (0 * down e) (m * up e * 1) h in
    absurd (plus_minus 0 (n * up d * down e) (m * up e) (down d) (omega arith) (down_pos d) (subst T (sym k) tt))
one_float (fin false m e) (fin false n d) p q h k = plus_plus m e n d p q (subst T (sym k) tt)
