-- Signs: a sum of squares is not negative, so its root is never refused if it is finite. The root of a float that is finite and not
-- negative is too. Assumes nothing.
use mathlib.Core.Path.{◌≡◌, refl, sym, ◌∙◌}
use mathlib.Core.Bool.{Bool, true, false, ◌||◌}
use Prim.Native.Nat.{ℕ, zero, suc, ◌+◌, ◌-◌, ◌*◌, ◌/◌, ◌^◌}
use native.Mathlib.Omega.{arith}
use lib.Dec.{T}
use lib.IntN.{ℤ}
use lib.Ieee.{Float, nan, inf, fin, Format, binary64, up, down, odd, add, mul, lt, of_bits, low}
use lib.Ieee.Scale.{finite}
use borrow.Author.Tests.{le-ltb}
use Rattle.base.specs.declared.Refusal.{Refusal}
use Rattle.std.specs.Prelude.{Ok, Err}
use Rattle.base.proofs.Clear.{clear, odd_clear, round_clear}
use Rattle.root.specs.Root.{root_of, negative, root_answer}
use Rattle.root.specs.Computed.{nearest_root, root_size, root_of_units, positive_root}
use Rattle.root_split.proofs.Tests.{number_below}

pub clear_not_negative : (x : Float) → T (clear x) → negative x ≡ false
unfolding lt of_bits
clear_not_negative nan t = refl
clear_not_negative (inf true) t = absurd t
clear_not_negative (inf false) t = refl
clear_not_negative (fin true m e) t = absurd t
clear_not_negative (fin false m e) t = le-ltb (m * up e * 1) (0 * down e) (omega arith)

-- ---- a sum of squares

odd_finite : (d q k l : ℕ) → finite (odd d false q k l) ≡ true
unfolding odd
odd_finite d zero k l = refl
odd_finite d (suc q) k l = refl

pub square_clear : (f : Format) (x : Float) → T (clear (mul f x x))
unfolding mul
square_clear f nan = tt
square_clear f (inf true) = tt
square_clear f (inf false) = tt
square_clear f (fin true m e) = round_clear f (m * up e * (m * up e)) (down e * down e)
square_clear f (fin false m e) = round_clear f (m * up e * (m * up e)) (down e * down e)

pub add_clear : (f : Format) (x y : Float) → T (clear x) → T (clear y) → T (clear (add f x y))
unfolding add
add_clear f nan y p q = tt
add_clear f (inf true) y p q = absurd p
add_clear f (inf false) nan p q = tt
add_clear f (inf false) (inf true) p q = tt
add_clear f (inf false) (inf false) p q = tt
add_clear f (inf false) (fin t n d) p q = tt
add_clear f (fin true m e) y p q = absurd p
add_clear f (fin false m e) nan p q = tt
add_clear f (fin false m e) (inf t) p q = q
add_clear f (fin false m e) (fin true n d) p q = absurd q
add_clear f (fin false m e) (fin false n d) p q = round_clear f (m * up e * down d + n * up d * down e) (down e * down d)

pub squares_not_negative : (f : Format) (x y z : Float) → negative (add f (add f (mul f x x) (mul f y y)) (mul f z z)) ≡ false
squares_not_negative f x y z =
    clear_not_negative (add f (add f (mul f x x) (mul f y y)) (mul f z z))
    (add_clear f (add f (mul f x x) (mul f y y)) (mul f z z) (add_clear f (mul f x x) (mul f y y) (square_clear f x) (square_clear f y)) (square_clear f z))

-- ---- the root

root_of_units_plain : (l N : ℕ) → (finite (root_of_units l N) ≡ true) × T (clear (root_of_units l N))
unfolding root_of_units
root_of_units_plain l N = let k = root_size N - 53 in let q = nearest_root (N / 4 ^ k) in (odd_finite 54 q k l, odd_clear 54 q k l)

positive_root_plain : (l m : ℕ) (e : ℤ) → (finite (positive_root l m e) ≡ true) × T (clear (positive_root l m e))
unfolding positive_root
positive_root_plain l m e = root_of_units_plain l (m * up e * 4 ^ l / down e)

pub root_finite : (x : Float) → finite x ≡ true → negative x ≡ false → finite (root_of x) ≡ true
unfolding root_of
root_finite nan p q = p
root_finite (inf true) p q = p
root_finite (inf false) p q = p
root_finite (fin s zero e) p q = refl
root_finite (fin true (suc m) e) p q = sym q ∙ number_below m e
root_finite (fin false (suc m) e) p q = (positive_root_plain (low binary64) (suc m) e).0

pub root_not_negative : (x : Float) → negative x ≡ false → negative (root_of x) ≡ false
unfolding root_of
root_not_negative nan q = clear_not_negative nan tt
root_not_negative (inf true) q = clear_not_negative nan tt
root_not_negative (inf false) q = q
root_not_negative (fin s zero e) q = q
root_not_negative (fin true (suc m) e) q = clear_not_negative nan tt
root_not_negative (fin false (suc m) e) q = clear_not_negative (positive_root (low binary64) (suc m) e) (positive_root_plain (low binary64) (suc m) e).1

-- ---- the answer

or_true : (b : Bool) → (b || true) ≡ true
or_true true = refl
or_true false = refl

pub refused_negative : (x : Float) → negative x ≡ true → root_answer x ≡ Err Refusal.Root
unfolding root_answer
refused_negative x p = rw p

pub refused_infinite : (x : Float) → finite x ≡ false → root_answer x ≡ Err Refusal.Root
unfolding root_answer
refused_infinite x p = rw (p, or_true)

pub not_refused : (x : Float) → finite x ≡ true → negative x ≡ false → root_answer x ≡ Ok (root_of x)
unfolding root_answer
not_refused x p q = rw (p, q)

-- a finite sum of squares is never refused
pub squares_not_refused : (f : Format) (x y z : Float) → let n = add f (add f (mul f x x) (mul f y y)) (mul f z z) in finite n ≡ true → root_answer n ≡ Ok (root_of n)
squares_not_refused f x y z p = not_refused (add f (add f (mul f x x) (mul f y y)) (mul f z z)) p (squares_not_negative f x y z)
