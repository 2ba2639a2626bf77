-- Document 01, "Root, sine and cosine": "IEEE 754 squareRoot of a finite non-negative float, subnormals included; each zero gives itself", stated "over whole numbers, by comparing squares".
-- `HasValue x false a c` says that x is finite, has no minus sign and is a / c.
use Rattle.base.specs.declared.Refusal.{Refusal}
use Rattle.std.specs.Prelude.{Bool, true, false, not, ◌||◌, ◌≡◌, ℕ, zero, suc, ◌*◌, ◌^◌, ◌≤◌, ◌<◌, T, pos, List, map, Float, Result, Ok, Err}
use Rattle.std.specs.Float.{nan, inf, fin, binary64}
use Rattle.std.specs.Float.Ieee.{low, lt, of_bits, fits}
use Rattle.std.specs.Float.Ieee.Scale.{finite}
use Rattle.std.specs.Float.Ieee.Exact.{HasValue}
use Rattle.std.specs.Float.Ieee.Positive.{positive}
use Rattle.base.specs.Choice.{if◌then◌otherwise◌}
pub use Rattle.root_digits.specs.Nearest.{NearestRoot}
unfoldable use Rattle.root.specs.Computed.{positive_root}

-- y is the square root of x, which is finite and above zero. x is n·4^k / 4^l, so the exact root is √n·2^k / 2^l. √n has the 53 binary
-- digits that a float keeps, and y is q·2^k / 2^l for the whole number q nearest √n. (No root is so small that a float keeps fewer digits:
-- the smallest float is 2^-1074, and its root is 2^-537.)
pub record IsRoot (x y : Float) : Type 0 where
  pub n : ℕ
  pub q : ℕ
  pub k : ℕ
  pub l : ℕ
  pub given : HasValue x false (n * 4 ^ k) (4 ^ l)
  pub least : 2 ^ 52 * 2 ^ 52 ≤ n
  pub most : n < 2 ^ 53 * 2 ^ 53
  pub nearest : NearestRoot n q
  pub answer : HasValue y false (q * 2 ^ k) (2 ^ l)

-- f takes the root of every float of 64 bits that is finite and not negative. For x above zero it returns the root by squares, which is
-- unique; "each zero gives itself".
pub record TakesRoots (f : Float → Float) : Type 0 where
  pub by_squares : (x : Float) → T (fits binary64 x) → T (positive x) → IsRoot x (f x)
  pub only : (x y : Float) → T (fits binary64 x) → T (positive x) → T (fits binary64 y) → IsRoot x y → y ≡ f x
  pub of_zero : (s : Bool) → f (fin s 0 (pos 0)) ≡ fin s 0 (pos 0)

-- The root as a function that computes. The law `root_law : TakesRoots root_of` (proofs/RootLaws) says that it is the only root by squares.
-- A float `fin s m e` is m·2^e, negative if s is true. For an x below zero or a NaN the root is a NaN, as in IEEE 754.
unfoldable pub root_of : Float → Float
unfolding positive_root
root_of nan = nan
root_of (inf true) = nan
root_of (inf false) = inf false
root_of (fin s zero e) = fin s zero e
root_of (fin true (suc m) e) = nan
root_of (fin false (suc m) e) = positive_root (low binary64) (suc m) e

-- roots side by side
abbrev pub roots_of : List Float → List Float
roots_of xs = map root_of xs

-- below zero; -0.0 is not
abbrev pub negative : Float → Bool
negative x = lt x (of_bits binary64 0)

-- refusal 11: "root of a negative or non-finite float"
unfoldable pub root_answer : Float → Result Float Refusal
root_answer x = if negative x || not (finite x) then Err Refusal.Root otherwise Ok (root_of x)
