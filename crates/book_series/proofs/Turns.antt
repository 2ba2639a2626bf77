-- The series, a coefficient at a time. Assumes nothing.
use Prim.Native.Nat.{ℕ, suc, ◌+◌, ◌-◌, ◌*◌, ◌<◌, ◌≤◌}
use mathlib.Core.Bool.{true}
use mathlib.Core.List.{List}
use mathlib.Core.Path.{◌≡◌, ap}
use lib.Ieee.{Float}
use lib.Ieee.Scale.{finite}
use native.Mathlib.Omega.{arith}
use Rattle.book_check.specs.Contents.{float_of, offset_of, size_of, start_of, span_of}
use Rattle.book_check.specs.Check.{floats_finite}
use Rattle.base.specs.Floats.{zero64}
use Rattle.book_series.specs.Series.{Pair, twice, turn, last_turn, clenshaw, series, listed, block_of, place_by, argument, place}
use Rattle.book_series.specs.Sums.{sums_none, sums_turn, sums_place}
use Rattle.book_series.specs.declared.inner.Sums.{Sums}
use Rattle.book_check.proofs.Below.{every}

abbrev pair : Float → Float → Pair
pair x y = record { here = x; next = y }

module _ (w : Float) (f : ℕ → Float) where
  none : (j n : ℕ) → pair zero64 zero64 ≡ clenshaw w (listed f j (n - n))
  unfolding clenshaw
  none j n = let z : n - n ≡ 0 = omega arith in rw z

  -- m coefficients from j' on are done, and then the one before
  more : (j j' m m' : ℕ) (x y : Float) → suc j ≡ j' → suc m ≡ m' → pair x y ≡ clenshaw w (listed f j' m) → turn w (f j) (pair x y) ≡ clenshaw w (listed f j m')
  unfolding clenshaw
  more j j' m m' x y e e' h = rw (← e') (ap (turn w (f j)) (rw e h))

  last : (j j' m m' : ℕ) (x y : Float) → suc j ≡ j' → suc m ≡ m' → pair x y ≡ clenshaw w (listed f j' m) → last_turn w (f j) (pair x y) ≡ series w (listed f j m')
  unfolding series
  last j j' m m' x y e e' h = rw (← e') (ap (last_turn w (f j)) (rw e h))

  -- the coefficients from k on of each axis are done, of n: s has b(k) and b(k+1)
  pub record Done (n k : ℕ) (s : Sums) : Type 0 where
    pub some : 1 ≤ k
    pub within : k ≤ n
    pub by_x : pair s.x s.x1 ≡ clenshaw w (listed f k (n - k))
    pub by_y : pair s.y s.y1 ≡ clenshaw w (listed f (n + k) (n - k))
    pub by_z : pair s.z s.z1 ≡ clenshaw w (listed f (2 * n + k) (n - k))

  pub no_turn : (n : ℕ) → 1 ≤ n → Done n n sums_none
  no_turn n l = record { some = l; within = omega arith; by_x = none n n; by_y = none (n + n) n; by_z = none (2 * n + n) n }

  module _ (n k : ℕ) (s : Sums) (d : Done n k s) where
    pub one_turn : 1 < k → Done n (k - 1) (sums_turn (twice w) f n (k - 1) s)
    one_turn l =
        record {
          some = omega arith;
          within = omega arith;
          by_x = more (k - 1) k (n - k) (n - (k - 1)) s.x s.x1 (omega arith) (omega arith) d.by_x;
          by_y = more (n + (k - 1)) (n + k) (n - k) (n - (k - 1)) s.y s.y1 (omega arith) (omega arith) d.by_y;
          by_z = more (2 * n + (k - 1)) (2 * n + k) (n - k) (n - (k - 1)) s.z s.z1 (omega arith) (omega arith) d.by_z;
        }

    pub last_turn_lem : k ≤ 1 → sums_place w f n s ≡ place_by (block_of f n) w
    last_turn_lem l =
        let e : k ≡ 1 = omega arith in
        rw (
          last 0 k (n - k) n s.x s.x1 (omega arith) (omega arith) d.by_x,
          last n (n + k) (n - k) n s.y s.y1 (omega arith) (omega arith) d.by_y,
          last (2 * n) (2 * n + k) (n - k) n s.z s.z1 (omega arith) (omega arith) d.by_z,
        )

module _ (b : List ℕ) (offset : ℕ) where
  pub float_finite : (n k : ℕ) → floats_finite b offset n ≡ true → k < n → finite (float_of b offset k) ≡ true
  float_finite n k h l = every n (λ k. finite (float_of b offset k)) h k l

pub place_by_lem : (b : List ℕ) (i t offset n : ℕ) (w : Float) → offset ≡ offset_of b i → n ≡ size_of b i → w ≡ argument (start_of b i) (span_of b i) t →
    place_by (block_of (float_of b offset) n) w ≡ place b i t
unfolding place
place_by_lem b i t offset n w e e' h = simp (e, e', h)
