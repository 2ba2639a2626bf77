-- The slopes of the series, a coefficient at a time. Assumes nothing.
use Prim.Native.Nat.{ℕ, suc, ◌+◌, ◌-◌, ◌*◌, ◌<◌, ◌≤◌}
use mathlib.Core.List.{List}
use mathlib.Core.Path.{◌≡◌, ap}
use lib.Ieee.{Float}
use native.Mathlib.Omega.{arith}
use Rattle.base.specs.Floats.{whole}
use Rattle.book_check.specs.Contents.{float_of, offset_of, size_of, start_of, span_of}
use Rattle.book_series.specs.Series.{clenshaw, slopes, slope, speed, listed, block_of, velocity_by, argument, velocity}
use Rattle.book_series.specs.Axis.{axis_none, axis_turn, axis_speed, axis_of}
use Rattle.book_series.specs.declared.Velocity.{Velocity}
use Rattle.book_series.specs.declared.inner.Axis.{Axis}

module _ (w : Float) (f : ℕ → Float) where
  none : (j n : ℕ) → axis_none ≡ axis_of w (listed f j (n - n))
  unfolding clenshaw slopes
  none j n = let z : n - n ≡ 0 = omega arith in rw z

  -- m coefficients from j' on are done, and then the one before
  more : (j j' m m' : ℕ) (a : Axis) → suc j ≡ j' → suc m ≡ m' → a ≡ axis_of w (listed f j' m) → axis_turn w (f j) a ≡ axis_of w (listed f j m')
  unfolding clenshaw slopes
  more j j' m m' a e e' h = rw (← e') (ap (axis_turn w (f j)) (rw e h))

  fast : (L : Float) (j j' m m' : ℕ) (a : Axis) → suc j ≡ j' → suc m ≡ m' → a ≡ axis_of w (listed f j' m) → axis_speed w L a ≡ speed w L (listed f j m')
  unfolding slope
  fast L j j' m m' a e e' h = let all : a ≡ axis_of w (listed f (suc j) m) = rw e h in rw (← e') (ap (axis_speed w L) all)

  -- the coefficients from k on of each axis are done, of n
  pub record Sloped (n k : ℕ) (x y z : Axis) : Type 0 where
    pub some : 1 ≤ k
    pub within : k ≤ n
    pub by_x : x ≡ axis_of w (listed f k (n - k))
    pub by_y : y ≡ axis_of w (listed f (n + k) (n - k))
    pub by_z : z ≡ axis_of w (listed f (2 * n + k) (n - k))

  pub no_slope : (n : ℕ) → 1 ≤ n → Sloped n n axis_none axis_none axis_none
  no_slope n l = record { some = l; within = omega arith; by_x = none n n; by_y = none (n + n) n; by_z = none (2 * n + n) n }

  module _ (n k : ℕ) (x y z : Axis) (d : Sloped n k x y z) where
    pub one_slope : 1 < k → Sloped n (k - 1) (axis_turn w (f (k - 1)) x) (axis_turn w (f (n + (k - 1))) y) (axis_turn w (f (2 * n + (k - 1))) z)
    one_slope l =
        record {
          some = omega arith;
          within = omega arith;
          by_x = more (k - 1) k (n - k) (n - (k - 1)) x (omega arith) (omega arith) d.by_x;
          by_y = more (n + (k - 1)) (n + k) (n - k) (n - (k - 1)) y (omega arith) (omega arith) d.by_y;
          by_z = more (2 * n + (k - 1)) (2 * n + k) (n - k) (n - (k - 1)) z (omega arith) (omega arith) d.by_z;
        }

    pub last_slope_lem : (L : Float) → k ≤ 1 → ◌≡◌ {A = Velocity} (record { x = axis_speed w L x; y = axis_speed w L y; z = axis_speed w L z }) (velocity_by (block_of f n) w L)
    last_slope_lem L l =
        let e : k ≡ 1 = omega arith in
        rw (
          fast L 0 k (n - k) n x (omega arith) (omega arith) d.by_x,
          fast L n (n + k) (n - k) n y (omega arith) (omega arith) d.by_y,
          fast L (2 * n) (2 * n + k) (n - k) n z (omega arith) (omega arith) d.by_z,
        )

pub velocity_by_lem : (b : List ℕ) (i t offset n : ℕ) (w L : Float) → offset ≡ offset_of b i → n ≡ size_of b i → w ≡ argument (start_of b i) (span_of b i) t → L ≡ whole (span_of b i)
    → velocity_by (block_of (float_of b offset) n) w L ≡ velocity b i t
unfolding velocity
velocity_by_lem b i t offset n w L e e' h h' = simp (e, e', h, h')
