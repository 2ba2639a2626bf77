-- What the code keeps of one body from turn to turn: b(k) and b(k+1) of X, Y and Z. The laws in proofs/Turns.antt prove that the result is
-- `place_by`.
use Rattle.std.specs.Prelude.{ℕ, ◌+◌, ◌*◌, Float}
use Rattle.base.specs.Floats.{◌⊕◌, ◌⊖◌, ◌⊗◌, zero64}
use Rattle.book_series.specs.declared.Place.{Place}
use Rattle.book_series.specs.declared.inner.Sums.{Sums}

abbrev pub sums_none : Sums
sums_none = record { x = zero64; x1 = zero64; y = zero64; y1 = zero64; z = zero64; z1 = zero64 }

-- with coefficient k of each axis in front, if `double` is 2w. f gives the block: n floats for X, then Y, then Z
abbrev pub sums_turn : Float → (ℕ → Float) → ℕ → ℕ → Sums → Sums
sums_turn double f n k s =
    record {
      x = (double ⊗ s.x ⊖ s.x1) ⊕ f k;
      x1 = s.x;
      y = (double ⊗ s.y ⊖ s.y1) ⊕ f (n + k);
      y1 = s.y;
      z = (double ⊗ s.z ⊖ s.z1) ⊕ f (2 * n + k);
      z1 = s.z;
    }

-- with coefficient 0
abbrev pub sums_place : Float → (ℕ → Float) → ℕ → Sums → Place
sums_place w f n s =
    record {
      x = (w ⊗ s.x ⊖ s.x1) ⊕ f 0;
      y = (w ⊗ s.y ⊖ s.y1) ⊕ f n;
      z = (w ⊗ s.z ⊖ s.z1) ⊕ f (2 * n);
    }
