-- Document 01, "The ephemeris book": the Chebyshev series by Clenshaw, from the numbers and coefficients of an entry. Document 02, R-5: its
-- slope.
use Rattle.std.specs.Prelude.{ℕ, zero, suc, ◌+◌, ◌*◌, ◌<◌, ◌≤◌, List, [], ◌∷◌, pos, ◌-ℤ◌, ◌*ℤ◌, Float}
use Rattle.std.specs.Float.{binary64}
use Rattle.std.specs.Float.Ieee.{of_bits, of_int}
use Rattle.base.specs.Floats.{◌⊕◌, ◌⊖◌, ◌⊗◌, ◌⊘◌, zero64, whole}
use Rattle.base.specs.Limits.{end_of_time}
use Rattle.book_check.specs.Contents.{size_of, start_of, span_of, coefficient}
use Rattle.book_series.specs.declared.Place.{Place}
use Rattle.book_series.specs.declared.Velocity.{Velocity}

-- 2w: the bits are those of 2.0
abbrev pub twice : Float → Float
twice w = of_bits binary64 0x4000_0000_0000_0000 ⊗ w

-- "w = (2(t - s) - L) as a float, divided by L"
unfoldable pub argument : ℕ → ℕ → ℕ → Float
argument start span t =
    of_int binary64 (pos 2 *ℤ (pos t -ℤ pos start) -ℤ pos span) ⊘ whole span

-- t lies in the span of an allowed entry: what computing `argument` relies on
pub record InSpan (start span t : ℕ) : Type 0 where
  pub from : start ≤ t
  pub until : t < start + span
  pub ends : start + span ≤ end_of_time

-- b(k) and b(k+1)
pub record Pair : Type 0 where
  pub here : Float
  pub next : Float

-- "b(k) = ((2w)·b(k+1) - b(k+2)) + c(k)"
abbrev pub turn : Float → Float → Pair → Pair
turn w c b = record { here = (twice w ⊗ b.here ⊖ b.next) ⊕ c; next = b.here }

-- "starting with two zeros", for the coefficients c(k), c(k+1), .. to the last
unfoldable pub clenshaw : Float → List Float → Pair
clenshaw w [] = record { here = zero64; next = zero64 }
clenshaw w (c ∷ cs) = turn w c (clenshaw w cs)

-- "value = (w·b(1) - b(2)) + c(0)"
abbrev pub last_turn : Float → Float → Pair → Float
last_turn w c b = (w ⊗ b.here ⊖ b.next) ⊕ c

unfoldable pub series : Float → List Float → Float
series w [] = zero64
series w (c ∷ cs) = last_turn w c (clenshaw w cs)

-- Document 02, R-5, "the time derivative of the same series": "With b as in document 01, d(k) = ((2·b(k+1) + (2w)·d(k+1)) - d(k+2))"
abbrev pub slope_turn : Float → Pair → Pair → Pair
slope_turn w b d = record { here = (twice b.here ⊕ twice w ⊗ d.here) ⊖ d.next; next = d.here }

-- d(k) and d(k+1), starting with two zeros as b does, over the same coefficients
unfoldable pub slopes : Float → List Float → Pair
slopes w [] = record { here = zero64; next = zero64 }
slopes w (c ∷ cs) = slope_turn w (clenshaw w cs) (slopes w cs)

-- "and slope = (b(1) + w·d(1)) - d(2)"
abbrev pub last_slope : Float → Pair → Pair → Float
last_slope w b d = (b.here ⊕ w ⊗ d.here) ⊖ d.next

unfoldable pub slope : Float → List Float → Float
slope w [] = zero64
slope w (c ∷ cs) = last_slope w (clenshaw w cs) (slopes w cs)

-- "times 2000 divided by L as two operations": in km/s
abbrev pub speed : Float → Float → List Float → Float
speed w L cs = (slope w cs ⊗ whole 2000) ⊘ L

-- the coefficients of an entry
pub record Block : Type 0 where
  pub xs : List Float
  pub ys : List Float
  pub zs : List Float

abbrev pub place_by : Block → Float → Place
place_by c w = record { x = series w c.xs; y = series w c.ys; z = series w c.zs }

abbrev pub velocity_by : Block → Float → Float → Velocity
velocity_by c w L = record { x = speed w L c.xs; y = speed w L c.ys; z = speed w L c.zs }

-- everything that an entry says about its body
pub record Content : Type 0 where
  pub start : ℕ
  pub span : ℕ
  pub block : Block

abbrev pub place_in : Content → ℕ → Place
place_in e t = place_by e.block (argument e.start e.span t)

abbrev pub velocity_in : Content → ℕ → Velocity
velocity_in e t = velocity_by e.block (argument e.start e.span t) (whole e.span)

-- f k, f (k + 1), ..: n values
abbrev pub listed : (ℕ → Float) → ℕ → ℕ → List Float
listed f k zero = []
listed f k (suc n) = f k ∷ listed f (suc k) n

-- "n floats for X, then Y, then Z"
abbrev pub block_of : (ℕ → Float) → ℕ → Block
block_of f n = record { xs = listed f 0 n; ys = listed f n n; zs = listed f (2 * n) n }

abbrev pub content_of : List ℕ → ℕ → Content
content_of b i = record { start = start_of b i; span = span_of b i; block = block_of (coefficient b i) (size_of b i) }

-- the position by entry i at t, in km from the Earth
unfoldable pub place : List ℕ → ℕ → ℕ → Place
place b i t = place_in (content_of b i) t

-- and the velocity, in km/s
unfoldable pub velocity : List ℕ → ℕ → ℕ → Velocity
velocity b i t = velocity_in (content_of b i) t
