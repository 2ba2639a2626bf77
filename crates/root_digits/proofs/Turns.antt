-- The lanes of the digit loop, and its weights: powers of four, from 2^52 down to 1. Assumes nothing.
use Rattle.std.proofs.Common.{List, get_or, ◌≡◌, ℕ, suc, ◌+◌, ◌-◌, ◌*◌, ◌/◌, ◌%◌, ◌^◌, ◌<◌, ◌≤◌, ap, ◌∙◌, subst, arith}
use native.Mathlib.Nat.{pow-succ'}
use Rattle.root_digits.specs.declared.Lane.{Lane}
use Rattle.root_digits.specs.Digits.{LaneOf, Turning, Turned, EndsAt}
use Rattle.root_digits.specs.Nearest.{nearest_root}

-- the weight before turn k
abbrev pub weight : ℕ → ℕ
weight k = 4 ^ (26 - k)

quarter : (k : ℕ) → k < 26 → weight k ≡ 4 * weight (k + 1)
quarter k h = let e : 26 - k ≡ suc (26 - (k + 1)) = omega arith in ap (λ (z : ℕ). 4 ^ z) e ∙ pow-succ' 4 (26 - (k + 1))

pub next : (k g : ℕ) → g ≡ weight k → k < 26 → g / 4 ≡ weight (k + 1)
next k g e h = omega (arith, quarter k h)

whole : (k g : ℕ) → g ≡ weight k → k < 26 → g % 4 ≡ 0
whole k g e h = omega (arith, quarter k h)

pub turning : {n g v t : ℕ} (k : ℕ) → LaneOf n g v t → g ≡ weight k → k < 26 → Turning 4 g v t
turning {n} {g} k l e h = record { n = n; lane = l; whole = whole k g e h }

-- a lane whose weight is written differently
pub at : {n g h v t : ℕ} → g ≡ h → LaneOf n g v t → LaneOf n h v t
at {n} {g} {h} {v} {t} e l = subst (λ (z : ℕ). LaneOf n z v t) e l

-- after the last turn the weight is 1
ended : {n g v t : ℕ} (k : ℕ) → LaneOf n g v t → g ≡ weight k → 26 ≤ k → LaneOf n 1 v t
ended k l e h = let z : 26 - k ≡ 0 = omega arith in at (e ∙ ap (λ (i : ℕ). 4 ^ i) z) l

pub turned : {n g v t : ℕ} (k : ℕ) → LaneOf n g v t → g ≡ weight k → 26 ≤ k → Turned v t
turned {n} k l e h = record { n = n; lane = ended k l e h }

pub found : {m g v t r : ℕ} (k : ℕ) → EndsAt v t r → m < 2 ^ 54 → LaneOf (m * 2 ^ 52) g v t → g ≡ weight k → 26 ≤ k → r ≡ nearest_root (m * 2 ^ 52)
found {m} k f b l e h = f (m * 2 ^ 52) (omega arith) (ended k l e h)

-- ---- lanes side by side

-- the lane at k is that of m·2^52, for the number m at k
abbrev pub AtLane : List ℕ → ℕ → List Lane → ℕ → Type 0
AtLane ms g lanes k = (d : Lane) → LaneOf (get_or ms k 0 * 2 ^ 52) g (get_or lanes k d).v (get_or lanes k d).t
