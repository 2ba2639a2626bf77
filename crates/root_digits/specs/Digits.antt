-- The state of a lane of the digit loop. A lane finds the whole root of n, one binary digit after another, from the highest down.
use Rattle.std.specs.Prelude.{◌≡◌, ℕ, ◌+◌, ◌*◌, ◌/◌, ◌%◌, ◌^◌, ◌<◌, ◌≤◌}
use Rattle.root_digits.specs.Nearest.{nearest_root}

-- The digits of weight g and above are found and make q. n is q² + w·g, and w·g is too little for another g in q. The code keeps v = 2w and
-- t = 4q + g.
pub record LaneOf (n g v t : ℕ) : Type 0 where
  pub q : ℕ
  pub w : ℕ
  pub square : q * q + w * g ≡ n
  pub rest : w < q + q + g
  pub room : q + g ≤ 2 ^ 53
  pub v_is : v ≡ w + w
  pub t_is : t ≡ 4 * q + g

-- the numbers of a lane whose weight g is a multiple of d, so that the digits down to g / d can be found
pub record Turning (d g v t : ℕ) : Type 0 where
  pub n : ℕ
  pub lane : LaneOf n g v t
  pub whole : g % d ≡ 0

-- for every n: if the lane is that of n, the next one is too, with the digits down to g / d
abbrev pub TurnsTo : (d g v t v' t' : ℕ) → Type 0
TurnsTo d g v t v' t' = (n : ℕ) → LaneOf n g v t → LaneOf n (g / d) v' t'

-- the numbers of a lane with all digits found
pub record Turned (v t : ℕ) : Type 0 where
  pub n : ℕ
  pub lane : LaneOf n 1 v t

-- for every n: if the lane is that of n, r is the whole number nearest √n
abbrev pub EndsAt : (v t r : ℕ) → Type 0
EndsAt v t r = (n : ℕ) → n < 4 ^ 53 → LaneOf n 1 v t → r ≡ nearest_root n

-- ---- lanes side by side

-- the digits of a float, or twice them: the root of m·2^52 then has 53 digits
abbrev pub HasDigits : ℕ → Type 0
HasDigits m = (2 ^ 52 ≤ m) × (m < 2 ^ 54)

-- the whole number nearest the root of m·2^52
abbrev pub nearest_of : ℕ → ℕ
nearest_of m = nearest_root (m * 2 ^ 52)
