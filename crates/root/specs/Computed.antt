-- The root of a float above zero, computed over whole numbers. The law `root_is` (proofs/RootLaws) proves that it is the root by squares. A
-- float `fin false m e` is m·2^e, and 2^e is `up e / down e`. `size n` is how many binary digits n has. `odd 54 false q k l` is the float
-- q·2^k / 2^l, for a q of at most 54 digits.
use Rattle.std.specs.Prelude.{false, ℕ, ◌+◌, ◌-◌, ◌*◌, ◌/◌, ◌^◌, ℤ, Float}
use Rattle.std.specs.Float.Ieee.{up, down, size, odd}
unfoldable pub use Rattle.root_digits.specs.Nearest.{whole_root, nearest_root}

-- how many binary digits the whole part of √n has: half as many as n
abbrev pub root_size : ℕ → ℕ
root_size n = (size n + 1) / 2

-- The root of n / 4^l, above zero, if the smallest float is 2^-l. It is √n in units of the smallest float. A float keeps 53 digits of √n,
-- so k digits are left out. In n these are 2k digits, all zero. Rounding up can turn 53 digits into 54.
unfoldable pub root_of_units : ℕ → ℕ → Float
unfolding nearest_root size odd
root_of_units l n = let k = root_size n - 53 in odd 54 false (nearest_root (n / 4 ^ k)) k l

-- the root of m·2^e, above zero
unfoldable pub positive_root : ℕ → ℕ → ℤ → Float
unfolding root_of_units
positive_root l m e = root_of_units l (m * up e * 4 ^ l / down e)
