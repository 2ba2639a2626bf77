-- The whole number nearest a square root, "over whole numbers, by comparing squares".
use Rattle.std.specs.Prelude.{◌≡◌, ℕ, zero, suc, ◌+◌, ◌-◌, ◌*◌, ◌/◌, ◌%◌, ◌≤◌}
use Rattle.base.specs.Choice.{if◌then◌otherwise◌, ◌<?◌, ◌≤?◌}

-- q is the whole number nearest √n: √n lies from q - 1/2 to q + 1/2. The squares of 2q - 1 and 2q + 1 are compared with 4n. A tie would go
-- to the even q. There is no tie, because these squares are odd and 4n is even.
pub record NearestRoot (n q : ℕ) : Type 0 where
  pub from : (2 * q - 1) * (2 * q - 1) ≤ 4 * n
  pub to : 4 * n ≤ (2 * q + 1) * (2 * q + 1)
  pub from_tie : (2 * q - 1) * (2 * q - 1) ≡ 4 * n → q % 2 ≡ 0
  pub to_tie : 4 * n ≡ (2 * q + 1) * (2 * q + 1) → q % 2 ≡ 0

-- the greatest whole number whose square is at most n, for n below 4^d: twice that of n / 4, or one more
unfoldable pub whole_root : ℕ → ℕ → ℕ
whole_root zero n = 0
whole_root (suc d) n = let r = 2 * whole_root d (n / 4) in if (r + 1) * (r + 1) ≤? n then r + 1 otherwise r

-- the whole number nearest √n, for an n below 4^53
unfoldable pub nearest_root : ℕ → ℕ
unfolding whole_root
nearest_root n = let r = whole_root 53 n in if (2 * r + 1) * (2 * r + 1) <? 4 * n then r + 1 otherwise r
