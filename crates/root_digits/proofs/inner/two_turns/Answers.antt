-- `root_digits::inner::two_turns` meets its contract. Assumes nothing.
use Rattle.std.proofs.Common.{◌≡◌, ℕ, ◌/◌, ◌%◌, arith}
use Rattle.root_digits.proofs.Turns.{at}
use Rattle.root_digits.proofs.inner.two_turns.Goals as goal

even : (g : ℕ) → g % 4 ≡ 0 → g % 2 ≡ 0
even g h = omega arith

half-even : (g : ℕ) → g % 4 ≡ 0 → g / 2 % 2 ≡ 0
half-even g h = omega arith

quarter : (g : ℕ) → g / 2 / 2 ≡ g / 4
quarter g = omega arith

pub turn-requires : goal.turn-requires
turn-requires c = record { n = c.requires.n; lane = c.requires.lane; whole = even _ c.requires.whole }

pub turn-requires-2 : goal.turn-requires-2
turn-requires-2 c = let p = c.requires in record { n = p.n; lane = c.turn.ensures p.n p.lane; whole = half-even _ p.whole }

pub returns : goal.returns
returns c = λ n l. at (quarter _) (c.turn-2.ensures n (c.turn.ensures n l))
