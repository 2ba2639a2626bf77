-- `compare_lines::inner::turn` meets its contract. Assumes nothing.
use mathlib.Core.Path.{refl}
use native.Mathlib.Omega.{arith}
use Rattle.text_write.proofs.Writing.{nothing}
use Rattle.compare_lines.proofs.inner.turn.Goals as goal

pub compare_turn-requires : goal.compare_turn-requires
compare_turn-requires c = let p = rw c.in-Comparing.is at c.requires in (omega (arith, p.0), omega (arith, p.1))

pub first_turn-requires : goal.first_turn-requires
first_turn-requires c = let p = rw c.in-First.is at c.requires in (omega (arith, p.0), omega (arith, p.1))

pub second_turn-requires : goal.second_turn-requires
second_turn-requires c = let p = rw c.in-Second.is at c.requires in (omega (arith, p.0), omega (arith, p.1))

pub returns-in-Comparing : goal.returns-in-Comparing
returns-in-Comparing c = rw c.in-Comparing.is c.compare_turn.ensures

pub returns-in-First : goal.returns-in-First
returns-in-First c = rw c.in-First.is c.first_turn.ensures

pub returns-in-Second : goal.returns-in-Second
returns-in-Second c = rw c.in-Second.is c.second_turn.ensures

pub returns-in-Over : goal.returns-in-Over
returns-in-Over c = rw c.in-Over.is (record { stage = refl; wrote = nothing _ 0 })
