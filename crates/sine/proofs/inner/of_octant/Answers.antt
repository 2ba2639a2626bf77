-- `sine::inner::of_octant` meets its contract: each arm is its column of the table. Assumes nothing.
use mathlib.Core.Path.{◌≡◌, sym, ap, ◌∙◌}
use Prim.Native.Nat.{ℕ, suc, ◌≤◌, ◌<◌, zero-le}
use native.Mathlib.Omega.{arith}
use lib.Ieee.{Float}
use Rattle.sine.specs.Sine.{column}
use Rattle.sine.proofs.inner.of_octant.Goals as goal

at : (k q : ℕ) (s c : Float) → q ≡ k → column k s c ≡ column q s c
at k q s c e = sym (ap (λ (j : ℕ). column j s c) e)

-- q is at least k and is not k
past : (k q : ℕ) → k ≤ q → (q ≡ k → ⊥) → suc k ≤ q
past k q h n = omega arith

last : (q : ℕ) → q < 8 → 7 ≤ q → q ≡ 7
last q h l = omega arith

pub returns-in-0 : goal.returns-in-0
unfolding column
returns-in-0 c = let a = c.args in c.both.ensures ∙ at 0 a.q a.s a.c c.in-0.is

pub returns-in-1 : goal.returns-in-1
unfolding column
returns-in-1 c = let a = c.args in c.both-in-1.ensures ∙ at 1 a.q a.s a.c c.in-1.is

pub returns-in-2 : goal.returns-in-2
unfolding column
returns-in-2 c = let a = c.args in c.both-in-2.ensures ∙ at 2 a.q a.s a.c c.in-2.is

pub returns-in-3 : goal.returns-in-3
unfolding column
returns-in-3 c = let a = c.args in c.both-in-3.ensures ∙ at 3 a.q a.s a.c c.in-3.is

pub returns-in-4 : goal.returns-in-4
unfolding column
returns-in-4 c = let a = c.args in c.both-in-4.ensures ∙ at 4 a.q a.s a.c c.in-4.is

pub returns-in-5 : goal.returns-in-5
unfolding column
returns-in-5 c = let a = c.args in c.both-in-5.ensures ∙ at 5 a.q a.s a.c c.in-5.is

pub returns-in-6 : goal.returns-in-6
unfolding column
returns-in-6 c = let a = c.args in c.both-in-6.ensures ∙ at 6 a.q a.s a.c c.in-6.is

pub returns-in_default : goal.returns-in_default
unfolding column
returns-in_default c = let a = c.args in
    let q = a.q in
    let r = c.in_default.in_default-own.rest in
    let l3 : 3 ≤ q = past 2 q (past 1 q (past 0 q zero-le r.0.0.0.0.0.0.1) r.0.0.0.0.0.1) r.0.0.0.0.1 in
    let l7 : 7 ≤ q = past 6 q (past 5 q (past 4 q (past 3 q l3 r.0.0.0.1) r.0.0.1) r.0.1) r.1 in
    c.both-in_default.ensures ∙ at 7 q a.s a.c (last q c.requires l7)
