-- `hour::angle_by` meets its contract: one rule in each branch. Assumes nothing.
use mathlib.Core.Path.{◌≡◌, ap, ◌∙◌, sym}
use Prim.Native.Nat.{ℕ}
use native.Mathlib.Omega.{arith}
use Rattle.hour.specs.Hour.{sidereal_angle}
use Rattle.hour.proofs.angle_by.Goals as goal

pub returns-then-rule-eq0 : goal.returns-then-rule-eq0
unfolding sidereal_angle
returns-then-rule-eq0 c = let a = c.args in c.angle.ensures ∙ ap (λ (x : ℕ). sidereal_angle x a.d a.t) (sym c.if-rule-eq0.true)

pub returns : goal.returns
unfolding sidereal_angle
returns c = let a = c.before in
    let one : 1 ≡ a.args.rule = omega (arith, a.requires.0, c.if-rule-eq0.false) in
    c.angle_1982.ensures ∙ ap (λ (x : ℕ). sidereal_angle x a.args.d a.args.t) one
