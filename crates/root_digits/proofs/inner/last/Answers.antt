-- `root_digits::inner::last` meets its contract. Assumes nothing.
use Rattle.std.proofs.Common.{◌≡◌, ℕ, ◌+◌, ◌*◌, ◌/◌, ◌^◌, ◌<◌, ◌≤◌, Bool, ltb, sym, ap, ◌∙◌, subst, mul-one, arith, le-ltb, lt-ltb}
use Rattle.base.specs.Choice.{if◌then◌otherwise◌}
use Rattle.root_digits.specs.Nearest.{nearest_root}
use Rattle.root_digits.specs.Digits.{LaneOf}
use Rattle.root_digits.proofs.WholeRoots.{nearest_root_by}
use Rattle.root_digits.proofs.inner.last.Goals as goal

by : (n v t : ℕ) → n < 4 ^ 53 → LaneOf n 1 v t → nearest_root n ≡ if ltb (t / 4) (v / 2) then t / 4 + 1 otherwise t / 4
by n v t h l =
    let q : l.q ≡ t / 4 = omega arith in
    let w : l.w ≡ v / 2 = omega arith in
    let e : l.q * l.q + l.w ≡ n = ap (λ (z : ℕ). l.q * l.q + z) (sym (mul-one l.w)) ∙ l.square in
    nearest_root_by n (t / 4) (v / 2) h (subst (λ (z : ℕ). z * z + v / 2 ≡ n) q (subst (λ (z : ℕ). l.q * l.q + z ≡ n) w e)) (omega arith)

up : (n v t : ℕ) → n < 4 ^ 53 → LaneOf n 1 v t → t / 4 < v / 2 → t / 4 + 1 ≡ nearest_root n
up n v t h l p = sym (by n v t h l ∙ ap (λ (b : Bool). if b then t / 4 + 1 otherwise t / 4) (lt-ltb (t / 4) (v / 2) p))

down : (n v t : ℕ) → n < 4 ^ 53 → LaneOf n 1 v t → v / 2 ≤ t / 4 → t / 4 ≡ nearest_root n
down n v t h l p = sym (by n v t h l ∙ ap (λ (b : Bool). if b then t / 4 + 1 otherwise t / 4) (le-ltb (t / 4) (v / 2) p))

pub returns-then-q-w : goal.returns-then-q-w
returns-then-q-w c = λ n h l. up n _ _ h l c.if-q-w.true

pub returns-else-q-w : goal.returns-else-q-w
returns-else-q-w c = λ n h l. down n _ _ h l c.if-q-w.false
