-- `root_digits::inner::turn` meets its contract. With h half of g, the digit of weight h is 1 if (q + h)² is at most n, which is 4q + g ≤
-- 4w. Assumes nothing.
use Rattle.std.proofs.Common.{◌≡◌, ℕ, ◌+◌, ◌-◌, ◌*◌, ◌/◌, ◌%◌, ◌^◌, ◌<◌, ◌≤◌, sym, ap, ◌∙◌, mul_comm, add-mul, mul-add, arith}
use Rattle.root_digits.specs.Digits.{LaneOf, Turning}
use Rattle.root_digits.proofs.inner.turn.Goals as goal

unset : (n g h v t : ℕ) → g ≡ h + h → LaneOf n g v t → v + v < t → LaneOf n h (v + v) (t - h)
unset n g h v t e l p =
    let q = l.q in
    let w = l.w in
    let s : w * g ≡ (w + w) * h = ap (λ (z : ℕ). w * z) e ∙ mul-add w h h ∙ sym (add-mul w w h) in
    record { q = q; w = w + w; square = ap (λ (z : ℕ). q * q + z) (sym s) ∙ l.square; rest = omega arith; room = omega arith; v_is = omega arith; t_is = omega arith }

set : (n g h v t d : ℕ) → g ≡ h + h → LaneOf n g v t → d + t ≡ v + v → LaneOf n h d (t + g + h)
set n g h v t d e l p =
    let q = l.q in
    let w = l.w in
    let u = w + w - (q + q + h) in
    let U : u + (q + q + h) ≡ w + w = omega arith in
    let a : u * h + (q * h + q * h + h * h) ≡ w * h + w * h =
    sym (add-mul u (q + q + h) h ∙ ap (λ (z : ℕ). u * h + z) (add-mul (q + q) h h ∙ ap (λ (z : ℕ). z + h * h) (add-mul q q h))) ∙ ap (λ (z : ℕ). z * h) U ∙ add-mul w w h in
    let b : w * g ≡ w * h + w * h = ap (λ (z : ℕ). w * z) e ∙ mul-add w h h in
    let f : (q + h) * (q + h) ≡ q * q + h * q + (q * h + h * h) = mul-add (q + h) q h ∙ ap (λ (z : ℕ). z + (q + h) * h) (add-mul q h q) ∙ ap (λ (z : ℕ). q * q + h * q + z) (add-mul q h h) in
    record { q = q + h; w = u; square = omega (arith, mul_comm h q); rest = omega arith; room = omega arith; v_is = omega arith; t_is = omega arith }

record Bounds (g v t : ℕ) : Type 0 where
  small : v + v < 2 ^ 57
  trial : t ≤ 2 ^ 55
  half : g ≡ g / 2 + g / 2
  within : g ≤ t

bounds : (g v t : ℕ) → Turning 2 g v t → Bounds g v t
bounds g v t p = apart p.n p.lane p.whole
  where
    apart : (n : ℕ) → LaneOf n g v t → g % 2 ≡ 0 → Bounds g v t
    apart n l e = record { small = omega arith; trial = omega arith; half = omega arith; within = omega arith }

-- the sign of the wrapped difference
negative : (d v t : ℕ) → (d + t) % 2 ^ 64 ≡ v → d < 2 ^ 64 → v < 2 ^ 57 → t ≤ 2 ^ 55 → 2 ^ 63 ≤ d → v < t
negative d v t e f a b s = omega arith

positive : (d v t : ℕ) → (d + t) % 2 ^ 64 ≡ v → v < 2 ^ 57 → t ≤ 2 ^ 55 → d < 2 ^ 63 → d + t ≡ v
positive d v t e a b s = omega arith

pub returns-then-d-ge9223372036854775808 : goal.returns-then-d-ge9223372036854775808
returns-then-d-ge9223372036854775808 c = let b = bounds _ _ _ c.requires in
    λ n l. unset n _ _ _ _ b.half l (negative _ _ _ c.wrapping_sub_u64-d.ensures.value (omega arith) b.small b.trial c.if-d-ge9223372036854775808.true)

pub returns : goal.returns
returns c = let b = bounds _ _ _ c.requires in
    λ n l. set n _ _ _ _ _ b.half l (positive _ _ _ c.wrapping_sub_u64-d.ensures.value b.small b.trial c.if-d-ge9223372036854775808.false)
