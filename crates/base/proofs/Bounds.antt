-- Bounds of floats go through one rounding. If the exact result of an operation is at most n / d in size, and n / d is itself a float, the
-- rounded result is too. One law for each operation. Assumes nothing.
use mathlib.Core.Path.{◌≡◌, refl, sym, ap, ◌∙◌, subst}
use mathlib.Core.Bool.{Bool, true, false, ◌&&◌, ◌||◌, beq, cond, true≢false}
use Prim.Native.Nat.{ℕ, zero, suc, ◌+◌, ◌-◌, ◌*◌, ◌^◌, ◌≤◌, ◌<◌}
use native.Mathlib.Nat.{le_trans, le_of_eq, le_of_mul-le-mul_right, add-le-add, zero-lt-suc, mul_comm, mul_assoc, mul-one, one-mul, mul_right_comm}
use native.Mathlib.Nat.{mul-mul-mul_comm, mul-le-mul, mul-le-mul_right, mul-pos, add-mul}
use native.Mathlib.Omega.{arith}
use lib.Dec.{T, ltb, eqb, ltb→lt, eqb→eq, lit≤}
use lib.Pow.{pow_pos, pow-add, pow-lt, shl_lt}
use borrow.Author.Tests.{ne_eqb}
use lib.Ieee.{Float, nan, inf, fin, binary64, low, up, down, unlike, odd, units, round, sum, neg, add, mul, div, le}
use lib.Ieee.Fits.{down_pos, up_pos, round_is}
use lib.Ieee.Scale.{finite, overflow}
use lib.Ieee.Exact.{HasValue, round_exact}
use lib.Ieee.Order.{round_mono, transfer, drop, kept}
use Rattle.base.proofs.Clear.{clear, round_clear}

-- x is finite and at most n / d in size
abbrev pub Within : ℕ → ℕ → Float → Type 0
Within n d nan = ⊥
Within n d (inf s) = ⊥
Within n d (fin s m e) = m * up e * d ≤ n * down e

-- n / d is a float
pub record Held (n d : ℕ) : Type 0 where
  pub divides : 0 < d
  pub exact : HasValue (round binary64 false n d) false n d

pub within_finite : (n d : ℕ) (x : Float) → Within n d x → finite x ≡ true
within_finite n d nan h = absurd h
within_finite n d (inf s) h = absurd h
within_finite n d (fin s m e) h = refl

-- ---- floats to bound by: 2^i / 2^k, and the whole numbers below 2^53

units_of : (l i k : ℕ) → k ≤ l → 2 ^ i * 2 ^ l ≡ 1 * 2 ^ (l - k + i) * 2 ^ k
units_of l i k h =
    let e : i + l ≡ l - k + i + k = omega arith in
    sym (pow-add 2 i l) ∙ ap (λ (z : ℕ). 2 ^ z) e ∙ pow-add 2 (l - k + i) k ∙ ap (λ (z : ℕ). z * 2 ^ k) (sym (one-mul (2 ^ (l - k + i))))

below_top : (l e i k : ℕ) → i ≤ e → 1 * 2 ^ (l - k + i) < 2 ^ (l + suc e)
below_top l e i k h =
    let g : l - k + i < l + suc e = omega arith in
    le_trans (le_of_eq (ap suc (one-mul (2 ^ (l - k + i))))) (pow-lt g)

pub power_held : (i k : ℕ) → i ≤ 1023 → k ≤ 1074 → Held (2 ^ i) (2 ^ k)
power_held i k h g =
    record {
      divides = pow_pos k;
      exact = round_exact binary64 false (2 ^ i) (2 ^ k) 1 (1074 - k + i) (pow_pos k) (lit≤ tt) (below_top 1074 1023 i k h) (units_of 1074 i k g);
    }

pub whole_is : (n : ℕ) → n < 2 ^ 53 → HasValue (round binary64 false n 1) false n 1
whole_is n h = round_exact binary64 false n 1 n 1074 (lit≤ tt) h (le_trans (shl_lt 53 1074 h) (lit≤ tt)) (sym (mul-one (n * 2 ^ 1074)))

pub whole_held : (n : ℕ) → n < 2 ^ 53 → Held n 1
whole_held n h = record { divides = lit≤ tt; exact = whole_is n h }

-- a greater bound
pub wider : (n k d : ℕ) (x : Float) → n ≤ k → Within n d x → Within k d x
wider n k d nan l h = absurd h
wider n k d (inf s) l h = absurd h
wider n k d (fin s m e) l h = le_trans h (mul-le-mul_right (down e) l)

-- a float of known size
pub value_within : (s : Bool) (a c n : ℕ) (x : Float) → 0 < c → HasValue x s a c → a ≤ n * c → Within n 1 x
value_within s a c n nan C v h = absurd v
value_within s a c n (inf t) C v h = absurd v
value_within s a c n (fin t m e) C v h =
    le_of_mul-le-mul_right
    (le_trans (le_of_eq (ap (λ (z : ℕ). z * c) (mul-one (m * up e)) ∙ v.1)) (le_trans (mul-le-mul_right (down e) h) (le_of_eq (mul_right_comm n c (down e)))))
    C

-- ---- one rounding

or_le : (a b : ℕ) (c : Bool) → T (ltb a b || (eqb a b && c)) → a ≤ b
or_le a b c = go (ltb a b) (eqb a b) (ltb→lt a b) (eqb→eq a b)
  where
    go : (x y : Bool) → (T x → a < b) → (T y → a ≡ b) → T (x || (y && c)) → a ≤ b
    go true y l e t = let h = l tt in omega arith
    go false true l e t = le_of_eq (e tt)
    go false false l e t = absurd t

at_most : (y w : Float) (n d : ℕ) → T (clear y) → HasValue w false n d → T (le y w) → Within n d y
unfolding le
at_most nan w n d p v t = absurd t
at_most (inf true) w n d p v t = absurd p
at_most (inf false) nan n d p v t = absurd v
at_most (inf false) (inf s) n d p v t = absurd v
at_most (inf false) (fin s m e) n d p v t = absurd t
at_most (fin true m e) w n d p v t = absurd p
at_most (fin false m e) nan n d p v t = absurd v
at_most (fin false m e) (inf s) n d p v t = absurd v
at_most (fin false m e) (fin true k j) n d p v t = absurd (true≢false v.0)
at_most (fin false m e) (fin false k j) n d p v t =
    transfer (m * up e) n (down e) d (m * up e) (k * up j) (down e) (down j) (down_pos e) (down_pos j) refl (sym v.1)
    (or_le (m * up e * down j) (k * up j * down e) true t)

-- a sign changes no size
odd_size : (s : Bool) (q k n d : ℕ) → Within n d (odd 54 false q k (low binary64)) → Within n d (odd 54 s q k (low binary64))
unfolding odd
odd_size s zero k n d h = h
odd_size s (suc q) k n d h = h

units_size : (s : Bool) (q k n d : ℕ) → Within n d (units binary64 false q k) → Within n d (units binary64 s q k)
unfolding units
units_size s q k n d = go (ltb (q * 2 ^ k) (overflow binary64))
  where
    go : (b : Bool) → Within n d (cond b (odd 54 false q k (low binary64)) (inf false)) → Within n d (cond b (odd 54 s q k (low binary64)) (inf s))
    go true h = odd_size s q k n d h
    go false h = absurd h

round_size : (s : Bool) (a c n d : ℕ) → Within n d (round binary64 false a c) → Within n d (round binary64 s a c)
round_size s a c n d h =
    let u = a * 2 ^ low binary64 in
    subst (Within n d) (sym (round_is binary64 s a c)) (units_size s (kept 53 u c) (drop 53 u c) n d (subst (Within n d) (round_is binary64 false a c) h))

pub round_within : (s : Bool) (a c n d : ℕ) → 0 < c → Held n d → a * d ≤ n * c → Within n d (round binary64 s a c)
round_within s a c n d C b h =
    round_size s a c n d
    (at_most (round binary64 false a c) (round binary64 false n d) n d (round_clear binary64 a c) b.exact (round_mono binary64 a c n d C b.divides h))

-- num / den ≤ a / b and a / b ≤ n / m
chain : (num den b a n m : ℕ) → 0 < b → num * b ≤ a * den → a * m ≤ n * b → num * m ≤ n * den
chain num den b a n m B h k =
    le_of_mul-le-mul_right
    (le_trans (le_of_eq (mul_right_comm num m b))
    (le_trans (mul-le-mul_right m h) (le_trans (le_of_eq (mul_right_comm a den m)) (le_trans (mul-le-mul_right den k) (le_of_eq (mul_right_comm n b den))))))
    B

-- ±A / c and ±B / c: the sum, or the difference, is at most (A + B) / c
sum_within : (s : Bool) (A : ℕ) (t : Bool) (B c n m : ℕ) → 0 < c → Held n m → (A + B) * m ≤ n * c → Within n m (sum binary64 s A t B c)
unfolding sum
sum_within s A t B c n m C h k = go (beq s t) (ltb A B)
  where
    less : (D : ℕ) → D ≤ A + B → D * m ≤ n * c
    less D l = le_trans (mul-le-mul_right m l) k

    go : (x y : Bool) → Within n m (cond x (round binary64 s (A + B) c) (cond y (round binary64 t (B - A) c) (round binary64 (s && ltb B A) (A - B) c)))
    go true y = round_within s (A + B) c n m C h k
    go false true = round_within t (B - A) c n m C h (less (B - A) (omega arith))
    go false false = round_within (s && ltb B A) (A - B) c n m C h (less (A - B) (omega arith))

-- ---- the operations

pub neg_within : (n d : ℕ) (x : Float) → Within n d x → Within n d (neg x)
unfolding neg
neg_within n d nan h = h
neg_within n d (inf s) h = h
neg_within n d (fin s m e) h = h

-- |x| ≤ a / b and |y| ≤ c / d: the product is at most (a·c) / (b·d), and a float above that bounds the rounded product
pub mul_within : (a b c d n m : ℕ) (x y : Float) → Within a b x → Within c d y → Held n m → 0 < b → 0 < d → a * c * m ≤ n * (b * d)
    → Within n m (mul binary64 x y)
unfolding mul
mul_within a b c d n m nan y p q h B D k = absurd p
mul_within a b c d n m (inf s) y p q h B D k = absurd p
mul_within a b c d n m (fin s i e) nan p q h B D k = absurd q
mul_within a b c d n m (fin s i e) (inf t) p q h B D k = absurd q
mul_within a b c d n m (fin s i e) (fin t j g) p q h B D k =
    round_within (unlike s t) (i * up e * (j * up g)) (down e * down g) n m (mul-pos (down_pos e) (down_pos g)) h
    (chain (i * up e * (j * up g)) (down e * down g) (b * d) (a * c) n m (mul-pos B D)
    (le_trans (le_of_eq (mul-mul-mul_comm (i * up e) (j * up g) b d)) (le_trans (mul-le-mul p q) (le_of_eq (mul-mul-mul_comm a (down e) c (down g))))) k)

sums : (a b d u v x y : ℕ) → x * d ≤ a * u → y * d ≤ b * v → (x * v + y * u) * d ≤ (a + b) * (u * v)
sums a b d u v x y p q =
    le_trans (le_of_eq (add-mul (x * v) (y * u) d ∙ ap (λ (z : ℕ). z + y * u * d) (mul_right_comm x v d) ∙ ap (λ (z : ℕ). x * d * v + z) (mul_right_comm y u d)))
    (le_trans (add-le-add (mul-le-mul_right v p) (mul-le-mul_right u q))
    (le_of_eq (ap (λ (z : ℕ). z + b * v * u) (mul_assoc a u v) ∙ ap (λ (z : ℕ). a * (u * v) + z) (mul_assoc b v u ∙ ap (λ (z : ℕ). b * z) (mul_comm v u)) ∙ sym (add-mul a b (u * v)))))

-- |x| ≤ a / d and |y| ≤ b / d
pub add_within : (a b d n m : ℕ) (x y : Float) → Within a d x → Within b d y → Held n m → 0 < d → (a + b) * m ≤ n * d → Within n m (add binary64 x y)
unfolding add
add_within a b d n m nan y p q h D k = absurd p
add_within a b d n m (inf s) y p q h D k = absurd p
add_within a b d n m (fin s i e) nan p q h D k = absurd q
add_within a b d n m (fin s i e) (inf t) p q h D k = absurd q
add_within a b d n m (fin s i e) (fin t j g) p q h D k =
    let A = i * up e * down g in
    let B = j * up g * down e in
    let c = down e * down g in
    sum_within s A t B c n m (mul-pos (down_pos e) (down_pos g)) h
    (chain (A + B) c d (a + b) n m D (sums a b d (down e) (down g) (i * up e) (j * up g) p q) k)

quotients : (a b c d u v x y : ℕ) → x * b ≤ a * u → y * d ≡ c * v → x * v * (b * c) ≤ a * d * (y * u)
quotients a b c d u v x y p q =
    le_trans (le_of_eq (mul-mul-mul_comm x v b c ∙ ap (λ (z : ℕ). x * b * z) (mul_comm v c ∙ sym q ∙ mul_comm y d)))
    (le_trans (mul-le-mul_right (d * y) p) (le_of_eq (mul-mul-mul_comm a u d y ∙ ap (λ (z : ℕ). a * d * z) (mul_comm u y))))

-- |x| ≤ a / b, and y is c / d
pub div_within : (a b c d n m : ℕ) (x y : Float) → Within a b x → HasValue y false c d → Held n m → 0 < b → 0 < c → 0 < d → a * d * m ≤ n * (b * c)
    → Within n m (div binary64 x y)
unfolding div
div_within a b c d n m nan y p q h B C D k = absurd p
div_within a b c d n m (inf s) y p q h B C D k = absurd p
div_within a b c d n m (fin s i e) nan p q h B C D k = absurd q
div_within a b c d n m (fin s i e) (inf t) p q h B C D k = absurd q
div_within a b c d n m (fin s i e) (fin t zero g) p q h B C D k = absurd (omega (arith, q.1, mul-pos C (down_pos g)))
div_within a b c d n m (fin s i e) (fin t (suc j) g) p q h B C D k =
    rw (ne_eqb (suc j) 0 (λ z. absurd (omega arith)))
    (round_within (unlike s t) (i * up e * down g) (suc j * up g * down e) n m (mul-pos (mul-pos (zero-lt-suc j) (up_pos g)) (down_pos e)) h
    (chain (i * up e * down g) (suc j * up g * down e) (b * c) (a * d) n m (mul-pos B C)
    (quotients a b c d (down e) (down g) (i * up e) (suc j * up g) p q.1) k))
