-- The laws of the root: `root_of` meets `IsRoot`, and at most one float does. Each zero is its own root. Assumes nothing.
use mathlib.Core.Path.{◌≡◌, refl, sym, ap, ◌∙◌, subst}
use mathlib.Core.Bool.{Bool, true, false}
use Prim.Native.Nat.{ℕ, zero, suc, ◌+◌, ◌-◌, ◌*◌, ◌/◌, ◌^◌, ◌≤◌, ◌<◌}
use native.Mathlib.Nat.{le_refl, le_trans, le_of_eq, le_antisymm, lt_of_lt_of_le, lt_of_le_of_lt, lt_of_not-le, not-le_of_lt, zero-lt-suc, mul-one}
use native.Mathlib.Nat.{one-mul, mul_assoc, mul_left_comm, mul_right_comm, mul-le-mul, mul-le-mul_right, mul-lt-mul_of_pos_right}
use native.Mathlib.Nat.{le_of_mul-le-mul_right, lt_of_mul-lt-mul_right, eq_of_mul-eq-mul_right, mul-div_cancel, pow-succ'}
use native.Mathlib.Omega.{arith}
use lib.Dec.{T, lit<, lit≤}
use lib.Pow.{pow_pos, pow-add, pow_mono, pow-lt}
use lib.IntN.{ℤ, pos, negsuc}
use lib.Ieee.{Float, nan, inf, fin, binary64, low, up, down, size, fits}
use lib.Ieee.Digits.{size-lt, size-le, size_reaches}
use lib.Ieee.Fits.{down_pos, odd-fits, nan-fits}
use lib.Ieee.Exact.{odd_sign}
use lib.Ieee.Positive.{positive}
use Rattle.root.specs.Root.{NearestRoot, IsRoot, TakesRoots, root_of}
use Rattle.root.specs.Computed.{nearest_root, root_size, root_of_units, positive_root}
use Rattle.root_digits.proofs.WholeRoots.{nearest_unique, nearest_root_is}
use Rattle.root_digits.proofs.Powers.{four_pow, four_pos}
use Rattle.root_split.proofs.Values.{value_unique, value_cross, Fitting, fits_says}

-- ---- uniqueness

-- a root of 53 digits shows how far its square was scaled
scale_le : (n p a b : ℕ) → n < 2 ^ 53 * 2 ^ 53 → 2 ^ 52 * 2 ^ 52 ≤ p → n * 4 ^ a ≡ p * 4 ^ b → b ≤ a
scale_le n p a b N P e = omega (arith, lt_of_not-le (λ (h : suc a ≤ b). clash (b - suc a) (omega arith)))
  where
    over : (u : ℕ) → 0 < u → n ≡ p * (4 * u) → ⊥
    over u U g = omega (arith, g ∙ mul_left_comm p 4 u, mul-le-mul {n₁ = p} {m₁ = 1} {n₂ = p} {m₂ = u} (le_refl p) U, mul-one p)

    clash : (d : ℕ) → b ≡ suc d + a → ⊥
    clash d f = over (4 ^ d) (four_pos d)
        (eq_of_mul-eq-mul_right (4 ^ a) (four_pos a) n (p * (4 * 4 ^ d))
        (e ∙ ap (λ (z : ℕ). p * 4 ^ z) f ∙ ap (λ (z : ℕ). p * z) (pow-add 4 (suc d) a ∙ ap (λ (z : ℕ). z * 4 ^ a) (pow-succ' 4 d)) ∙ sym (mul_assoc p (4 * 4 ^ d) (4 ^ a))))

pub root_unique : (x y z : Float) → T (fits binary64 y) → T (fits binary64 z) → IsRoot x y → IsRoot x z → y ≡ z
root_unique x y z p q i j =
    let e : i.n * 4 ^ (i.k + j.l) ≡ j.n * 4 ^ (j.k + i.l) =
    ap (λ (u : ℕ). i.n * u) (pow-add 4 i.k j.l) ∙ sym (mul_assoc i.n (4 ^ i.k) (4 ^ j.l))
    ∙ value_cross x false (i.n * 4 ^ i.k) (4 ^ i.l) (j.n * 4 ^ j.k) (4 ^ j.l) i.given j.given
    ∙ mul_assoc j.n (4 ^ j.k) (4 ^ i.l) ∙ sym (ap (λ (u : ℕ). j.n * u) (pow-add 4 j.k i.l)) in
    let s : i.k + j.l ≡ j.k + i.l =
    le_antisymm (scale_le j.n i.n (j.k + i.l) (i.k + j.l) j.most i.least (sym e)) (scale_le i.n j.n (i.k + j.l) (j.k + i.l) i.most j.least e) in
    let n : i.n ≡ j.n = eq_of_mul-eq-mul_right (4 ^ (i.k + j.l)) (four_pos (i.k + j.l)) i.n j.n (e ∙ ap (λ (u : ℕ). j.n * 4 ^ u) (sym s)) in
    let r : i.q ≡ j.q = nearest_unique j.n i.q j.q (lt_of_lt_of_le (lit< tt) j.least) (subst (λ (u : ℕ). NearestRoot u i.q) n i.nearest) j.nearest in
    value_unique binary64 y z false (i.q * 2 ^ i.k) (2 ^ i.l) (j.q * 2 ^ j.k) (2 ^ j.l) p q (pow_pos i.l) (pow_pos j.l) i.answer j.answer
    (mul_assoc i.q (2 ^ i.k) (2 ^ j.l) ∙ ap (λ (u : ℕ). i.q * u) (sym (pow-add 2 i.k j.l) ∙ ap (λ (u : ℕ). 2 ^ u) s ∙ pow-add 2 j.k i.l)
    ∙ ap (λ (u : ℕ). u * (2 ^ j.k * 2 ^ i.l)) r ∙ sym (mul_assoc j.q (2 ^ j.k) (2 ^ i.l)))

-- ---- `positive_root` is a root

-- in units of 4^-l a number that is no smaller than 2^-l is whole
whole_units : (e : ℤ) (l : ℕ) → down e ≤ 2 ^ l → (j : ℕ) × (up e * 4 ^ l ≡ 2 ^ j * down e) × (l ≤ j)
whole_units (pos i) l h = (
  i + (l + l),
  ap (λ (z : ℕ). 2 ^ i * z) (four_pow l ∙ sym (pow-add 2 l l)) ∙ sym (pow-add 2 i (l + l)) ∙ sym (mul-one (2 ^ (i + (l + l)))),
  omega arith,
)
whole_units (negsuc i) l h =
    let g : suc i ≤ l = omega (arith, lt_of_not-le (λ (k : suc l ≤ suc i). not-le_of_lt (pow-lt k) h)) in
    let s : l + (l - suc i) + suc i ≡ l + l = omega arith in (
      l + (l - suc i),
      one-mul (4 ^ l) ∙ four_pow l ∙ sym (pow-add 2 l l) ∙ ap (λ (z : ℕ). 2 ^ z) (sym s) ∙ pow-add 2 (l + (l - suc i)) (suc i),
      omega arith,
    )

-- what is kept of N: the digits in which `positive_root` works
record Kept (N k n : ℕ) : Type 0 where
  exact : n * 4 ^ k ≡ N
  least : 2 ^ 52 * 2 ^ 52 ≤ n
  most : n < 2 ^ 53 * 2 ^ 53

four_sum : (a k : ℕ) → 2 ^ (a + (k + k)) ≡ 2 ^ a * 4 ^ k
four_sum a k = pow-add 2 a (k + k) ∙ ap (λ (z : ℕ). 2 ^ a * z) (pow-add 2 k k ∙ sym (four_pow k))

kept : (m j z k : ℕ) → 0 < m → m < 2 ^ 53 → 104 ≤ j → m * 2 ^ j < 2 ^ z → ((i : ℕ) → i < z → 2 ^ i ≤ m * 2 ^ j) → k ≡ (z + 1) / 2 - 53 → Kept (m * 2 ^ j) k (m * 2 ^ j / 4 ^ k)
kept m j z k M D J hi lo K =
    let N = m * 2 ^ j in
    let lower : 2 ^ 104 ≤ N = le_trans (pow_mono J) (le_trans (le_of_eq (sym (one-mul (2 ^ j)))) (mul-le-mul_right (2 ^ j) M)) in
    let upper : N < 2 ^ (53 + j) = subst (λ (u : ℕ). N < u) (sym (pow-add 2 53 j)) (mul-lt-mul_of_pos_right D (pow_pos j)) in
    let long : 104 < z = lt_of_not-le (λ (h : z ≤ 104). not-le_of_lt (lt_of_lt_of_le hi (pow_mono h)) lower) in
    let short : z < suc (53 + j) = lt_of_not-le (λ (h : suc (53 + j) ≤ z). not-le_of_lt upper (lo (53 + j) h)) in
    let r = j - (k + k) in
    let J' : j ≡ r + (k + k) = omega arith in
    let whole : N ≡ m * 2 ^ r * 4 ^ k = ap (λ (u : ℕ). m * u) (ap (λ (u : ℕ). 2 ^ u) J' ∙ four_sum r k) ∙ sym (mul_assoc m (2 ^ r) (4 ^ k)) in
    let n : N / 4 ^ k ≡ m * 2 ^ r = ap (λ (u : ℕ). u / 4 ^ k) whole ∙ mul-div_cancel (m * 2 ^ r) (four_pos k) in
    let exact : N / 4 ^ k * 4 ^ k ≡ N = ap (λ (u : ℕ). u * 4 ^ k) n ∙ sym whole in
    record {
      exact = exact;
      least = le_of_mul-le-mul_right (le_trans (le_of_eq (sym (four_sum 104 k))) (le_trans (lo (104 + (k + k)) (omega arith)) (le_of_eq (sym exact)))) (four_pos k);
      most = lt_of_mul-lt-mul_right (4 ^ k) (lt_of_le_of_lt (le_of_eq exact) (lt_of_lt_of_le hi (le_trans (pow_mono (omega arith)) (le_of_eq (four_sum 106 k)))));
    }

units_at : (l m : ℕ) (e : ℤ) (j : ℕ) → up e * 4 ^ l ≡ 2 ^ j * down e → m * up e * 4 ^ l ≡ m * 2 ^ j * down e
units_at l m e j h = mul_assoc m (up e) (4 ^ l) ∙ ap (λ (z : ℕ). m * z) h ∙ sym (mul_assoc m (2 ^ j) (down e))

root_of_units_is : (l m : ℕ) (e : ℤ) (j : ℕ) → 104 ≤ j → 0 < m → m < 2 ^ 53 → m * up e * 4 ^ l ≡ m * 2 ^ j * down e → IsRoot (fin false m e) (root_of_units l (m * 2 ^ j))
unfolding root_of_units
root_of_units_is l m e j J M D h =
    let N = m * 2 ^ j in
    let k = root_size N - 53 in
    let i = kept m j (size N) k M D J (size-lt N) (size_reaches N) refl in
    record {
      n = N / 4 ^ k;
      q = nearest_root (N / 4 ^ k);
      k = k;
      l = l;
      given = (refl, h ∙ ap (λ (z : ℕ). z * down e) (sym i.exact));
      least = i.least;
      most = i.most;
      nearest = nearest_root_is (N / 4 ^ k) i.most;
      answer = odd_sign 54 false (nearest_root (N / 4 ^ k)) k l;
    }

positive_root_at : (l m : ℕ) (e : ℤ) (j : ℕ) → m * up e * 4 ^ l ≡ m * 2 ^ j * down e → positive_root l m e ≡ root_of_units l (m * 2 ^ j)
unfolding positive_root
positive_root_at l m e j h = ap (root_of_units l) (ap (λ (z : ℕ). z / down e) h ∙ mul-div_cancel (m * 2 ^ j) (down_pos e))

positive_root_is : (l m : ℕ) (e : ℤ) → 104 ≤ l → 0 < m → m < 2 ^ 53 → down e ≤ 2 ^ l → IsRoot (fin false m e) (positive_root l m e)
positive_root_is l m e L M D h =
    let u = whole_units e l h in
    let a = units_at l m e u.0 u.1 in
    subst (IsRoot (fin false m e)) (sym (positive_root_at l m e u.0 a)) (root_of_units_is l m e u.0 (le_trans L u.2) M D a)

-- ---- it fits

nearest_le : (n q : ℕ) → NearestRoot n q → n < 2 ^ 53 * 2 ^ 53 → q ≤ 2 ^ 53
nearest_le n q i h = omega (arith, lt_of_not-le (λ (g : suc (2 ^ 53) ≤ q). clash g))
  where
    clash : suc (2 ^ 53) ≤ q → ⊥
    clash g =
        let b : 2 ^ 54 ≤ 2 * q - 1 = omega arith in
        omega (arith, i.from, mul-le-mul b b)

few : (l N : ℕ) → N < 2 ^ 1024 * 4 ^ l → root_size N - 53 ≤ l + 460
few l N h = let s : size N ≤ 1024 + (l + l) = size-le N (1024 + (l + l)) (subst (λ (z : ℕ). N < z) (sym (four_sum 1024 l)) h) in half (size N) s
  where
    half : (z : ℕ) → z ≤ 1024 + (l + l) → (z + 1) / 2 - 53 ≤ l + 460
    half z s = omega arith

room : (l q k : ℕ) → q ≤ 2 ^ 53 → k ≤ l + 460 → q * 2 ^ k < 2 ^ (l + 1024)
room l q k Q K =
    let a : 53 + k < l + 1024 = omega arith in
    lt_of_le_of_lt (le_trans (mul-le-mul_right (2 ^ k) Q) (le_of_eq (sym (pow-add 2 53 k)))) (pow-lt a)

positive_root_fits : (m : ℕ) (e : ℤ) → 0 < m → Fitting binary64 m e → T (fits binary64 (positive_root (low binary64) m e))
unfolding root_of_units
positive_root_fits m e M t =
    let l = low binary64 in
    let u = whole_units e l t.least in
    let j = u.0 in
    let a = units_at l m e j u.1 in
    let N = m * 2 ^ j in
    let k = root_size N - 53 in
    let i = kept m j (size N) k M t.digits (le_trans (lit≤ tt) u.2) (size-lt N) (size_reaches N) refl in
    let q = nearest_le (N / 4 ^ k) (nearest_root (N / 4 ^ k)) (nearest_root_is (N / 4 ^ k) i.most) i.most in
    let b : N < 2 ^ 1024 * 4 ^ l =
    lt_of_mul-lt-mul_right (down e) (lt_of_le_of_lt (le_of_eq (sym a)) (lt_of_lt_of_le (mul-lt-mul_of_pos_right t.most (four_pos l)) (le_of_eq (mul_right_comm (2 ^ 1024) (down e) (4 ^ l))))) in
    subst (λ (y : Float). T (fits binary64 y)) (sym (positive_root_at l m e j a))
    (odd-fits binary64 54 false (nearest_root (N / 4 ^ k)) k (lt_of_le_of_lt q (lit< tt)) q (room l (nearest_root (N / 4 ^ k)) k q (few l N b)))

-- ---- `root_of`

pub root_is : (x : Float) → T (fits binary64 x) → T (positive x) → IsRoot x (root_of x)
unfolding root_of
root_is nan t p = elim p [ ]
root_is (inf _) t p = elim p [ ]
root_is (fin false zero e) t p = elim p [ ]
root_is (fin true _ e) t p = elim p [ ]
root_is (fin false (suc m) e) t p =
    let f = fits_says binary64 false m e t in
    positive_root_is (low binary64) (suc m) e (lit≤ tt) (zero-lt-suc m) f.digits f.least

pub root_fits : (x : Float) → T (fits binary64 x) → T (fits binary64 (root_of x))
unfolding root_of
root_fits nan t = t
root_fits (inf true) t = nan-fits binary64
root_fits (inf false) t = t
root_fits (fin s zero e) t = t
root_fits (fin true (suc m) e) t = nan-fits binary64
root_fits (fin false (suc m) e) t = positive_root_fits (suc m) e (zero-lt-suc m) (fits_says binary64 false m e t)

-- "each zero gives itself"
pub root_zero : (s : Bool) → root_of (fin s 0 (pos 0)) ≡ fin s 0 (pos 0)
unfolding root_of
root_zero s = refl

-- `root_of` is the root by squares, and the only one
pub root_law : TakesRoots root_of
root_law =
    record {
      by_squares = root_is;
      only = λ x y fx above fy is. root_unique x y (root_of x) fy (root_fits x fx) is (root_is x fx above);
      of_zero = root_zero;
    }
