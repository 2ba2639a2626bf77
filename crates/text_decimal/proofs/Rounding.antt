-- The whole number nearest to a fraction: there is exactly one, and fractions of the same value have the same one. Assumes nothing.
use Prim.Native.Nat.{ℕ, zero, suc, ◌+◌, ◌-◌, ◌*◌, ◌/◌, ◌%◌, ◌^◌, ◌<◌, ◌≤◌}
use mathlib.Core.Bool.{Bool, true, false}
use mathlib.Core.Path.{◌≡◌, refl, sym, ap, ◌∙◌}
use native.Mathlib.Nat.{mul_comm, mul_right_comm, mul-le-mul_right, le_of_mul-le-mul_right, eq_of_mul-eq-mul_right, add-mul, div-add-mod', mod-lt, le_trans, le_of_eq}
use native.Mathlib.Omega.{arith}
use lib.Dec.{ltb}
use borrow.Author.Tests.{ltb-true, ltb-false}
use Rattle.text_decimal.specs.Nearest.{apart, Nearest, nearest_to}

-- ---- it is the quotient or the next one up

module _ (n d q r : ℕ) (e : n ≡ q * d + r) where
  pub down_to : 2 * r < d → Nearest n d q
  down_to h = record { near = omega (arith, e); tie = λ t. absurd (omega (arith, e)) }

  pub up_to : r < d → d < 2 * r → Nearest n d (q + 1)
  up_to l h = let f : (q + 1) * d ≡ q * d + d = omega arith in record { near = omega (arith, e, f); tie = λ t. absurd (omega (arith, e, f)) }

  pub to_even : d ≡ 2 * r → Nearest n d (q + q % 2)
  to_even h = go (q % 2) refl
    where
      go : (b : ℕ) → q % 2 ≡ b → Nearest n d (q + b)
      go zero p = let f : (q + 0) * d ≡ q * d = omega arith in record { near = omega (arith, e, f, h); tie = λ t. omega arith }
      go (suc zero) p = let f : (q + 1) * d ≡ q * d + d = omega arith in record { near = omega (arith, e, f, h); tie = λ t. omega arith }
      go (suc (suc b)) p = absurd (omega arith)

pub nearest_is : (n d : ℕ) → 0 < d → Nearest n d (nearest_to n d)
nearest_is n d some = go (ltb (2 * (n % d)) d) refl (ltb d (2 * (n % d))) refl
  where
    e : n ≡ n / d * d + n % d
    e = sym (div-add-mod' n d)

    l : n % d < d
    l = mod-lt n some

    go : (s : Bool) → ltb (2 * (n % d)) d ≡ s → (t : Bool) → ltb d (2 * (n % d)) ≡ t → Nearest n d (nearest_to n d)
    go true s t₀ t = rw s (down_to n d (n / d) (n % d) e (ltb-true (2 * (n % d)) d s))
    go false s true t = rw (s, t) (up_to n d (n / d) (n % d) e l (ltb-true d (2 * (n % d)) t))
    go false s false t = rw (s, t) (to_even n d (n / d) (n % d) e (omega (arith, ltb-false (2 * (n % d)) d s, ltb-false d (2 * (n % d)) t)))

-- ---- there is no other

below_other : (n d q r : ℕ) → 0 < d → q < r → Nearest n d q → Nearest n d r → ⊥
below_other n d q r some h a b =
    let j = r - (q + 1) in
    let e : r ≡ q + 1 + j = omega arith in
    let f : r * d ≡ q * d + d + j * d = ap (λ (z : ℕ). z * d) e ∙ omega arith in
    let p = a.near in
    let s = b.near in
    let one : 2 * apart n (q * d) ≡ d = omega (arith, f) in
    let two : 2 * apart n (r * d) ≡ d = omega (arith, f) in
    let none : j * d ≡ 0 = omega (arith, f) in
    let even : q % 2 ≡ 0 = a.tie one in
    let again : r % 2 ≡ 0 = b.tie two in
    go j e none even again
  where
    go : (j : ℕ) → r ≡ q + 1 + j → j * d ≡ 0 → q % 2 ≡ 0 → r % 2 ≡ 0 → ⊥
    go zero e none x y = omega arith
    go (suc j) e none x y = let m : suc j * d ≡ j * d + d = omega arith in omega (arith, m)

pub one_nearest : (n d q r : ℕ) → 0 < d → Nearest n d q → Nearest n d r → q ≡ r
one_nearest n d q r some a b = go (ltb q r) refl (ltb r q) refl
  where
    go : (s : Bool) → ltb q r ≡ s → (t : Bool) → ltb r q ≡ t → q ≡ r
    go true s t₀ t = absurd (below_other n d q r some (ltb-true q r s) a b)
    go false s true t = absurd (below_other n d r q some (ltb-true r q t) b a)
    go false s false t = omega (arith, ltb-false q r s, ltb-false r q t)

-- at most a whole number that is at least n / d
pub at_most : (n d q b : ℕ) → 0 < d → Nearest n d q → n ≤ b * d → q ≤ b
at_most n d q b some a h = go (ltb b q) refl
  where
    go : (s : Bool) → ltb b q ≡ s → q ≤ b
    go false s = ltb-false b q s
    go true s =
        let l = ltb-true b q s in
        let j = q - (b + 1) in
        let e : q ≡ b + 1 + j = omega arith in
        let f : q * d ≡ b * d + d + j * d = ap (λ (z : ℕ). z * d) e ∙ omega arith in
        let p = a.near in
        absurd (omega (arith, f))

-- ---- one value has one nearest number, for every fraction of that value

apart_times : (a b k : ℕ) → apart (a * k) (b * k) ≡ apart a b * k
apart_times a b k = go (ltb a b) refl
  where
    up : (a b : ℕ) → a ≤ b → b * k ≡ a * k + (b - a) * k
    up a b h = let e : b ≡ a + (b - a) = omega arith in ap (λ (z : ℕ). z * k) e ∙ add-mul a (b - a) k

    go : (s : Bool) → ltb a b ≡ s → apart (a * k) (b * k) ≡ apart a b * k
    go true s =
        let h = ltb-true a b s in
        let f : apart a b ≡ b - a = omega arith in
        rw f (omega (arith, up a b (omega arith)))
    go false s =
        let h = ltb-false a b s in
        let f : apart a b ≡ a - b = omega arith in
        rw f (omega (arith, up b a h))

-- a / c and b / d are one value: their distances from q, in parts of c·d, are the same
same_distance : (a c b d q : ℕ) → a * d ≡ b * c → apart b (q * d) * c ≡ apart a (q * c) * d
same_distance a c b d q e = sym (apart_times b (q * d) c) ∙ rw (← e, mul_right_comm q d c) (apart_times a (q * c) d)

pub same_value : (a c b d q : ℕ) → 0 < c → 0 < d → a * d ≡ b * c → Nearest a c q → Nearest b d q
same_value a c b d q C D e n =
    let s : apart b (q * d) * c ≡ apart a (q * c) * d = same_distance a c b d q e in
    let x : 2 * apart b (q * d) * c ≡ 2 * apart a (q * c) * d = omega (arith, s) in
    record {
      near = le_of_mul-le-mul_right (le_trans (le_of_eq x) (le_trans (mul-le-mul_right d n.near) (le_of_eq (mul_comm c d)))) C;
      tie = λ t. n.tie (eq_of_mul-eq-mul_right d D (2 * apart a (q * c)) c (sym x ∙ ap (λ (z : ℕ). z * c) t ∙ mul_comm d c));
    }

-- ---- by halves: n is h·4096·p plus less than 4096·p, and the half of h is the quotient by 2^13·p

module _ (n high p h r rest : ℕ) (e : n ≡ 4096 * high + rest) (l : rest < 4096) (f : h * p + r ≡ high) (m : r < p) where
  split_even : h % 2 ≡ 0 → n ≡ h / 2 * (2 ^ 13 * p) + (4096 * r + rest)
  split_even s = let g : h ≡ 2 * (h / 2) = omega arith in omega (arith, e, f, ap (λ (z : ℕ). z * p) g)

  split_odd : h % 2 ≡ 1 → n ≡ h / 2 * (2 ^ 13 * p) + (4096 * p + (4096 * r + rest))
  split_odd s = let g : h ≡ 2 * (h / 2) + 1 = omega arith in omega (arith, e, f, ap (λ (z : ℕ). z * p) g)

  pub half_none : h % 2 ≡ 0 → Nearest n (2 ^ 13 * p) (h / 2)
  half_none s = down_to n (2 ^ 13 * p) (h / 2) (4096 * r + rest) (split_even s) (omega arith)

  pub half_more : h % 2 ≡ 1 → 0 < r + rest → Nearest n (2 ^ 13 * p) (h / 2 + 1)
  half_more s some = up_to n (2 ^ 13 * p) (h / 2) (4096 * p + (4096 * r + rest)) (split_odd s) (omega arith) (omega arith)

  pub half_tie : h % 2 ≡ 1 → r + rest ≡ 0 → Nearest n (2 ^ 13 * p) (h / 2 + h / 2 % 2)
  half_tie s none = to_even n (2 ^ 13 * p) (h / 2) (4096 * p + (4096 * r + rest)) (split_odd s) (omega arith)
