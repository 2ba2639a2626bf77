-- Float steps follow the order of floats (document 02, R-1). Assumes nothing.
use Prim.Native.Nat.{ℕ, zero, suc, ◌+◌, ◌-◌, ◌*◌, ◌/◌, ◌%◌, ◌^◌, ◌<◌, ◌≤◌}
use mathlib.Core.Bool.{Bool, true, false, cond, false≢true}
use mathlib.Core.Logic.{inl, inr}
use mathlib.Core.Path.{◌≡◌, refl, sym, ap, subst, ◌∙◌}
use native.Mathlib.Nat.{mul-one, mul_right_comm, mul_assoc, mul-pos, mul-lt-mul_of_pos_right, lt_of_mul-lt-mul_right, lt_of_lt_of_le, le_trans, le_of_eq, mul-le-mul, mul-le-mul_right, pow-succ'}
use native.Mathlib.Omega.{arith}
use lib.Dec.{leb, ltb, eqb}
use lib.Pow.{pow_pos, pow_mono}
use lib.Ieee.{Float, nan, inf, fin, binary64, low, up, down, below, odd, of_fields, of_bits, lt}
use lib.Ieee.Fits.{down_pos}
use lib.Ieee.Exact.{HasValue, odd_sign}
use borrow.Author.Tests.{lt-ltb, le-ltb, le-leb, lt-leb, ltb-true, ltb-false, ne_eqb}
use Rattle.compare_steps.specs.Steps.{place, steps}
use Rattle.listing_scan.specs.Line.{FiniteBits}
use Rattle.compare_laws.specs.Order.{float_of, FollowsOrder, Neighbours, Next}
use Rattle.compare_laws.proofs.Counting.{by_sign, place_clear, place_set}

-- ---- the size of a finite float in units of the smallest, by the field of its exponent and its digits

abbrev size : ℕ → ℕ → ℕ
size zero t = t
size (suc i) t = (2 ^ 52 + t) * 2 ^ i

value : (s : Bool) (f t : ℕ) → f < 2047 → HasValue (of_fields binary64 s f t) s (size f t) (2 ^ low binary64)
unfolding of_fields
value s zero t h = subst (λ (a : ℕ). HasValue (odd 53 s t 0 (low binary64)) s a (2 ^ low binary64)) (mul-one t) (odd_sign 53 s t 0 (low binary64))
value s (suc i) t h =
    subst (λ (b : Bool). HasValue (cond b (cond (eqb t 0) (inf s) nan) (odd 53 s (2 ^ 52 + t) i (low binary64))) s ((2 ^ 52 + t) * 2 ^ i) (2 ^ low binary64))
    (sym (ne_eqb (suc i) 2047 (λ e. omega arith)))
    (odd_sign 53 s (2 ^ 52 + t) i (low binary64))

same_field : (f t u : ℕ) → t < u → size f t < size f u
same_field zero t u h = h
same_field (suc i) t u h = let g : 2 ^ 52 + t < 2 ^ 52 + u = omega arith in mul-lt-mul_of_pos_right g (pow_pos i)

higher_field : (f g t u : ℕ) → f < g → t < 2 ^ 52 → size f t < size g u
higher_field zero zero t u h l = elim h [ ]
higher_field (suc i) zero t u h l = elim h [ ]
higher_field zero (suc j) t u h l =
    let p : 1 ≤ 2 ^ j = pow_pos j in
    let q : (2 ^ 52 + u) * 1 ≤ (2 ^ 52 + u) * 2 ^ j = mul-le-mul (le_of_eq refl) p in
    lt_of_lt_of_le l (le_trans (omega arith) q)
higher_field (suc i) (suc j) t u h l =
    let a : (2 ^ 52 + t) * 2 ^ i < 2 ^ 53 * 2 ^ i = mul-lt-mul_of_pos_right (omega arith) (pow_pos i) in
    let p : 2 ^ suc i ≤ 2 ^ j = pow_mono (omega arith) in
    let e : 2 ^ suc i ≡ 2 * 2 ^ i = pow-succ' 2 i in
    let b : 2 ^ 52 * 2 ^ suc i ≤ (2 ^ 52 + u) * 2 ^ j = mul-le-mul (omega arith) p in
    lt_of_lt_of_le a (le_trans (omega arith) b)

-- ---- the bits without the sign's: their sizes rise

abbrev size_of : ℕ → ℕ
size_of m = size (m / 2 ^ 52) (m % 2 ^ 52)

by_field : (f g : ℕ) {P : Type 0} → (f < g → P) → (f ≡ g → P) → (g < f → P) → P
by_field f g {P} less same more = go (ltb f g) refl (ltb g f) refl
  where
    go : (a : Bool) → ltb f g ≡ a → (b : Bool) → ltb g f ≡ b → P
    go true e b d = less (ltb-true f g e)
    go false e true d = more (ltb-true g f d)
    go false e false d = let x = ltb-false f g e in let y = ltb-false g f d in same (omega arith)

rising : (m n : ℕ) → m < n → size_of m < size_of n
rising m n h =
    by_field (m / 2 ^ 52) (n / 2 ^ 52)
    (λ less. higher_field (m / 2 ^ 52) (n / 2 ^ 52) (m % 2 ^ 52) (n % 2 ^ 52) less (omega arith))
    (λ same. subst (λ (f : ℕ). size (m / 2 ^ 52) (m % 2 ^ 52) < size f (n % 2 ^ 52)) same (same_field (m / 2 ^ 52) (m % 2 ^ 52) (n % 2 ^ 52) (omega arith)))
    (λ more. absurd (omega arith))

rising_back : (m n : ℕ) → size_of m < size_of n → m < n
rising_back m n h =
    by_field m n (λ less. less)
    (λ same. let e : size_of m ≡ size_of n = ap (λ (z : ℕ). size_of z) same in absurd (omega arith))
    (λ more. let g = rising n m more in absurd (omega arith))

-- only no bits have no size
some_size : (m n : ℕ) → m < n → 0 < size_of n
some_size m n h = let g = rising m n h in omega arith

-- ---- the order of two floats by their sizes

same_test : (x y a b c k : ℕ) → 0 < c → 0 < k → x * c ≡ a * k → y * c ≡ b * k → ltb x y ≡ ltb a b
same_test x y a b c k C K e f = go (ltb a b) refl
  where
    go : (t : Bool) → ltb a b ≡ t → ltb x y ≡ t
    go true h =
        let g : a * k < b * k = mul-lt-mul_of_pos_right (ltb-true a b h) K in
        let l : x * c < y * c = omega arith in
        lt-ltb x y (lt_of_mul-lt-mul_right c l)
    go false h =
        let g : b * k ≤ a * k = mul-le-mul_right k (ltb-false a b h) in
        le-ltb x y (by_field x y
        (λ less. let l : x * c < y * c = mul-lt-mul_of_pos_right less C in absurd (omega arith))
        (λ same. omega arith)
        (λ more. omega arith))

lt_is : (x y : Float) (s t : Bool) (a b c : ℕ) → 0 < c → HasValue x s a c → HasValue y t b c → lt x y ≡ below s a t b
unfolding lt
lt_is nan y s t a b c C v w = elim v [ ]
lt_is (inf _) y s t a b c C v w = elim v [ ]
lt_is (fin p m e) nan s t a b c C v w = elim w [ ]
lt_is (fin p m e) (inf _) s t a b c C v w = elim w [ ]
lt_is (fin p m e) (fin q n d) s t a b c C v w =
    let k = down e * down d in
    let K : 0 < k = mul-pos (down_pos e) (down_pos d) in
    let X : m * up e * down d * c ≡ a * k = mul_right_comm (m * up e) (down d) c ∙ ap (λ (z : ℕ). z * down d) v.1 ∙ mul_assoc a (down e) (down d) in
    let Y : n * up d * down e * c ≡ b * k =
    mul_right_comm (n * up d) (down e) c ∙ ap (λ (z : ℕ). z * down e) w.1 ∙ mul_right_comm b (down d) (down e) ∙ mul_assoc b (down e) (down d) in
    rw (v.0, w.0) (go s t (m * up e * down d) (n * up d * down e) K X Y)
  where
    go : (s t : Bool) {k : ℕ} (x y : ℕ) → 0 < k → x * c ≡ a * k → y * c ≡ b * k → below s x t y ≡ below s a t b
    go false false x y K X Y = same_test x y a b c _ C K X Y
    go false true x y K X Y = refl
    go true false {k} x y K X Y =
        same_test 0 (x + y) 0 (a + b) c k C K (omega arith) (let l : (x + y) * c ≡ x * c + y * c = omega arith in let r : (a + b) * k ≡ a * k + b * k = omega arith in omega arith)
    go true true x y K X Y = same_test y x b a c _ C K Y X

-- ---- bits with their sign

fields : (b : ℕ) (s : Bool) → leb 0x8000_0000_0000_0000 b ≡ s → FiniteBits b → HasValue (float_of b) s (size_of (b % 0x8000_0000_0000_0000)) (2 ^ low binary64)
unfolding of_bits
fields b s e h =
    let f : b % 0x8000_0000_0000_0000 / 2 ^ 52 < 2047 = let g = h.1 in omega arith in
    let d : b % 2 ^ 52 ≡ b % 0x8000_0000_0000_0000 % 2 ^ 52 = omega arith in
    rw (e, d) (value s (b % 0x8000_0000_0000_0000 / 2 ^ 52) (b % 0x8000_0000_0000_0000 % 2 ^ 52) f)

clear : (b : ℕ) → b < 0x8000_0000_0000_0000 → FiniteBits b → HasValue (float_of b) false (size_of b) (2 ^ low binary64)
clear b under h =
    let e : b % 0x8000_0000_0000_0000 ≡ b = omega arith in
    subst (λ (m : ℕ). HasValue (float_of b) false (size_of m) (2 ^ low binary64)) e (fields b false (lt-leb 0x8000_0000_0000_0000 b under) h)

signed : (b : ℕ) → 0x8000_0000_0000_0000 ≤ b → FiniteBits b → HasValue (float_of b) true (size_of (b - 0x8000_0000_0000_0000)) (2 ^ low binary64)
signed b high h =
    let g = h.0 in
    let e : b % 0x8000_0000_0000_0000 ≡ b - 0x8000_0000_0000_0000 = omega arith in
    subst (λ (m : ℕ). HasValue (float_of b) true (size_of m) (2 ^ low binary64)) e (fields b true (le-leb 0x8000_0000_0000_0000 b high) h)

abbrev smallest : ℕ
smallest = 2 ^ low binary64

some : 0 < smallest
some = pow_pos (low binary64)

pub follows : (a b : ℕ) → FiniteBits a → FiniteBits b → FollowsOrder a b
follows a b A B =
    by_sign a
    (λ up. by_sign b (λ over. both_clear up over) (λ under. record {
      rises = λ l. absurd (false≢true (sym (lt_is (float_of a) (float_of b) false true (size_of a) (size_of (b - 0x8000_0000_0000_0000)) smallest some (clear a up A) (signed b under B)) ∙ l));
      back = λ l. absurd (let g = B.0 in omega (arith, place_clear a up, place_set b under));
    }))
    (λ down. by_sign b (λ over. apart_signs down over) (λ under. both_set down under))
  where
    both_clear : a < 0x8000_0000_0000_0000 → b < 0x8000_0000_0000_0000 → FollowsOrder a b
    both_clear up over =
        let is = lt_is (float_of a) (float_of b) false false (size_of a) (size_of b) smallest some (clear a up A) (clear b over B) in
        record {
          rises = λ l. let g = rising_back a b (ltb-true (size_of a) (size_of b) (sym is ∙ l)) in omega (arith, place_clear a up, place_clear b over);
          back = λ l. inl (is ∙ lt-ltb (size_of a) (size_of b) (rising a b (omega (arith, place_clear a up, place_clear b over))));
        }

    both_set : 0x8000_0000_0000_0000 ≤ a → 0x8000_0000_0000_0000 ≤ b → FollowsOrder a b
    both_set down under =
        let x = a - 0x8000_0000_0000_0000 in
        let y = b - 0x8000_0000_0000_0000 in
        let ga = A.0 in
        let gb = B.0 in
        let is = lt_is (float_of a) (float_of b) true true (size_of x) (size_of y) smallest some (signed a down A) (signed b under B) in
        record {
          rises = λ l. let g = rising_back y x (ltb-true (size_of y) (size_of x) (sym is ∙ l)) in omega (arith, place_set a down, place_set b under);
          back = λ l. inl (is ∙ lt-ltb (size_of y) (size_of x) (rising y x (omega (arith, place_set a down, place_set b under))));
        }

    apart_signs : 0x8000_0000_0000_0000 ≤ a → b < 0x8000_0000_0000_0000 → FollowsOrder a b
    apart_signs down over =
        let x = a - 0x8000_0000_0000_0000 in
        let ga = A.0 in
        let is = lt_is (float_of a) (float_of b) true false (size_of x) (size_of b) smallest some (signed a down A) (clear b over B) in
        record {
          rises = λ l. omega (arith, place_set a down, place_clear b over);
          back = λ l.
              by_field 0 x
              (λ more. let g = some_size 0 x more in inl (is ∙ lt-ltb 0 (size_of x + size_of b) (omega arith)))
              (λ no. by_field 0 b
              (λ more. let g = some_size 0 b more in inl (is ∙ lt-ltb 0 (size_of x + size_of b) (omega arith)))
              (λ none. inr (omega arith, omega arith))
              (λ less. absurd (omega arith)))
              (λ less. absurd (omega arith));
        }

-- ---- neighbours

pub neighbours : (a b : ℕ) → FiniteBits a → FiniteBits b → place b ≡ place a + 1 → Neighbours a b
unfolding steps
neighbours a b A B e = record {
  one_step = rw (e, lt-ltb (place a) (place a + 1) (omega arith)) (omega arith);
  none_between = λ c C l m. let x = (follows a c A C).rises l in let y = (follows c b C B).rises m in omega arith;
}

pub next : (a : ℕ) → FiniteBits a → (a ≡ 0x7fef_ffff_ffff_ffff → ⊥) → Next a
next a A most =
    let g = A.0 in
    let h = A.1 in
    by_sign a
    (λ up. record {
      bits = a + 1;
      finite = (omega arith, let n : a < 0x7fef_ffff_ffff_ffff = by_field a 0x7fef_ffff_ffff_ffff (λ less. less) (λ same. absurd (most same)) (λ more. absurd (omega arith)) in omega arith);
      above = omega (arith, place_clear a up, place_clear (a + 1) (omega arith));
    })
    (λ down.
    by_field 0x8000_0000_0000_0000 a
    (λ more. record { bits = a - 1; finite = (omega arith, omega arith); above = omega (arith, place_set a down, place_set (a - 1) (omega arith)) })
    (λ zero-below. record { bits = 0; finite = (omega arith, omega arith); above = omega (arith, place_set a down, place_clear 0 (omega arith)) })
    (λ less. absurd (omega arith)))
