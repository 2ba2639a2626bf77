-- The whole root and the nearest root, as comparisons of squares, and that each is the only one. Assumes nothing.
use Rattle.std.proofs.Common.{◌≡◌, ℕ, zero, suc, ◌+◌, ◌-◌, ◌*◌, ◌/◌, ◌%◌, ◌^◌, ◌<◌, ◌≤◌, Bool, true, false, ltb, leb, sym, refl, ap, ◌∙◌, subst, add-mul, mul-le-mul, le_antisymm, one-mul, lt_of_not-le, mul-one, mul-add, add-one, arith, ltb-false, ltb-true, le-ltb, lt-ltb, leb-false, leb-true}
use native.Mathlib.Nat.{mul-mul-mul_comm, pow-succ'}
use Rattle.base.specs.Choice.{if◌then◌otherwise◌}
use Rattle.root_digits.specs.Nearest.{NearestRoot, whole_root, nearest_root}

square_next : (r : ℕ) → (r + 1) * (r + 1) ≡ r * r + 2 * r + 1
square_next r = simp (add-mul, mul-add, one-mul, mul-one) (omega arith)

square_twice : (r : ℕ) → 2 * r * (2 * r) ≡ 4 * (r * r)
square_twice r = mul-mul-mul_comm 2 r 2 r

square_odd : (r : ℕ) → (2 * r + 1) * (2 * r + 1) ≡ 4 * (r * r + r) + 1
square_odd r = omega (arith, square_next (2 * r), square_twice r)

-- 2q - 1 of q = r + 1 is 2r + 1
square_odd_below : (r : ℕ) → (2 * (r + 1) - 1) * (2 * (r + 1) - 1) ≡ 4 * (r * r + r) + 1
square_odd_below r = let e : 2 * (r + 1) - 1 ≡ 2 * r + 1 = omega arith in ap (λ (z : ℕ). z * z) e ∙ square_odd r

-- r is the whole root of n: the greatest whole number whose square is at most n
pub record IsWholeRoot (n r : ℕ) : Type 0 where
  pub within : r * r ≤ n
  pub beyond : n < (r + 1) * (r + 1)

pub whole_root_is : (d n : ℕ) → n < 4 ^ d → IsWholeRoot n (whole_root d n)
unfolding whole_root
whole_root_is zero n h = record { within = omega arith; beyond = h }
whole_root_is (suc d) n h =
    let h' : n < 4 * 4 ^ d = subst (λ (z : ℕ). n < z) (pow-succ' 4 d) h in
    go (whole_root d (n / 4)) (whole_root_is d (n / 4) (omega arith))
  where
    go : (r : ℕ) → IsWholeRoot (n / 4) r → IsWholeRoot n (if leb ((2 * r + 1) * (2 * r + 1)) n then 2 * r + 1 otherwise 2 * r)
    go r i = pick (leb ((2 * r + 1) * (2 * r + 1)) n) refl
      where
        pick : (b : Bool) → leb ((2 * r + 1) * (2 * r + 1)) n ≡ b → IsWholeRoot n (if b then 2 * r + 1 otherwise 2 * r)
        pick true t = record {
          within = leb-true _ _ t;
          beyond = omega (arith, i.beyond, square_next r, square_odd r, square_next (2 * r + 1));
        }
        pick false t = record {
          within = omega (arith, i.within, square_twice r);
          beyond = leb-false _ _ t;
        }

root_mono : (n r s : ℕ) → IsWholeRoot n r → IsWholeRoot n s → r ≤ s
root_mono n r s i j = let no : suc s ≤ r → ⊥ = λ h. clash (mul-le-mul h h) in omega (arith, lt_of_not-le no)
  where
    clash : suc s * suc s ≤ r * r → ⊥
    clash h = let e : suc s ≡ s + 1 = omega arith in let h' : (s + 1) * (s + 1) ≤ r * r = subst (λ (z : ℕ). z * z ≤ r * r) e h in omega (arith, i.within, j.beyond)

pub whole_root_unique : (n r s : ℕ) → IsWholeRoot n r → IsWholeRoot n s → r ≡ s
whole_root_unique n r s i j = le_antisymm (root_mono n r s i j) (root_mono n s r j i)

-- ---- the nearest root

-- with r the whole root of n: r itself or the next, as 2r + 1 is above 2√n or below
rounded : ℕ → ℕ → ℕ
rounded n r = if ltb ((2 * r + 1) * (2 * r + 1)) (4 * n) then r + 1 otherwise r

odd_square : (n r : ℕ) → 4 * n ≡ (2 * r + 1) * (2 * r + 1) → ⊥
odd_square n r e = omega (arith, square_odd r)

under_square : (q : ℕ) → (2 * q - 1) * (2 * q - 1) ≤ 4 * (q * q)
under_square zero = omega arith
under_square (suc p) = subst (λ (q : ℕ). (2 * q - 1) * (2 * q - 1) ≤ 4 * (q * q)) (add-one p) (omega (arith, square_odd_below p, square_next p))

even_tie : (n q : ℕ) → (2 * q - 1) * (2 * q - 1) ≡ 4 * n → q % 2 ≡ 0
even_tie n zero e = refl
even_tie n (suc p) e =
    let h : (2 * (p + 1) - 1) * (2 * (p + 1) - 1) ≡ 4 * n = subst (λ (q : ℕ). (2 * q - 1) * (2 * q - 1) ≡ 4 * n) (sym (add-one p)) e in
    absurd (omega (arith, square_odd_below p))

rounded_nearest : (n r : ℕ) → IsWholeRoot n r → NearestRoot n (rounded n r)
unfolding rounded
rounded_nearest n r i = pick (ltb ((2 * r + 1) * (2 * r + 1)) (4 * n)) refl
  where
    pick : (b : Bool) → ltb ((2 * r + 1) * (2 * r + 1)) (4 * n) ≡ b → NearestRoot n (if b then r + 1 otherwise r)
    pick true t = record {
      from = omega (arith, ltb-true ((2 * r + 1) * (2 * r + 1)) (4 * n) t, square_odd r, square_odd_below r);
      to = omega (arith, i.beyond, square_next r, square_odd (r + 1));
      from_tie = even_tie n (r + 1);
      to_tie = λ e. absurd (odd_square n (r + 1) e);
    }
    pick false t = record {
      from = omega (arith, i.within, under_square r);
      to = ltb-false ((2 * r + 1) * (2 * r + 1)) (4 * n) t;
      from_tie = even_tie n r;
      to_tie = λ e. absurd (odd_square n r e);
    }

nearest_mono : (n p q : ℕ) → 0 < n → NearestRoot n p → NearestRoot n q → p ≤ q
nearest_mono n zero q h i j = omega arith
nearest_mono n (suc p) q h i j = let no : suc q ≤ suc p → ⊥ = λ l. clash (omega arith) in omega (arith, lt_of_not-le no)
  where
    clash : q ≤ p → ⊥
    clash l =
        let e : suc p ≡ p + 1 = omega arith in
        let f : (2 * (p + 1) - 1) * (2 * (p + 1) - 1) ≤ 4 * n = subst (λ (z : ℕ). (2 * z - 1) * (2 * z - 1) ≤ 4 * n) e i.from in
        omega (arith, j.to, square_odd q, square_odd_below p, mul-le-mul l l)

pub nearest_unique : (n p q : ℕ) → 0 < n → NearestRoot n p → NearestRoot n q → p ≡ q
nearest_unique n p q h i j = le_antisymm (nearest_mono n p q h i j) (nearest_mono n q p h j i)

nearest_root_at : (n r : ℕ) → n < 4 ^ 53 → IsWholeRoot n r → nearest_root n ≡ rounded n r
unfolding nearest_root rounded
nearest_root_at n r h i = ap (rounded n) (whole_root_unique n (whole_root 53 n) r (whole_root_is 53 n h) i)

pub nearest_root_is : (n : ℕ) → n < 4 ^ 53 → NearestRoot n (nearest_root n)
unfolding nearest_root rounded
nearest_root_is n h = rounded_nearest n (whole_root 53 n) (whole_root_is 53 n h)

-- if w is left over from the whole root r, the root is nearer to r + 1 exactly if w is above r
pub nearest_root_by : (n r w : ℕ) → n < 4 ^ 53 → r * r + w ≡ n → w < 2 * r + 1 → nearest_root n ≡ if ltb r w then r + 1 otherwise r
unfolding rounded
nearest_root_by n r w h e l =
    nearest_root_at n r h (record { within = omega arith; beyond = omega (arith, square_next r) })
    ∙ ap (λ (b : Bool). if b then r + 1 otherwise r) (same (ltb r w) refl)
  where
    same : (b : Bool) → ltb r w ≡ b → ltb ((2 * r + 1) * (2 * r + 1)) (4 * n) ≡ b
    same true t = lt-ltb ((2 * r + 1) * (2 * r + 1)) (4 * n) (omega (arith, ltb-true r w t, square_odd r))
    same false t = le-ltb ((2 * r + 1) * (2 * r + 1)) (4 * n) (omega (arith, ltb-false r w t, square_odd r))

-- the root of a number of 105 or 106 digits, of which the last 52 are zeros, has 53 digits
pub nearest_root_least : (m : ℕ) → 2 ^ 52 ≤ m → m < 2 ^ 54 → 2 ^ 52 ≤ nearest_root (m * 2 ^ 52)
nearest_root_least m l h =
    let i = nearest_root_is (m * 2 ^ 52) (omega arith) in
    reaches (nearest_root (m * 2 ^ 52)) i.to
  where
    reaches : (q : ℕ) → 4 * (m * 2 ^ 52) ≤ (2 * q + 1) * (2 * q + 1) → 2 ^ 52 ≤ q
    reaches q t = let low : q < 2 ^ 52 → ⊥ = λ g. clash (omega arith) in omega (arith, lt_of_not-le low)
      where
        clash : 2 * q + 1 ≤ 2 ^ 53 - 1 → ⊥
        clash g = omega (arith, mul-le-mul g g)

pub nearest_root_most : (m : ℕ) → m + 2 ≤ 2 ^ 54 → nearest_root (m * 2 ^ 52) < 2 ^ 53
nearest_root_most m h =
    let i = nearest_root_is (m * 2 ^ 52) (omega arith) in
    stays (nearest_root (m * 2 ^ 52)) i.from
  where
    stays : (q : ℕ) → (2 * q - 1) * (2 * q - 1) ≤ 4 * (m * 2 ^ 52) → q < 2 ^ 53
    stays q t = lt_of_not-le (λ (g : 2 ^ 53 ≤ q). clash (omega arith))
      where
        clash : 2 ^ 54 - 1 ≤ 2 * q - 1 → ⊥
        clash g = omega (arith, mul-le-mul g g)
