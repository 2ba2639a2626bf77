-- A whole number as one natural number minus another, for arithmetic without signs. Assumes nothing.
use mathlib.Core.Bool.{Bool, true, false, not, cond}
use mathlib.Core.Path.{◌≡◌, ap, sym}
use Prim.Native.Nat.{ℕ, zero, suc, ◌+◌, ◌-◌, ◌*◌, ◌≤◌, ◌<◌}
use lib.Dec.{T, ltb, ltb→lt, nltb→le}
use lib.IntN.{ℤ, pos, negsuc, neg_ℤ, sub_ℕ, ◌+ℤ◌, ◌-ℤ◌, ◌*ℤ◌}
use native.Mathlib.Omega.{arith}

-- n is a minus b, or -(n + 1) is
abbrev pub Apart : ℤ → ℕ → ℕ → Type 0
Apart (pos n) a b = n + b ≡ a
Apart (negsuc n) a b = a + suc n ≡ b

-- z is a minus b
pub record Less (z : ℤ) (a b : ℕ) : Type 0 where
  pub apart : Apart z a b

pub less_pos : (n : ℕ) → Less (pos n) n 0
less_pos n = record { apart = omega arith }

-- the same number as another difference
pub less_as : {z : ℤ} {a b : ℕ} (a' b' : ℕ) → a + b' ≡ a' + b → Less z a b → Less z a' b'
less_as {z} {a} {b} a' b' e h = record { apart = by z h.apart }
  where
    by : (z : ℤ) → Apart z a b → Apart z a' b'
    by (pos n) k = omega arith
    by (negsuc n) k = omega arith

less_sub : (a b : ℕ) → Less (sub_ℕ a b) a b
less_sub a b = record { apart = by (ltb a b) (λ t. ltb→lt a b t) (λ t. nltb→le a b t) }
  where
    by : (x : Bool) → (T x → a < b) → (T (not x) → b ≤ a) → Apart (cond x (negsuc (b - suc a)) (pos (a - b))) a b
    by true under over = let h : a < b = under tt in omega arith
    by false under over = let h : b ≤ a = over tt in omega arith

pub less_neg : {z : ℤ} {a b : ℕ} → Less z a b → Less (neg_ℤ z) b a
less_neg {z} {a} {b} h = record { apart = by z h.apart }
  where
    by : (z : ℤ) → Apart z a b → Apart (neg_ℤ z) b a
    by (pos zero) k = omega arith
    by (pos (suc n)) k = omega arith
    by (negsuc n) k = omega arith

pub less_add : {z y : ℤ} {a b c d : ℕ} → Less z a b → Less y c d → Less (z +ℤ y) (a + c) (b + d)
less_add {z} {y} {a} {b} {c} {d} h k = by z y h.apart k.apart
  where
    by : (z y : ℤ) → Apart z a b → Apart y c d → Less (z +ℤ y) (a + c) (b + d)
    by (pos n) (pos m) h k = record { apart = omega arith }
    by (pos n) (negsuc m) h k = less_as (a + c) (b + d) (omega arith) (less_sub n (suc m))
    by (negsuc n) (pos m) h k = less_as (a + c) (b + d) (omega arith) (less_sub m (suc n))
    by (negsuc n) (negsuc m) h k = record { apart = omega arith }

pub less_minus : {z y : ℤ} {a b c d : ℕ} → Less z a b → Less y c d → Less (z -ℤ y) (a + d) (b + c)
less_minus h k = less_add h (less_neg k)

pub less_mul : {z y : ℤ} {a b c d : ℕ} → Less z a b → Less y c d → Less (z *ℤ y) (a * c + b * d) (a * d + b * c)
less_mul {z} {y} {a} {b} {c} {d} h k = by z y h.apart k.apart
  where
    same : (n m b d : ℕ) → n * m + ((n + b) * d + b * (m + d)) ≡ (n + b) * (m + d) + b * d
    same n m b d = omega arith

    other : (n m b c : ℕ) → n * m + ((n + b) * c + b * (c + m)) ≡ (n + b) * (c + m) + b * c
    other n m b c = omega arith

    mixed : (n m a d : ℕ) → n * m + (a * (m + d) + (a + n) * d) ≡ a * d + (a + n) * (m + d)
    mixed n m a d = omega arith

    product : (n m : ℕ) {a b : ℕ} → n * m + b ≡ a → Less (pos (n * m)) a b
    product n m e = record { apart = e }

    both : (n m a c : ℕ) → n * m + (a * (c + m) + (a + n) * c) ≡ a * c + (a + n) * (c + m)
    both n m a c = omega arith

    by : (z y : ℤ) → Apart z a b → Apart y c d → Less (z *ℤ y) (a * c + b * d) (a * d + b * c)
    by (pos n) (pos m) h k = record { apart = rw (sym h, sym k) (same n m b d) }
    by (pos n) (negsuc m) h k = less_neg (product n (suc m) (rw (sym h, sym k) (other n (suc m) b c)))
    by (negsuc n) (pos m) h k = less_neg (product (suc n) m (rw (sym h, sym k) (mixed (suc n) m a d)))
    by (negsuc n) (negsuc m) h k = record { apart = rw (sym h, sym k) (both (suc n) (suc m) a c) }

-- only one number is a minus b
pub less_one : {z y : ℤ} {a b : ℕ} → Less z a b → Less y a b → z ≡ y
less_one {z} {y} {a} {b} h k = by z y h.apart k.apart
  where
    by : (z y : ℤ) → Apart z a b → Apart y a b → z ≡ y
    by (pos n) (pos m) h k = ap pos (omega arith)
    by (pos n) (negsuc m) h k = absurd (omega arith)
    by (negsuc n) (pos m) h k = absurd (omega arith)
    by (negsuc n) (negsuc m) h k = ap negsuc (omega arith)
