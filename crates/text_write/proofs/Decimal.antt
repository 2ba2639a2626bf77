-- The shortest decimal digits: one digit below ten, else those of n / 10 and one more; a number of 64 bits has at most 20. Assumes nothing.
use Prim.Native.Nat.{ℕ, zero, suc, ◌*◌, ◌/◌, ◌%◌, ◌^◌, ◌<◌, ◌≤◌}
use mathlib.Core.Bool.{Bool, true, false}
use mathlib.Core.List.{List, [], ◌∷◌, ◌++◌, append_assoc, append-nil}
use mathlib.Core.Path.{◌≡◌, refl, ap}
use native.Mathlib.Nat.{div-one, div-div-eq-div-mul, one-le-pow, pow-succ'}
use native.Mathlib.Omega.{arith}
use lib.Dec.{ltb}
use lib.ListN.{length, length-append}
use borrow.Author.Tests.{lt-ltb, le-ltb, ltb-true, ltb-false}
use Rattle.text_write.specs.Numerals.{glyph, digits, shortest, decimal_of}

by_test : (t : Bool) (n : ℕ) {P : Type 0} → ltb n 10 ≡ t → (n < 10 → P) → (10 ≤ n → P) → P
by_test true n q small big = small (ltb-true n 10 q)
by_test false n q small big = big (ltb-false n 10 q)

pub by_size : (n : ℕ) {P : Type 0} → (n < 10 → P) → (10 ≤ n → P) → P
by_size n small big = by_test (ltb n 10) n refl small big

-- any number of divisions that is enough gives the same
enough : (d e n : ℕ) → n ≤ d → n ≤ e → shortest d n ≡ shortest e n
unfolding shortest
enough zero zero n h g = refl
enough zero (suc e) n h g = rw (lt-ltb n 10 (omega arith))
enough (suc d) zero n h g = rw (lt-ltb n 10 (omega arith))
enough (suc d) (suc e) n h g =
    by_size n
    (λ small. rw (lt-ltb n 10 small))
    (λ big. rw (le-ltb n 10 big) (ap (λ (l : List ℕ). l ++ (glyph (n % 10) ∷ [])) (enough d e (n / 10) (omega arith) (omega arith))))

pub decimal_short : (n : ℕ) → n < 10 → decimal_of n ≡ glyph n ∷ []
unfolding decimal_of shortest
decimal_short zero h = refl
decimal_short (suc k) h = rw (lt-ltb (suc k) 10 h)

pub decimal_long : (n : ℕ) → 10 ≤ n → decimal_of n ≡ decimal_of (n / 10) ++ (glyph (n % 10) ∷ [])
unfolding decimal_of shortest
decimal_long zero h = absurd (omega arith)
decimal_long (suc k) h = rw (le-ltb (suc k) 10 h) (ap (λ (l : List ℕ). l ++ (glyph (suc k % 10) ∷ [])) (enough k (suc k / 10) (suc k / 10) (omega arith) (omega arith)))

-- a number of more than k digits: those of n / 10^k, and then the last k
pub decimal_cut : (k n : ℕ) → 10 ^ k ≤ n → decimal_of n ≡ decimal_of (n / 10 ^ k) ++ digits 10 k n
unfolding digits
decimal_cut zero n h = rw (div-one n, append-nil)
decimal_cut (suc k) n h =
    let p : 10 ^ suc k ≡ 10 * 10 ^ k = pow-succ' 10 k in
    let some : 1 ≤ 10 ^ k = one-le-pow k 10 (omega arith) in
    rw (decimal_long n (omega arith), decimal_cut k (n / 10) (omega arith), append_assoc, div-div-eq-div-mul n 10 (10 ^ k), ← p)

-- a number of exactly one digit more than k
pub decimal_exact : (k n : ℕ) → 10 ^ k ≤ n → n < 10 ^ suc k → decimal_of n ≡ digits 10 (suc k) n
unfolding digits
decimal_exact zero n h g = let e : n % 10 ≡ n = omega arith in rw (decimal_short n (omega arith), e)
decimal_exact (suc k) n h g =
    let p : 10 ^ suc k ≡ 10 * 10 ^ k = pow-succ' 10 k in
    let q : 10 ^ suc (suc k) ≡ 10 * 10 ^ suc k = pow-succ' 10 (suc k) in
    let some : 1 ≤ 10 ^ k = one-le-pow k 10 (omega arith) in
    rw (decimal_long n (omega arith), decimal_exact k (n / 10) (omega arith) (omega arith))

pub decimal_some : (n : ℕ) → 0 < length (decimal_of n)
decimal_some n = by_size n (λ small. rw (decimal_short n small) (omega arith)) (λ big. rw (decimal_long n big, length-append) (omega arith))

pub decimal_wide : (k n : ℕ) → 10 ^ k ≤ n → n < 10 ^ suc k → length (decimal_of n) ≡ suc k
decimal_wide zero n h g = rw (decimal_short n (omega arith))
decimal_wide (suc k) n h g =
    let p : 10 ^ suc k ≡ 10 * 10 ^ k = pow-succ' 10 k in
    let q : 10 ^ suc (suc k) ≡ 10 * 10 ^ suc k = pow-succ' 10 (suc k) in
    let some : 1 ≤ 10 ^ k = one-le-pow k 10 (omega arith) in
    let l : length (decimal_of (n / 10)) ≡ suc k = decimal_wide k (n / 10) (omega arith) (omega arith) in
    rw (decimal_long n (omega arith), length-append, l) (omega arith)

pub decimal_length : (k n : ℕ) → n < 10 * 10 ^ k → length (decimal_of n) ≤ suc k
decimal_length zero n h = let e : decimal_of n ≡ glyph n ∷ [] = decimal_short n (omega arith) in rw e (omega arith)
decimal_length (suc k) n h =
    by_size n
    (λ small. rw (decimal_short n small) (omega arith))
    (λ big. rw (decimal_long n big, length-append) (let p : length (decimal_of (n / 10)) ≤ suc k = decimal_length k (n / 10) (omega arith) in omega arith))

pub decimal_fits : (n : ℕ) → n < 0x1_0000_0000_0000_0000 → length (decimal_of n) ≤ 20
decimal_fits n h = decimal_length 19 n (omega arith)
