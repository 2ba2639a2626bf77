-- What is written can be read back: the digits of a number, with a space or the end after them, are a field of that value. Assumes nothing.
use Prim.Native.Nat.{ℕ, zero, suc, ◌+◌, ◌*◌, ◌/◌, ◌%◌, ◌^◌, ◌<◌, ◌≤◌}
use mathlib.Core.Bool.{Bool, true, false, ◌&&◌}
use mathlib.Core.List.{List, [], ◌∷◌, ◌++◌}
use mathlib.Core.Path.{◌≡◌, refl, ap, ◌∙◌}
use native.Mathlib.Nat.{pow-succ'}
use native.Mathlib.Omega.{arith}
use lib.ListN.{length}
use lib.Seq.{drop-append_seam}
use borrow.Author.Tests.{lt-ltb, le-ltb, le-leb, lt-leb, ltb-true, ne_eqb}
use Rattle.text_write.specs.Numerals.{glyph, digits, hex16, decimal_of}
use Rattle.text_read.specs.Fields.{until_space, digit_value, field, is_digit, all_digits, value_after, read_number, read_decimal, read_hex16}
use Rattle.text_write.proofs.Decimal.{by_size, decimal_short, decimal_long, decimal_some, decimal_fits}
use Rattle.text_write.proofs.Digits.{length_digits}

digit_back : (d : ℕ) → d < 16 → digit_value (glyph d) ≡ d
digit_back d h =
    by_size d
    (λ small. rw (lt-ltb d 10 small, le-leb 48 (48 + d) (omega arith), le-leb (48 + d) 57 (omega arith)) (omega arith))
    (λ big. rw (le-ltb d 10 big, le-leb 48 (87 + d) (omega arith), lt-leb (87 + d) 57 (omega arith), le-leb 97 (87 + d) (omega arith), le-leb (87 + d) 102 (omega arith)) (omega arith))

-- xs are digits that spell n
pub record Spells (base : ℕ) (xs : List ℕ) (n : ℕ) : Type 0 where
  pub all : all_digits base xs ≡ true
  pub value : value_after base 0 xs ≡ n

value_last : (base n : ℕ) (xs : List ℕ) (b : ℕ) → value_after base n (xs ++ (b ∷ [])) ≡ base * value_after base n xs + digit_value b
unfolding value_after
value_last base n [] b = refl
value_last base n (x ∷ xs) b = value_last base (base * n + digit_value x) xs b

all_last : (base : ℕ) (xs : List ℕ) (b : ℕ) → is_digit base b ≡ true → all_digits base xs ≡ true → all_digits base (xs ++ (b ∷ [])) ≡ true
unfolding all_digits
all_last base [] b h e = rw h
all_last base (x ∷ xs) b h e = go (is_digit base x) e (all_last base xs b h)
  where
    go : (t : Bool) → (t && all_digits base xs) ≡ true → (all_digits base xs ≡ true → all_digits base (xs ++ (b ∷ [])) ≡ true)
        → (t && all_digits base (xs ++ (b ∷ []))) ≡ true
    go true e later = later e
    go false e later = e

pub one_more : (base : ℕ) (xs : List ℕ) (n d : ℕ) → base ≤ 16 → d < base → Spells base xs n → Spells base (xs ++ (glyph d ∷ [])) (base * n + d)
one_more base xs n d h g s =
    let back : digit_value (glyph d) ≡ d = digit_back d (omega arith) in
    record {
      all = all_last base xs (glyph d) (lt-ltb (digit_value (glyph d)) base (rw back g)) s.all;
      value = value_last base 0 xs (glyph d) ∙ rw (back, s.value);
    }

none : (base : ℕ) → Spells base [] 0
unfolding all_digits value_after
none base = record { all = refl; value = refl }

small_spells : (n : ℕ) → n < 10 → Spells 10 (decimal_of n) n
small_spells n small = let e : 10 * 0 + n ≡ n = omega arith in rw (decimal_short n small) (rw e at (one_more 10 [] 0 n (omega arith) small (none 10)))

pub decimal_spells : (most n : ℕ) → n ≤ most → Spells 10 (decimal_of n) n
decimal_spells zero n h = small_spells n (omega arith)
decimal_spells (suc most) n h =
    by_size n
    (small_spells n)
    (λ big.
    let e : 10 * (n / 10) + n % 10 ≡ n = omega arith in
    rw (decimal_long n big) (rw e at (one_more 10 (decimal_of (n / 10)) (n / 10) (n % 10) (omega arith) (omega arith) (decimal_spells most (n / 10) (omega arith)))))

pub hex_spells : (k n : ℕ) → n < 16 ^ k → Spells 16 (digits 16 k n) n
unfolding digits
hex_spells zero n h = let e : 0 ≡ n = omega arith in rw e at (none 16)
hex_spells (suc k) n h =
    let e : 16 * (n / 16) + n % 16 ≡ n = omega arith in
    let p : 16 ^ suc k ≡ 16 * 16 ^ k = pow-succ' 16 k in
    rw e at (one_more 16 (digits 16 k (n / 16)) (n / 16) (n % 16) (omega arith) (omega arith) (hex_spells k (n / 16) (omega arith)))

-- a space is not a digit, so a field of digits ends after the digits
no_space : (base b : ℕ) → base ≤ 16 → is_digit base b ≡ true → b ≡ 32 → ⊥
no_space base b h e z = let v : digit_value b ≡ 16 = ap digit_value z in omega (arith, ltb-true (digit_value b) base e)

through : (base : ℕ) (xs rest : List ℕ) → base ≤ 16 → all_digits base xs ≡ true → until_space rest ≡ [] → until_space (xs ++ rest) ≡ xs
unfolding all_digits until_space
through base [] rest h e z = z
through base (b ∷ xs) rest h e z = go (is_digit base b) refl e (through base xs rest h)
  where
    go : (t : Bool) → is_digit base b ≡ t → (t && all_digits base xs) ≡ true → (all_digits base xs ≡ true → until_space rest ≡ [] → until_space (xs ++ rest) ≡ xs) → until_space ((b ∷ xs) ++ rest) ≡ b ∷ xs
    go true q e later = rw (ne_eqb b 32 (no_space base b h q)) (ap (λ (l : List ℕ). b ∷ l) (later e z))
    go false q e later = cc

module _ (base least most : ℕ) (before xs rest : List ℕ) (n : ℕ) (s : Spells base xs n) where
  pub read_back : base ≤ 16 → least ≤ length xs → length xs ≤ most → n < 0x1_0000_0000_0000_0000 → until_space rest ≡ []
      → read_number base least most (before ++ (xs ++ rest)) (length before) ≡ field n (length before + length xs)
  unfolding read_number
  read_back h low high fits end =
      rw (drop-append_seam before (xs ++ rest), through base xs rest h s.all end, s.all, s.value, lt-ltb n 0x1_0000_0000_0000_0000 fits)
      (rw (le-leb least (length xs) low, le-leb (length xs) most high))

pub decimal_back : (before rest : List ℕ) (n : ℕ) → n < 0x1_0000_0000_0000_0000 → until_space rest ≡ []
    → read_decimal (before ++ (decimal_of n ++ rest)) (length before) ≡ field n (length before + length (decimal_of n))
decimal_back before rest n fits end =
    read_back 10 1 20 before (decimal_of n) rest n (decimal_spells n n (omega arith)) (omega arith) (decimal_some n) (decimal_fits n fits) fits end

pub hex16_back : (before rest : List ℕ) (bits : ℕ) → bits < 0x1_0000_0000_0000_0000 → until_space rest ≡ []
    → read_hex16 (before ++ (hex16 bits ++ rest)) (length before) ≡ field bits (length before + length (hex16 bits))
hex16_back before rest bits fits end =
    let l : length (hex16 bits) ≡ 16 = length_digits 16 16 bits in
    read_back 16 16 16 before (hex16 bits) rest bits (hex_spells 16 bits fits) (omega arith) (omega arith) (omega arith) fits end
