-- Decimal numbers are read as numbers, and as moments if they are in range. Assumes nothing.
use Prim.Native.Nat.{ℕ, zero, suc, ◌+◌, ◌-◌, ◌*◌, ◌/◌, ◌%◌, ◌<◌, ◌≤◌}
use mathlib.Core.Bool.{Bool, true, false}
use mathlib.Core.List.{List, [], ◌∷◌, ◌++◌, append_assoc}
use mathlib.Core.Path.{◌≡◌, refl, sym, ap, ◌∙◌}
use native.Mathlib.Omega.{arith}
use borrow.Author.Tests.{lt-ltb, le-leb, ne_eqb}
use lib.Dec.{ltb}
use Rattle.base.specs.Limits.{end_of_time}
use Rattle.text_write.specs.Numerals.{glyph, decimal_of}
use Rattle.text_write.proofs.Decimal.{by_size, decimal_short, decimal_long}
use Rattle.listing_scan.specs.declared.Line.{Line}
use Rattle.listing_scan.specs.Reading.{is_decimal, number, digits, moment_from, state_line, kind_of}

pub glyph_small : (d : ℕ) → d < 10 → glyph d ≡ 48 + d
glyph_small d h = rw (lt-ltb d 10 h)

decimal_digit : (d : ℕ) → d < 10 → is_decimal (48 + d) ≡ true
decimal_digit d h = rw (le-leb 48 (48 + d) (omega arith), le-leb (48 + d) 57 (omega arith))

pub above_zero : (n : ℕ) → ltb 48 (48 + n) ≡ ltb 0 n
above_zero zero = refl
above_zero (suc n) = lt-ltb 48 (48 + suc n) (omega arith) ∙ sym (lt-ltb 0 (suc n) (omega arith))

module _ (ends : Line) (after : List ℕ → Line) where
  number_short : (n : ℕ) (rest : List ℕ) → n < 10 → number ends after (decimal_of n ++ rest) ≡ digits (ltb 0 n) ends after rest
  unfolding number
  number_short n rest h = rw (decimal_short n h, glyph_small n h, decimal_digit n h, above_zero n)

  digit_some : (some : Bool) → some ≡ true → (d : ℕ) (rest : List ℕ) → d < 10 → digits some ends after (glyph d ∷ rest) ≡ digits some ends after rest
  unfolding digits
  digit_some true e d rest g = rw (glyph_small d g, ne_eqb (48 + d) 32 (λ e. omega arith), decimal_digit d g)
  digit_some false e d rest g = cc

  digit_more : (n d : ℕ) (rest : List ℕ) → 0 < n → d < 10 → digits (ltb 0 n) ends after (glyph d ∷ rest) ≡ digits (ltb 0 n) ends after rest
  unfolding digits
  digit_more n d rest h g = digit_some (ltb 0 n) (lt-ltb 0 n h) d rest g

  pub number_read : (most n : ℕ) (rest : List ℕ) → n ≤ most → number ends after (decimal_of n ++ rest) ≡ digits (ltb 0 n) ends after rest
  number_read zero n rest h = number_short n rest (omega arith)
  number_read (suc most) n rest h =
      by_size n
      (number_short n rest)
      (λ big.
      let q : ltb 0 (n / 10) ≡ ltb 0 n = lt-ltb 0 (n / 10) (omega arith) ∙ sym (lt-ltb 0 n (omega arith)) in
      ap (λ (l : List ℕ). number ends after (l ++ rest)) (decimal_long n big)
      ∙ ap (number ends after) (append_assoc (decimal_of (n / 10)) (glyph (n % 10) ∷ []) rest)
      ∙ number_read most (n / 10) (glyph (n % 10) ∷ rest) (omega arith)
      ∙ digit_more (n / 10) (n % 10) rest (omega arith) (omega arith)
      ∙ ap (λ (t : Bool). digits t ends after rest) q)

-- ---- a moment

moment_short : (n : ℕ) (rest : List ℕ) → n < 10 → state_line (decimal_of n ++ rest) ≡ moment_from n rest
unfolding state_line
moment_short n rest h = let e : 48 + n - 48 ≡ n = omega arith in rw (decimal_short n h, glyph_small n h, decimal_digit n h, e)

moment_more : (n d : ℕ) (rest : List ℕ) → 0 < n → d < 10 → 10 * n + d < end_of_time → moment_from n (glyph d ∷ rest) ≡ moment_from (10 * n + d) rest
unfolding moment_from
moment_more n d rest h g f =
    let e : 48 + d - 48 ≡ d = omega arith in
    rw (glyph_small d g, decimal_digit d g, lt-ltb 0 n h, e, lt-ltb (10 * n + d) end_of_time f)

pub moment_read : (most n : ℕ) (rest : List ℕ) → n ≤ most → n < end_of_time → state_line (decimal_of n ++ rest) ≡ moment_from n rest
moment_read zero n rest h f = moment_short n rest (omega arith)
moment_read (suc most) n rest h f =
    by_size n
    (moment_short n rest)
    (λ big.
    let e : 10 * (n / 10) + n % 10 ≡ n = omega arith in
    ap (λ (l : List ℕ). state_line (l ++ rest)) (decimal_long n big)
    ∙ ap state_line (append_assoc (decimal_of (n / 10)) (glyph (n % 10) ∷ []) rest)
    ∙ moment_read most (n / 10) (glyph (n % 10) ∷ rest) (omega arith) (omega arith)
    ∙ moment_more (n / 10) (n % 10) rest (omega arith) (omega arith) (omega arith)
    ∙ ap (λ (t : ℕ). moment_from t rest) e)

-- ---- its first digit says that the line is a state's

pub record Digit (xs : List ℕ) : Type 0 where
  pub first : ℕ
  pub rest : List ℕ
  pub is : xs ≡ first ∷ rest
  pub low : 48 ≤ first
  pub high : first ≤ 57

digit_short : (n : ℕ) → n < 10 → Digit (decimal_of n)
digit_short n h = record { first = 48 + n; rest = []; is = decimal_short n h ∙ ap (λ (b : ℕ). b ∷ []) (glyph_small n h); low = omega arith; high = omega arith }

first_digit : (most n : ℕ) → n ≤ most → Digit (decimal_of n)
first_digit zero n h = digit_short n (omega arith)
first_digit (suc most) n h =
    by_size n
    (digit_short n)
    (λ big.
    let d = first_digit most (n / 10) (omega arith) in
    record {
      first = d.first;
      rest = d.rest ++ (glyph (n % 10) ∷ []);
      is = decimal_long n big ∙ ap (λ (l : List ℕ). l ++ (glyph (n % 10) ∷ [])) d.is;
      low = d.low;
      high = d.high;
    })

state_kind : (b : ℕ) (rest : List ℕ) → 48 ≤ b → b ≤ 57 → kind_of (b ∷ rest) ≡ state_line (b ∷ rest)
unfolding kind_of
state_kind b rest h g = rw (ne_eqb b 83 (λ e. omega arith), ne_eqb b 65 (λ e. omega arith), ne_eqb b 82 (λ e. omega arith))

pub moment_kind : (n : ℕ) (rest : List ℕ) → n < end_of_time → kind_of (decimal_of n ++ rest) ≡ moment_from n rest
moment_kind n rest f =
    let d = first_digit n n (omega arith) in
    ap (λ (l : List ℕ). kind_of (l ++ rest)) d.is
    ∙ state_kind d.first (d.rest ++ rest) d.low d.high
    ∙ ap (λ (l : List ℕ). state_line (l ++ rest)) (sym d.is)
    ∙ moment_read n n rest (omega arith) f
