-- How far a field is read: what the rest of it still has to say. Assumes nothing.
use Prim.Native.Nat.{ℕ, zero, suc, ◌+◌, ◌-◌, ◌*◌, ◌/◌, ◌<◌, ◌≤◌}
use mathlib.Core.Bool.{and-false}
use mathlib.Core.List.{List, [], ◌∷◌}
use mathlib.Core.Path.{◌≡◌, refl, ◌∙◌}
use native.Mathlib.Nat.{le_trans, le_refl, add-zero, mul_comm, div-lt_iff_lt-mul, le-div_iff_mul-le}
use native.Mathlib.Numerals.{add-one}
use native.Mathlib.Omega.{arith}
use lib.ListN.{length, drop, get_or, drop_of_length-le}
use lib.Seq.{drop-cons}
use borrow.Author.Tests.{lt-ltb, le-ltb, eq-eqb, ne_eqb}
use Rattle.std.specs.Prelude.{None}
use Rattle.text_read.specs.Fields.{until_space, digit_value, all_digits, value_after, sized, numeral, read_number}

pub at_end_lem : (s : List ℕ) (i : ℕ) → length s ≤ i → until_space (drop i s) ≡ []
unfolding until_space
at_end_lem s i h = rw (drop_of_length-le s h)

pub at_space : (s : List ℕ) (i : ℕ) → i < length s → get_or s i 0 ≡ 32 → until_space (drop i s) ≡ []
unfolding until_space
at_space s i h e = rw (drop-cons s i 0 h, eq-eqb (get_or s i 0) 32 e)

pub at_byte : (s : List ℕ) (i : ℕ) → i < length s → (get_or s i 0 ≡ 32 → ⊥) → until_space (drop i s) ≡ get_or s i 0 ∷ until_space (drop (i + 1) s)
unfolding until_space
at_byte s i h ne = rw (add-one, drop-cons s i 0 h, ne_eqb (get_or s i 0) 32 ne)

-- of the field f, count digits that spell n are read, and the rest is to come
pub record Reads (base : ℕ) (f rest : List ℕ) (n count : ℕ) : Type 0 where
  pub digits : all_digits base f ≡ all_digits base rest
  pub value : value_after base 0 f ≡ value_after base n rest
  pub size : length f ≡ count + length rest

pub unread : (base : ℕ) (f : List ℕ) → Reads base f f 0 0
unread base f = record { digits = refl; value = refl; size = omega arith }

pub one_more : (base : ℕ) (f rest : List ℕ) (n count b : ℕ) → Reads base f (b ∷ rest) n count → digit_value b < base → Reads base f rest (base * n + digit_value b) (count + 1)
unfolding all_digits value_after
one_more base f rest n count b r h = record { digits = r.digits ∙ rw (lt-ltb (digit_value b) base h); value = r.value; size = omega (arith, r.size) }

grows : (base : ℕ) → 1 ≤ base → (n : ℕ) (rest : List ℕ) → n ≤ value_after base n rest
unfolding value_after
grows base one n [] = le_refl n
grows zero one n (b ∷ rest) = elim one [ ]
grows (suc k) one n (b ∷ rest) = le_trans (omega arith) (grows (suc k) one (suc k * n + digit_value b) rest)

module _ (base least most : ℕ) (f : List ℕ) (at : ℕ) where
  pub whole_field : (n count : ℕ) → Reads base f [] n count → n < 0x1_0000_0000_0000_0000 → sized least most count n (at + count) ≡ numeral base least most f at
  unfolding all_digits value_after
  whole_field n count r h = rw (r.digits, r.value, r.size, lt-ltb n 0x1_0000_0000_0000_0000 h, add-zero)

  pub no_digit : (n count b : ℕ) (rest : List ℕ) → Reads base f (b ∷ rest) n count → base ≤ digit_value b → None ≡ numeral base least most f at
  unfolding all_digits
  no_digit n count b rest r h = rw (r.digits, le-ltb (digit_value b) base h)

  pub too_large : (n count b : ℕ) (rest : List ℕ) → 1 ≤ base → Reads base f (b ∷ rest) n count → 0x1_0000_0000_0000_0000 ≤ base * n + digit_value b → None ≡ numeral base least most f at
  unfolding value_after
  too_large n count b rest one r h =
      rw (r.value, le-ltb (value_after base (base * n + digit_value b) rest) 0x1_0000_0000_0000_0000 (le_trans h (grows base one (base * n + digit_value b) rest)), and-false)

-- the field ends at i
pub ended : (base least most : ℕ) (s : List ℕ) (at i n : ℕ) → at ≤ i → n < 0x1_0000_0000_0000_0000
    → Reads base (until_space (drop at s)) (until_space (drop i s)) n (i - at) → until_space (drop i s) ≡ [] → sized least most (i - at) n i ≡ read_number base least most s at
unfolding read_number
ended base least most s at i n h g r e =
    let p : at + (i - at) ≡ i = omega arith in
    rw p at (whole_field base least most (until_space (drop at s)) at n (i - at) (rw e at r) g)

-- the test by which the code finds that one digit more does not fit
pub overflows : (base n d : ℕ) → 1 ≤ base → d ≤ 0xffff_ffff_ffff_ffff → (0xffff_ffff_ffff_ffff - d) / base < n → 0x1_0000_0000_0000_0000 ≤ base * n + d
overflows base n d one h l = omega (arith, rw (mul_comm n base) at ((div-lt_iff_lt-mul one).0 l))

pub stays : (base n d : ℕ) → 1 ≤ base → d ≤ 0xffff_ffff_ffff_ffff → n ≤ (0xffff_ffff_ffff_ffff - d) / base → base * n + d < 0x1_0000_0000_0000_0000
stays base n d one h l = omega (arith, rw (mul_comm n base) at ((le-div_iff_mul-le one).0 l))
