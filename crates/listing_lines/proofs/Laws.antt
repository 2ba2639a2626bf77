-- The line of a state read at once, after one more byte or part. Assumes nothing.
use Prim.Native.Nat.{ℕ, zero, suc, ◌+◌, ◌-◌, ◌*◌, ◌%◌, ◌<◌, ◌≤◌}
use mathlib.Core.Bool.{Bool, true, false, ◌&&◌}
use mathlib.Core.List.{List, [], ◌∷◌}
use mathlib.Core.Logic.{◌↔◌}
use mathlib.Core.Path.{◌≡◌, refl, sym, ap, ◌∙◌}
use native.Mathlib.Nat.{add-zero, zero-add}
use native.Mathlib.Numerals.{add-one}
use native.Mathlib.Omega.{arith}
use borrow.Author.Tests.{lt-ltb, le-ltb, ltb-true, le-leb, lt-leb, leb-true, ltb-false, eqb-true}
use lib.Dec.{leb, ltb, eqb}
use lib.ListN.{length, get_or, drop, drop_of_length-le}
use lib.Seq.{drop-cons}
use Rattle.std.specs.Prelude.{Some, None}
use Rattle.base.specs.Limits.{end_of_time}
use Rattle.base.specs.Choice.{◌<?◌}
use Rattle.listing_lines.specs.Digits.{is_decimal, hex_value, appended, finite_bits, FiniteBits}
use Rattle.listing_lines.specs.Whole.{Values, spelled_from, goes_on, moment_on}

both : (p q : Bool) → (p && q) ≡ true → (p ≡ true) × (q ≡ true)
both true q e = (refl, e)
both false q e = (e, (cc))

-- ---- moments

module _ (t b : ℕ) where
  pub below_digits : b < 48 → false ≡ goes_on t b
  unfolding goes_on
  below_digits h = rw (lt-leb 48 b h)

  pub above_digits : 48 ≤ b → 57 < b → false ≡ goes_on t b
  unfolding goes_on
  above_digits l h = rw (le-leb 48 b l, lt-leb b 57 h)

  pub leading_zero : 48 ≤ b → b ≤ 57 → t ≡ 0 → false ≡ goes_on t b
  unfolding goes_on
  leading_zero l m z = rw (le-leb 48 b l, le-leb b 57 m, le-ltb 0 t (omega arith))

  pub in_range : 48 ≤ b → b ≤ 57 → (t ≡ 0 → ⊥) → (r : Bool) → r ≡ ltb t 315_576_000_000 → r ≡ goes_on t b
  unfolding goes_on
  in_range l m z true e =
      let s = ltb-true t 315_576_000_000 (sym e) in
      rw (le-leb 48 b l, le-leb b 57 m, lt-ltb 0 t (omega arith), lt-ltb (10 * t + (b - 48)) end_of_time (omega arith))
  in_range l m z false e = far (ltb t 315_576_000_000) refl
    where
      far : (r : Bool) → ltb t 315_576_000_000 ≡ r → false ≡ goes_on t b
      far true q = (cc)
      far false q = rw (le-leb 48 b l, le-leb b 57 m, lt-ltb 0 t (omega arith), le-ltb (10 * t + (b - 48)) end_of_time (omega (arith, ltb-false t 315_576_000_000 q)))

  pub more_least : goes_on t b ≡ true → 48 ≤ b
  unfolding goes_on
  more_least g = leb-true 48 b (both (leb 48 b) (leb b 57) (both (is_decimal b) (0 <? t) (both (is_decimal b && (0 <? t)) _ g).0).0).0

  pub more_room : goes_on t b ≡ true → 10 * t + (b - 48) < end_of_time
  unfolding goes_on
  more_room g = ltb-true (10 * t + (b - 48)) end_of_time (both (is_decimal b && (0 <? t)) _ g).1

module _ (block : List ℕ) (i t : ℕ) where
  pub moment_more : i < length block → goes_on t (get_or block i 0) ≡ true → moment_on (drop i block) t i ≡ moment_on (drop (i + 1) block) (10 * t + (get_or block i 0 - 48)) (i + 1)
  unfolding moment_on
  moment_more h g = rw (drop-cons block i 0 h, g, add-one i)

  pub moment_stops : i < length block → goes_on t (get_or block i 0) ≡ false → moment_on (drop i block) t i ≡ record { t = t; end = i }
  unfolding moment_on
  moment_stops h g = rw (drop-cons block i 0 h, g)

  pub moment_over : length block ≤ i → moment_on (drop i block) t i ≡ record { t = t; end = i }
  unfolding moment_on
  moment_over h = rw (drop_of_length-le block h)

-- ---- sixteen digits

module _ (block : List ℕ) (at bits d : ℕ) (e : d ≡ hex_value (get_or block at 0)) where
  pub spelled_on : (left : ℕ) → 0 < left → d < 16 → spelled_from block left at bits ≡ spelled_from block (left - 1) (at + 1) (bits % 0x1000_0000_0000_0000 * 16 + d)
  unfolding spelled_from
  spelled_on zero some h = absurd (omega arith)
  spelled_on (suc left) some h =
      let k : suc left - 1 ≡ left = omega arith in
      rw (lt-ltb (hex_value (get_or block at 0)) 16 (rw e at h), next h, k)
    where
      next : d < 16 → appended bits (hex_value (get_or block at 0)) ≡ bits % 0x1000_0000_0000_0000 * 16 + d
      next h = omega (arith, e)

  pub spelled_off : (left : ℕ) → 0 < left → 16 ≤ d → spelled_from block left at bits ≡ None
  unfolding spelled_from
  spelled_off zero some h = absurd (omega arith)
  spelled_off (suc left) some h = rw (le-ltb (hex_value (get_or block at 0)) 16 (rw e at h))

pub spelled_all : (block : List ℕ) (at bits left : ℕ) → left ≤ 0 → spelled_from block left at bits ≡ Some bits
unfolding spelled_from
spelled_all block at bits zero h = refl
spelled_all block at bits (suc left) h = absurd (omega arith)

-- ---- the table of digits

-- each value is that of its place, from a byte on
unfoldable pub agrees : ℕ → List ℕ → Bool
agrees b [] = true
agrees b (v ∷ vs) = eqb v (hex_value b) && agrees (suc b) vs

agreed : (b : ℕ) (vs : List ℕ) → agrees b vs ≡ true → (i : ℕ) → i < length vs → get_or vs i 0 ≡ hex_value (b + i)
unfolding agrees
agreed b [] h i l = absurd (omega arith)
agreed b (v ∷ vs) h zero l = eqb-true v (hex_value b) (both (eqb v (hex_value b)) _ h).0 ∙ ap hex_value (sym (add-zero b))
agreed b (v ∷ vs) h (suc i) l = agreed (suc b) vs (both (eqb v (hex_value b)) _ h).1 i (omega arith) ∙ ap hex_value (on b i)
  where
    on : (b i : ℕ) → suc b + i ≡ b + suc i
    on b i = omega arith

pub values_are : (vs : List ℕ) → agrees 0 vs ≡ true → length vs ≡ 256 → Values vs
values_are vs h l = record { are = λ b lt. agreed 0 vs h b (omega arith) ∙ ap hex_value (zero-add b) }

-- ---- finite floats

-- of 64 bits the test finds those of a finite float and no others
pub finite_told : (bits : ℕ) → bits < 0x1_0000_0000_0000_0000 → (finite_bits bits ≡ true) ↔ FiniteBits bits
finite_told bits h =
    (λ e. let below : bits % 0x8000_0000_0000_0000 < 0x7ff0_0000_0000_0000 = ltb-true _ _ e in (h, omega arith), λ f. lt-ltb (bits % 0x8000_0000_0000_0000) 0x7ff0_0000_0000_0000 f.1)
