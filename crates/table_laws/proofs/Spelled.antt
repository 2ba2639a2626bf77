-- The printed bytes of a float spell the float rounded (document 02, R-13). Assumes nothing.
use Prim.Native.Nat.{ℕ, zero, suc, ◌+◌, ◌*◌, ◌/◌, ◌%◌, ◌^◌}
use mathlib.Core.Bool.{Bool, true, ◌&&◌}
use mathlib.Core.List.{[], ◌∷◌, ◌++◌, append_assoc, append-nil}
use mathlib.Core.Path.{◌≡◌, refl, sym, ap, ◌∙◌}
use native.Mathlib.Nat.{div-one, pow-zero, pow-succ', div-div-eq-div-mul, le_refl}
use native.Mathlib.Omega.{arith}
use lib.Ieee.{Float}
use lib.Ieee.Scale.{finite}
use Rattle.base.specs.Choice.{◌<?◌}
use Rattle.text_write.specs.Numerals.{glyph, digits, decimal_of}
use Rattle.text_write.proofs.Back.{Spells, one_more, decimal_spells}
use Rattle.text_write.proofs.Decimal.{decimal_some}
use Rattle.text_write.proofs.Digits.{length_digits}
use Rattle.text_decimal.specs.Numeral.{count, unit_of, units_in, is_negative, sign_of, units_text, numeral}
use Rattle.text_decimal.specs.declared.Places.{Places}
use Rattle.text_decimal.proofs.Values.{rounded}
use Rattle.table_laws.specs.Spelled.{Spelled, PrintedFloat}

-- the digits before the point and those after it, one after the other
whole : (k q : ℕ) → Spells 10 (decimal_of (q / 10 ^ k) ++ digits 10 k q) q
unfolding digits
whole zero q = rw (pow-zero, div-one, append-nil) (decimal_spells q q (le_refl q))
whole (suc k) q =
    let e : 10 * (q / 10) + q % 10 ≡ q = omega arith in
    let front : q / 10 ^ suc k ≡ q / 10 / 10 ^ k = ap (λ (z : ℕ). q / z) (pow-succ' 10 k) ∙ sym (div-div-eq-div-mul q 10 (10 ^ k)) in
    let text : decimal_of (q / 10 ^ suc k) ++ (digits 10 k (q / 10) ++ (glyph (q % 10) ∷ [])) ≡ (decimal_of (q / 10 / 10 ^ k) ++ digits 10 k (q / 10)) ++ (glyph (q % 10) ∷ []) =
    rw front (sym (append_assoc (decimal_of (q / 10 / 10 ^ k)) (digits 10 k (q / 10)) (glyph (q % 10) ∷ []))) in
    rw text (rw e at (one_more 10 (decimal_of (q / 10 / 10 ^ k) ++ digits 10 k (q / 10)) (q / 10) (q % 10) (omega arith) (omega arith) (whole k (q / 10))))

pub spelled : (negative : Bool) (places : Places) (q : ℕ) → Spelled (negative && (0 <? q)) (count places) q (units_text negative places q)
unfolding units_text sign_of
spelled negative places q =
    let s = whole (count places) q in
    record {
      front = decimal_of (q / unit_of places);
      behind = digits 10 (count places) q;
      is = refl;
      some = decimal_some (q / unit_of places);
      digits = s.all;
      long = length_digits 10 (count places) q;
      units = s.value;
    }

pub printed_float : (places : Places) (x : Float) → finite x ≡ true → PrintedFloat places x (numeral places x)
unfolding numeral
printed_float places x fin =
    record { q = units_in (unit_of places) x; spelled = spelled (is_negative x) places (units_in (unit_of places) x); near = rounded (unit_of places) x fin }
