-- The length of a row, and what follows if no component is large. Assumes nothing.
use Prim.Native.Nat.{ℕ, ◌+◌, ◌≤◌}
use mathlib.Core.Bool.{Bool, true, false, true≢false}
use mathlib.Core.List.{List}
use mathlib.Core.Path.{◌≡◌, refl, ap}
use native.Mathlib.Omega.{arith}
use lib.ListN.{length, length-append}
use lib.Ieee.{binary64, of_bits}
use Rattle.base.specs.Choice.{if◌then◌otherwise◌}
use Rattle.text_write.specs.Written.{Wrote}
use Rattle.listing_scan.specs.declared.Row.{Row}
use Rattle.text_decimal.specs.declared.Places.{Places}
use Rattle.text_decimal.specs.declared.Places.TheVariants.{Three, Six}
use Rattle.text_decimal.proofs.Writing.{numeral_short}
use Rattle.text_time.specs.Stamp.{stamp_text}
use Rattle.text_time.proofs.Parts.{stamp_length}
use Rattle.table_rows.specs.Text.{field, fields, row_text, large, any_large, has_large}

both_false : (p q : Bool) → (if p then true otherwise q) ≡ false → (p ≡ false) × (q ≡ false)
both_false true q e = absurd (true≢false e)
both_false false q e = (refl, e)

pub none_large : (a b c : ℕ) → any_large a b c ≡ false → (large a ≡ false) × (large b ≡ false) × (large c ≡ false)
none_large a b c e =
    let f = both_false (large a) (if large b then true otherwise large c) e in
    let g = both_false (large b) (large c) f.1 in
    (f.0, g.0, g.1)

pub row_small : (r : Row) → has_large r ≡ false → (any_large r.x r.y r.z ≡ false) × (any_large r.vx r.vy r.vz ≡ false)
unfolding has_large
row_small r e = both_false (any_large r.x r.y r.z) (any_large r.vx r.vy r.vz) e

pub field_short : (places : Places) (bits : ℕ) → large bits ≡ false → length (field places bits) ≤ 22
unfolding field
field_short places bits h = rw length-append (omega (arith, numeral_short places (of_bits binary64 bits) h))

pub fields_short : (places : Places) (a b c : ℕ) → any_large a b c ≡ false → length (fields places a b c) ≤ 66
unfolding fields
fields_short places a b c h =
    let s = none_large a b c h in
    rw (length-append, length-append) (omega (arith, field_short places a s.0, field_short places b s.1, field_short places c s.2))

pub row_short : (r : Row) → has_large r ≡ false → length (row_text r) ≤ 157
unfolding row_text
row_short r h =
    let s = row_small r h in
    rw (length-append, length-append, length-append, stamp_length r.moment) (omega (arith, fields_short Three r.x r.y r.z s.0, fields_short Six r.vx r.vy r.vz s.1))

-- the place after a text
pub field_next : (places : Places) (bits : ℕ) → large bits ≡ false → {a b : List ℕ} {at r : ℕ} → Wrote a at (field places bits) b r → r ≤ at + 22
field_next places bits h w = omega (arith, w.next, field_short places bits h)

pub fields_next : (places : Places) (x y z : ℕ) → any_large x y z ≡ false → {a b : List ℕ} {at r : ℕ} → Wrote a at (fields places x y z) b r → r ≤ at + 66
fields_next places x y z h w = omega (arith, w.next, fields_short places x y z h)

pub stamp_next : (moment : ℕ) {a b : List ℕ} {at r : ℕ} → Wrote a at (stamp_text moment) b r → r ≡ at + 23
stamp_next moment w = omega (arith, w.next, stamp_length moment)
