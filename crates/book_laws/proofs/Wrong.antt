-- Document 02, R-12 rules these two programs out. Assumes nothing.
use mathlib.Core.Bool.{Bool, true, false, not, true≢false}
use mathlib.Core.List.{List}
use mathlib.Core.Logic.{inl, inr}
use mathlib.Core.Path.{◌≡◌, refl, sym, ap, ◌∙◌}
use Prim.Native.Nat.{ℕ, zero, suc, ◌+◌, ◌*◌, ◌<◌}
use native.Mathlib.Omega.{arith}
use lib.Ieee.{add, sub, mul, div, lt, of_bits, of_int, of_fields, odd, size}
use Rattle.base.specs.declared.Refusal.{Refusal}
use Rattle.book.specs.declared.Motion.{Motion}
use Rattle.std.specs.Prelude.{Result, Ok, Err}
use Rattle.base.specs.Floats.{zero64}
use Rattle.base_bytes.specs.Bytes.{u16_at, u32_at, u64_at}
use Rattle.book.specs.Contents.{offset_of}
use Rattle.book.specs.Passes.{passes}
use Rattle.book.specs.Lookup.{lookup}
use Rattle.book_series.specs.Series.{argument, clenshaw, series, slopes, slope, place, velocity}
use Rattle.book_laws.specs.Fuller.{HoldsAll, Unless}
use Rattle.book_laws.specs.Wrong.{Unmoved, from_the_back, by_number, moon_book, sun_book, both_book}

moon_passes : passes moon_book ≡ true
unfolding passes u16_at u32_at u64_at of_bits of_fields odd size
moon_passes = refl

sun_passes : passes sun_book ≡ true
unfolding passes u16_at u32_at u64_at of_bits of_fields odd size
sun_passes = refl

both_pass : passes both_book ≡ true
unfolding passes u16_at u32_at u64_at of_bits of_fields odd size
both_pass = refl

-- six coefficients
module _ (b : List ℕ) (j : ℕ) where
  abbrev Six : Type 0
  Six = (k : ℕ) → k < 6 → u64_at both_book (offset_of both_book j + 8 * k) ≡ u64_at b (offset_of b 0 + 8 * k)

moon_bits : Six moon_book 0
unfolding u16_at u32_at u64_at
moon_bits zero h = refl
moon_bits (suc zero) h = refl
moon_bits (suc (suc zero)) h = refl
moon_bits (suc (suc (suc zero))) h = refl
moon_bits (suc (suc (suc (suc zero)))) h = refl
moon_bits (suc (suc (suc (suc (suc zero))))) h = refl
moon_bits (suc (suc (suc (suc (suc (suc k)))))) h = absurd (omega arith)

sun_bits : Six sun_book 1
unfolding u16_at u32_at u64_at
sun_bits zero h = refl
sun_bits (suc zero) h = refl
sun_bits (suc (suc zero)) h = refl
sun_bits (suc (suc (suc zero))) h = refl
sun_bits (suc (suc (suc (suc zero)))) h = refl
sun_bits (suc (suc (suc (suc (suc zero))))) h = refl
sun_bits (suc (suc (suc (suc (suc (suc k)))))) h = absurd (omega arith)

moon_held : HoldsAll moon_book both_book
unfolding u16_at u32_at u64_at
moon_held zero h = (0, omega arith, record { body = refl; size = refl; start = refl; span = refl; bits = λ k l. moon_bits k l })
moon_held (suc i) h = absurd (omega arith)

sun_held : HoldsAll sun_book both_book
unfolding u16_at u32_at u64_at
sun_held zero h = (1, omega arith, record { body = refl; size = refl; start = refl; span = refl; bits = λ k l. sun_bits k l })
sun_held (suc i) h = absurd (omega arith)

-- a figure that two answers cannot share
abbrev along_x_lem : Result Motion Refusal → Bool
along_x_lem (Ok M) = lt zero64 M.place.x
along_x_lem (Err k) = false

abbrev at_zero : Result Motion Refusal → Bool
at_zero (Ok M) = not (lt zero64 M.place.x)
at_zero (Err k) = false

-- the same, unless it is refused: both meet a test that no refusal meets
both_meet : (test : Result Motion Refusal → Bool) → test (Err Refusal.Cover) ≡ false → (x y : Result Motion Refusal) → Unless (Err Refusal.Cover) x y → test x ≡ true → test y ≡ true
both_meet test none x y (inl e) meets = absurd (true≢false (sym meets ∙ ap test e ∙ none))
both_meet test none x y (inr e) meets = ap test (sym e) ∙ meets

pub not_from_the_back : Unmoved from_the_back → ⊥
unfolding place velocity argument clenshaw series slopes slope u16_at u32_at u64_at add sub mul div lt of_bits of_int of_fields odd size
not_from_the_back unmoved =
    true≢false
    (sym
    (both_meet along_x_lem refl (from_the_back moon_book 2 5) (from_the_back both_book 2 5) (unmoved moon_book both_book moon_passes both_pass moon_held 2 5) refl))

pub not_by_number : Unmoved by_number → ⊥
unfolding lookup u16_at u32_at u64_at lt of_bits of_int of_fields odd size
not_by_number unmoved =
    true≢false
    (sym (both_meet at_zero refl (by_number sun_book 3 5) (by_number both_book 3 5) (unmoved sun_book both_book sun_passes both_pass sun_held 3 5) refl))
