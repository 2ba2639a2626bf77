-- A line after one more byte: what the definition of its kind says about the rest. Assumes nothing.
use Prim.Native.Nat.{ℕ, zero, suc, ◌+◌, ◌-◌, ◌*◌, ◌%◌, ◌<◌, ◌≤◌}
use mathlib.Core.Bool.{Bool, true, false, ◌&&◌}
use mathlib.Core.List.{List, [], ◌∷◌}
use mathlib.Core.Path.{◌≡◌, refl, sym, ap, subst, ◌∙◌}
use native.Mathlib.Numerals.{add-one}
use native.Mathlib.Omega.{arith}
use borrow.Author.Tests.{lt-ltb, le-ltb, leb-true, eq-eqb, ne_eqb}
use lib.Dec.{leb, ltb}
use lib.ListN.{length, get_or, drop, drop_of_length-le}
use lib.Seq.{drop-cons}
use Rattle.base.specs.Limits.{end_of_time}
use Rattle.listing_scan.specs.declared.Row.{Row}
use Rattle.listing_scan.specs.declared.Line.{Line}
use Rattle.listing_scan.specs.declared.Line.TheVariants as line
use Rattle.listing_scan.specs.declared.Word.{Word}
use Rattle.listing_scan.specs.declared.Word.TheVariants.{Strip, Arrived, Refused, Steps}
use Rattle.listing_scan.specs.declared.Scan.{Scan}
use Rattle.listing_scan.specs.declared.Scan.TheVariants.{Start, Letters, Digits, Moment, Component, Behind, Bad}
use Rattle.listing_scan.specs.Reading.{is_decimal, hex_value, word, digits, number, header_line, arrived_line, refused_line, appended, finite_bits}
use Rattle.listing_scan.specs.Reading.{component, pushed, components, blank, moment_from, state_line, kind_of}
use Rattle.listing_scan.specs.Bytes.{letters_of, ends_as, settled, after_number, told, Spaced, Takes}

-- ---- digits

both : (p q : Bool) → (p && q) ≡ true → (p ≡ true) × (q ≡ true)
both true q e = (refl, e)
both false q e = (e, (cc))

pub decimal_least : (b : ℕ) → is_decimal b ≡ true → 48 ≤ b
decimal_least b e = leb-true 48 b (both (leb 48 b) (leb b 57) e).0

pub decimal_most : (b : ℕ) → is_decimal b ≡ true → b ≤ 57
decimal_most b e = leb-true b 57 (both (leb 48 b) (leb b 57) e).1

-- ---- the first byte

strip_first : Takes Start 83 (Letters Strip 1)
unfolding told kind_of header_line word
strip_first = record { same = λ rest. refl; on = refl }

arrived_first : Takes Start 65 (Letters Arrived 1)
unfolding told kind_of arrived_line word
arrived_first = record { same = λ rest. refl; on = refl }

refused_first : Takes Start 82 (Letters Refused 1)
unfolding told kind_of refused_line word
refused_first = record { same = λ rest. refl; on = refl }

module _ (b : ℕ) where
  pub first_strip : b ≡ 83 → Takes Start b (Letters Strip 1)
  first_strip e = subst (λ (n : ℕ). Takes Start n (Letters Strip 1)) (sym e) strip_first

  pub first_arrived : b ≡ 65 → Takes Start b (Letters Arrived 1)
  first_arrived e = subst (λ (n : ℕ). Takes Start n (Letters Arrived 1)) (sym e) arrived_first

  pub first_refused : b ≡ 82 → Takes Start b (Letters Refused 1)
  first_refused e = subst (λ (n : ℕ). Takes Start n (Letters Refused 1)) (sym e) refused_first

  module _ (h : b ≡ 83 → ⊥) (a : b ≡ 65 → ⊥) (r : b ≡ 82 → ⊥) where
    pub first_digit : is_decimal b ≡ true → Takes Start b (Moment (b - 48))
    unfolding told kind_of state_line
    first_digit e = record { same = λ rest. rw (ne_eqb b 83 h, ne_eqb b 65 a, ne_eqb b 82 r, e); on = refl }

    pub first_bad : is_decimal b ≡ false → Takes Start b Bad
    unfolding told kind_of state_line
    first_bad e = record { same = λ rest. rw (ne_eqb b 83 h, ne_eqb b 65 a, ne_eqb b 82 r, e); on = refl }

-- ---- letters of a word

module _ (ws : List ℕ) (after : List ℕ → Line) (i b : ℕ) (rest : List ℕ) where
  letter_is : i < length ws → b ≡ get_or ws i 0 → word (drop i ws) after (b ∷ rest) ≡ word (drop (i + 1) ws) after rest
  unfolding word
  letter_is h e = rw (drop-cons ws i 0 h, eq-eqb b (get_or ws i 0) e, add-one i)

  letter_not : i < length ws → (b ≡ get_or ws i 0 → ⊥) → word (drop i ws) after (b ∷ rest) ≡ line.Bad
  unfolding word
  letter_not h e = rw (drop-cons ws i 0 h, ne_eqb b (get_or ws i 0) e)

  letters_over : length ws ≤ i → word (drop i ws) after (b ∷ rest) ≡ after (b ∷ rest)
  unfolding word
  letters_over h = rw (drop_of_length-le ws h)

module _ (w : Word) (i b : ℕ) where
  pub next_letter : i < length (letters_of w) → b ≡ get_or (letters_of w) i 0 → Takes (Letters w i) b (Letters w (i + 1))
  unfolding told
  next_letter h e = record { same = λ rest. letter_is (letters_of w) (number (ends_as w) (after_number w)) i b rest h e; on = refl }

  pub other_letter : i < length (letters_of w) → (b ≡ get_or (letters_of w) i 0 → ⊥) → Takes (Letters w i) b Bad
  unfolding told
  other_letter h e = record { same = λ rest. letter_not (letters_of w) (number (ends_as w) (after_number w)) i b rest h e; on = refl }

  pub number_digit : length (letters_of w) ≤ i → is_decimal b ≡ true → (m : Bool) → m ≡ ltb 48 b → Takes (Letters w i) b (Digits w m)
  unfolding told number
  number_digit h e m q = record { same = λ rest. letters_over (letters_of w) (number (ends_as w) (after_number w)) i b rest h ∙ rw (e, q); on = refl }

  pub number_bad : length (letters_of w) ≤ i → is_decimal b ≡ false → Takes (Letters w i) b Bad
  unfolding told number
  number_bad h e = record { same = λ rest. letters_over (letters_of w) (number (ends_as w) (after_number w)) i b rest h ∙ rw e; on = refl }

-- ---- digits of a number

module _ (w : Word) (b : ℕ) where
  pub number_space : (more : Bool) (r : Scan) → b ≡ 32 → Spaced w r → Takes (Digits w more) b r
  unfolding told digits
  number_space more r e s = record { same = λ rest. rw (eq-eqb b 32 e) (s.0 rest); on = s.1 }

  pub number_on : (more : Bool) → (b ≡ 32 → ⊥) → more ≡ true → is_decimal b ≡ true → Takes (Digits w more) b (Digits w more)
  unfolding told digits
  number_on true n q e = record { same = λ rest. rw (ne_eqb b 32 n, e); on = refl }
  number_on false n q e = record { same = λ rest. (cc); on = refl }

  pub number_stops : (more : Bool) → (b ≡ 32 → ⊥) → is_decimal b ≡ false → Takes (Digits w more) b Bad
  unfolding told digits
  number_stops true n e = record { same = λ rest. rw (ne_eqb b 32 n, e); on = refl }
  number_stops false n e = record { same = λ rest. rw (ne_eqb b 32 n); on = refl }

  pub zero_alone : (more : Bool) → (b ≡ 32 → ⊥) → more ≡ false → Takes (Digits w more) b Bad
  unfolding told digits
  zero_alone false n q = record { same = λ rest. rw (ne_eqb b 32 n); on = refl }
  zero_alone true n q = record { same = λ rest. (cc); on = refl }

pub spaced_refused : Spaced Refused (Letters Steps 0)
unfolding told word
spaced_refused = ((λ rest. refl), refl)

pub spaced_strip : Spaced Strip Bad
unfolding told
spaced_strip = ((λ rest. refl), refl)

pub spaced_arrived : Spaced Arrived Bad
unfolding told
spaced_arrived = ((λ rest. refl), refl)

pub spaced_steps : Spaced Steps Bad
unfolding told
spaced_steps = ((λ rest. refl), refl)

-- ---- moments

module _ (t b : ℕ) where
  pub moment_digit : is_decimal b ≡ true → 0 < t → t < 315_576_000_000 → Takes (Moment t) b (Moment (10 * t + (b - 48)))
  unfolding told moment_from
  moment_digit e some small =
      let most = decimal_most b e in
      record { same = λ rest. rw (e, lt-ltb 0 t some, lt-ltb (10 * t + (b - 48)) end_of_time (omega arith)); on = refl }

  module _ (r : Scan) (s : Takes (Behind 6 (blank t)) b r) where
    pub moment_ends : is_decimal b ≡ false → Takes (Moment t) b r
    unfolding told moment_from
    moment_ends e = record { same = λ rest. rw e (s.same rest); on = s.on }

    pub zero_ends : is_decimal b ≡ true → t ≤ 0 → Takes (Moment t) b r
    unfolding told moment_from
    zero_ends e none = record { same = λ rest. rw (e, le-ltb 0 t none) (s.same rest); on = s.on }

    pub range_ends : is_decimal b ≡ true → 315_576_000_000 ≤ t → Takes (Moment t) b r
    unfolding told moment_from
    range_ends e far = record { same = λ rest. rw (e, lt-ltb 0 t (omega arith), le-ltb (10 * t + (b - 48)) end_of_time (omega arith)) (s.same rest); on = s.on }

-- ---- components

module _ (r : Row) (b : ℕ) where
  pub row_over : (more : ℕ) → more ≡ 0 → Takes (Behind more r) b Bad
  unfolding told components
  row_over zero e = record { same = λ rest. refl; on = refl }
  row_over (suc more) e = absurd (omega arith)

  pub row_space : (more : ℕ) → (more ≡ 0 → ⊥) → b ≡ 32 → Takes (Behind more r) b (Component (more - 1) 15 0 r)
  unfolding told components word
  row_space zero n e = absurd (n refl)
  row_space (suc more) n e = let d : suc more - 1 ≡ more = omega arith in record { same = λ rest. rw (eq-eqb b 32 e, d); on = refl }

  pub row_bad : (more : ℕ) → (more ≡ 0 → ⊥) → (b ≡ 32 → ⊥) → Takes (Behind more r) b Bad
  unfolding told components word
  row_bad zero n e = absurd (n refl)
  row_bad (suc more) n e = record { same = λ rest. rw (ne_eqb b 32 e); on = refl }

-- one digit more, as the code adds it
pub added : (bits b d : ℕ) → d ≡ hex_value b → d < 16 → appended bits (hex_value b) ≡ bits % 0x1000_0000_0000_0000 * 16 + d
added bits b d e h = omega (arith, e)

module _ (more bits : ℕ) (r : Row) (b d : ℕ) (e : d ≡ hex_value b) where
  pub no_hex : (left : ℕ) → 16 ≤ d → Takes (Component more left bits r) b Bad
  unfolding told component
  no_hex left h = record { same = λ rest. rw (le-ltb (hex_value b) 16 (rw e at h)); on = refl }

  module _ (h : d < 16) where
    next_bits : appended bits (hex_value b) ≡ bits % 0x1000_0000_0000_0000 * 16 + d
    next_bits = added bits b d e h

    pub hex_on : (left : ℕ) → 0 < left → Takes (Component more left bits r) b (Component more (left - 1) (bits % 0x1000_0000_0000_0000 * 16 + d) r)
    unfolding told component
    hex_on zero some = absurd (omega arith)
    hex_on (suc left) some =
        let k : suc left - 1 ≡ left = omega arith in
        record { same = λ rest. rw (lt-ltb (hex_value b) 16 (rw e at h), k) (ap (λ (z : ℕ). component (suc left) z (settled more r) rest) next_bits); on = refl }

    pub hex_last : (left : ℕ) → left ≤ 0 → finite_bits (bits % 0x1000_0000_0000_0000 * 16 + d) ≡ true
        → Takes (Component more left bits r) b (Behind more (pushed r (bits % 0x1000_0000_0000_0000 * 16 + d)))
    unfolding told component
    hex_last zero none f = record { same = λ rest. rw (lt-ltb (hex_value b) 16 (rw e at h), next_bits, f); on = refl }
    hex_last (suc left) none f = absurd (omega arith)

    pub hex_infinite : (left : ℕ) → left ≤ 0 → finite_bits (bits % 0x1000_0000_0000_0000 * 16 + d) ≡ false → Takes (Component more left bits r) b Bad
    unfolding told component
    hex_infinite zero none f = record { same = λ rest. rw (lt-ltb (hex_value b) 16 (rw e at h), next_bits, f); on = refl }
    hex_infinite (suc left) none f = absurd (omega arith)

-- ---- the end of a line

no_number : (ws : List ℕ) (ends : Line) (after : List ℕ → Line) → word ws (number ends after) [] ≡ line.Bad
unfolding word number
no_number [] ends after = refl
no_number (w ∷ ws) ends after = refl

pub end_start : line.Bad ≡ told Start []
unfolding told kind_of
end_start = refl

pub end_letters : (w : Word) (i : ℕ) → line.Bad ≡ told (Letters w i) []
unfolding told
end_letters w i = sym (no_number (drop i (letters_of w)) (ends_as w) (after_number w))

pub end_digits : (w : Word) (more : Bool) → ends_as w ≡ told (Digits w more) []
unfolding told digits
end_digits w more = refl

pub end_moment : (t : ℕ) → line.Bad ≡ told (Moment t) []
unfolding told moment_from
end_moment t = refl

pub end_component : (more left bits : ℕ) (r : Row) → line.Bad ≡ told (Component more left bits r) []
unfolding told component
end_component more left bits r = refl

pub end_row : (more : ℕ) (r : Row) → more ≡ 0 → line.State r ≡ told (Behind more r) []
unfolding told components
end_row zero r e = refl
end_row (suc more) r e = absurd (omega arith)

pub end_short : (more : ℕ) (r : Row) → (more ≡ 0 → ⊥) → line.Bad ≡ told (Behind more r) []
unfolding told components word
end_short zero r n = absurd (n refl)
end_short (suc more) r n = refl

pub end_bad : line.Bad ≡ told Bad []
unfolding told
end_bad = refl

pub bad_stays : (b : ℕ) → Takes Bad b Bad
unfolding told
bad_stays b = record { same = λ rest. refl; on = refl }
