-- Reading the line of a state at once gives the same as reading it byte by byte. Assumes nothing.
use Prim.Native.Nat.{ℕ, zero, suc, ◌+◌, ◌-◌, ◌*◌, ◌<◌, ◌≤◌}
use mathlib.Core.Bool.{Bool, true, false, ◌&&◌, true≢false}
use mathlib.Core.List.{List, [], ◌∷◌}
use mathlib.Core.Path.{◌≡◌, refl, sym, ap, subst, ◌∙◌}
use native.Mathlib.Numerals.{add-one}
use native.Mathlib.Omega.{arith}
use borrow.Author.Tests.{lt-ltb, ltb-true, leb-true, eq-eqb, ne_eqb, eqb-true}
use lib.Dec.{leb, ltb, eqb}
use lib.ListN.{length, get_or, drop, drop_of_length-le}
use lib.Seq.{drop-cons, drop-drop}
use Rattle.std.specs.Prelude.{Option, Some, None}
use Rattle.base.specs.Choice.{◌<?◌}
use Rattle.listing_lines.specs.Digits.{is_decimal, hex_value, appended, finite_bits}
use Rattle.listing_lines.specs.Whole.{spelled_from, finite_only, component_at, goes_on, moment_on, with_bits, six_at, after_moment, state_line_at}
use Rattle.listing_lines.specs.declared.Numbered.{Numbered}
use Rattle.listing_lines.specs.declared.WholeLine.{WholeLine}
use Rattle.listing_lines.proofs.Laws.{more_least}
use Rattle.listing_scan.specs.declared.Row.{Row}
use Rattle.listing_scan.specs.declared.Scan.{Scan}
use Rattle.listing_scan.specs.declared.Scan.TheVariants.{Start, Letters, Digits, Moment, Component, Behind, Bad}
use Rattle.listing_scan.specs.Reading.{pushed, blank}
use Rattle.listing_scan.specs.Bytes.{begun, on_byte}
use Rattle.listing_read.specs.Reached.{up_to_feed, to_feed, row_in}

both : (p q : Bool) → (p && q) ≡ true → (p ≡ true) × (q ≡ true)
both true q e = (refl, e)
both false q e = (e, (cc))

nothing_found : {A : Type 0} (x : A) → ◌≡◌ {A = Option A} None (Some x) → ⊥
nothing_found x e = let z : ◌≡◌ {A = ℕ} 0 1 = cc in absurd (omega arith)

same_found : {A : Type 0} (x y : A) → ◌≡◌ {A = Option A} (Some x) (Some y) → x ≡ y
same_found x y e = cc

pub not_begun : (s : Scan) → begun s ≡ false → s ≡ Start
not_begun Start e = refl
not_begun (Letters w i) e = absurd (true≢false e)
not_begun (Digits w more) e = absurd (true≢false e)
not_begun (Moment t) e = absurd (true≢false e)
not_begun (Component more left bits r) e = absurd (true≢false e)
not_begun (Behind more r) e = absurd (true≢false e)
not_begun Bad e = absurd (true≢false e)

-- ---- one byte on

module _ (block : List ℕ) (i : ℕ) (s : Scan) where
  pub feed_on : i < length block → (get_or block i 0 ≡ 10 → ⊥) → to_feed block i s ≡ to_feed block (i + 1) (on_byte s (get_or block i 0))
  unfolding up_to_feed
  feed_on h n = rw (drop-cons block i 0 h, ne_eqb (get_or block i 0) 10 n, add-one i)

  pub feed_here : i < length block → get_or block i 0 ≡ 10 → to_feed block i s ≡ record { scan = s; at = i }
  unfolding up_to_feed
  feed_here h e = rw (drop-cons block i 0 h, eq-eqb (get_or block i 0) 10 e)

  pub feed_over : length block ≤ i → to_feed block i s ≡ record { scan = s; at = i }
  unfolding up_to_feed
  feed_over h = rw (drop_of_length-le block h)

-- ---- digits of a component

hex_no_feed : (b : ℕ) → hex_value b < 16 → b ≡ 10 → ⊥
hex_no_feed b h e = clash (subst (λ (n : ℕ). hex_value n < 16) e h)
  where
    clash : 16 < 16 → ⊥
    clash h = omega arith

module _ (block : List ℕ) (more : ℕ) (r : Row) where
  module _ (at bits : ℕ) (room : at < length block) (h : hex_value (get_or block at 0) < 16) where
    abbrev next : ℕ
    next = appended bits (hex_value (get_or block at 0))

    digit : (left : ℕ) → to_feed block at (Component more (suc left) bits r) ≡ to_feed block (at + 1) (Component more left next r)
    unfolding on_byte
    digit left =
        let k : suc left - 1 ≡ left = omega arith in
        let some : 0 < suc left = omega arith in
        let e : on_byte (Component more (suc left) bits r) (get_or block at 0) ≡ Component more left next r =
        rw (lt-ltb (hex_value (get_or block at 0)) 16 h, lt-ltb 0 (suc left) some, k) in
        feed_on block at (Component more (suc left) bits r) room (hex_no_feed (get_or block at 0) h) ∙ ap (to_feed block (at + 1)) e

    last_digit : finite_bits next ≡ true → to_feed block at (Component more 0 bits r) ≡ to_feed block (at + 1) (Behind more (pushed r next))
    unfolding on_byte
    last_digit f =
        let e : on_byte (Component more 0 bits r) (get_or block at 0) ≡ Behind more (pushed r next) =
        rw (lt-ltb (hex_value (get_or block at 0)) 16 h, f) in
        feed_on block at (Component more 0 bits r) room (hex_no_feed (get_or block at 0) h) ∙ ap (to_feed block (at + 1)) e

  -- if all are digits, this byte is one
  hex_here : (left at bits n : ℕ) → spelled_from block (suc left) at bits ≡ Some n → hex_value (get_or block at 0) < 16
  unfolding spelled_from
  hex_here left at bits n e = go (hex_value (get_or block at 0) <? 16) refl e
    where
      go : (t : Bool) → (hex_value (get_or block at 0) <? 16) ≡ t → spelled_from block (suc left) at bits ≡ Some n → hex_value (get_or block at 0) < 16
      go true p e = ltb-true (hex_value (get_or block at 0)) 16 p
      go false p e = absurd (nothing_found n (rw p at e))

  spelled_next : (left at bits : ℕ) → hex_value (get_or block at 0) < 16
      → spelled_from block (suc left) at bits ≡ spelled_from block left (at + 1) (appended bits (hex_value (get_or block at 0)))
  unfolding spelled_from
  spelled_next left at bits h = rw (lt-ltb (hex_value (get_or block at 0)) 16 h)

  digits : (left at bits n : ℕ) → at + suc left ≤ length block → spelled_from block (suc left) at bits ≡ Some n → finite_bits n ≡ true
      → to_feed block at (Component more left bits r) ≡ to_feed block (at + suc left) (Behind more (pushed r n))
  unfolding spelled_from
  digits zero at bits n room e f =
      let h = hex_here 0 at bits n e in
      let last : appended bits (hex_value (get_or block at 0)) ≡ n = same_found _ n (sym (spelled_next 0 at bits h) ∙ e) in
      let inside : at < length block = omega arith in
      last_digit at bits inside h (rw last f) ∙ rw (last, one at)
    where
      one : (at : ℕ) → at + 1 ≡ at + suc zero
      one at = omega arith
  digits (suc left) at bits n room e f =
      let h = hex_here (suc left) at bits n e in
      let inside : at < length block = omega arith in
      let later : at + 1 + suc left ≤ length block = omega arith in
      let place : at + 1 + suc left ≡ at + suc (suc left) = omega arith in
      digit at bits inside h left
      ∙ digits left (at + 1) (appended bits (hex_value (get_or block at 0))) n later (sym (spelled_next (suc left) at bits h) ∙ e) f
      ∙ ap (λ (i : ℕ). to_feed block i (Behind more (pushed r n))) place

-- ---- a space and a component

found_finite : (s : Option ℕ) (n : ℕ) → finite_only s ≡ Some n → (s ≡ Some n) × (finite_bits n ≡ true)
found_finite None n e = absurd (nothing_found n e)
found_finite (Some m) n e = go (finite_bits m) refl e
  where
    go : (t : Bool) → finite_bits m ≡ t → finite_only (Some m) ≡ Some n → (◌≡◌ {A = Option ℕ} (Some m) (Some n)) × (finite_bits n ≡ true)
    go true p e =
        let found : ◌≡◌ {A = Option ℕ} (Some m) (Some n) = rw p at e in
        (found, ap finite_bits (sym (same_found m n found)) ∙ p)
    go false p e = absurd (nothing_found n (rw p at e))

record Spaced (block : List ℕ) (at n : ℕ) : Type 0 where
  space : get_or block at 0 ≡ 32
  spelled : spelled_from block 16 (at + 1) 0 ≡ Some n
  finite : finite_bits n ≡ true

spaced : (block : List ℕ) (at n : ℕ) → component_at block at ≡ Some n → Spaced block at n
unfolding component_at
spaced block at n e = go (eqb (get_or block at 0) 32) refl
  where
    go : (t : Bool) → eqb (get_or block at 0) 32 ≡ t → Spaced block at n
    go true p =
        let w = found_finite (spelled_from block 16 (at + 1) 0) n (rw p at e) in
        record { space = eqb-true (get_or block at 0) 32 p; spelled = w.0; finite = w.1 }
    go false p = absurd (nothing_found n (rw p at e))

space_no_feed : (b : ℕ) → b ≡ 32 → b ≡ 10 → ⊥
space_no_feed b e f = omega arith

component : (block : List ℕ) (at more n : ℕ) (r : Row) (s : Scan) → on_byte s 32 ≡ Component more 15 0 r → component_at block at ≡ Some n → at + 17 ≤ length block
    → to_feed block at s ≡ to_feed block (at + 17) (Behind more (pushed r n))
component block at more n r s on e room =
    let p = spaced block at n e in
    let inside : at < length block = omega arith in
    let later : at + 1 + 16 ≤ length block = omega arith in
    let place : at + 1 + 16 ≡ at + 17 = omega arith in
    feed_on block at s inside (space_no_feed (get_or block at 0) p.space)
    ∙ ap (λ (b : ℕ). to_feed block (at + 1) (on_byte s b)) p.space
    ∙ ap (to_feed block (at + 1)) on
    ∙ digits block more r 15 (at + 1) 0 n later p.spelled p.finite
    ∙ ap (λ (i : ℕ). to_feed block i (Behind more (pushed r n))) place

-- ---- the moment

decimal_no_feed : (b : ℕ) → 48 ≤ b → b ≡ 10 → ⊥
decimal_no_feed b l e = omega arith

pub after_drop : (block : List ℕ) (at b : ℕ) (bytes : List ℕ) → drop at block ≡ b ∷ bytes → drop (at + 1) block ≡ bytes
after_drop block at b bytes e = sym (drop-drop 1 at block) ∙ ap (drop 1) e

moments : (block bytes : List ℕ) (at t : ℕ) → drop at block ≡ bytes → to_feed block at (Moment t) ≡ to_feed block (moment_on bytes t at).end (Moment (moment_on bytes t at).t)
unfolding moment_on goes_on on_byte up_to_feed
moments block [] at t e = refl
moments block (b ∷ bytes) at t e =
    go (goes_on t b) refl (moments block bytes (at + 1) (10 * t + (b - 48)) (after_drop block at b bytes e))
  where
    go : (g : Bool) → goes_on t b ≡ g
        → to_feed block (at + 1) (Moment (10 * t + (b - 48)))
        ≡ to_feed block (moment_on bytes (10 * t + (b - 48)) (at + 1)).end (Moment (moment_on bytes (10 * t + (b - 48)) (at + 1)).t)
        → to_feed block at (Moment t) ≡ to_feed block (moment_on (b ∷ bytes) t at).end (Moment (moment_on (b ∷ bytes) t at).t)
    go false g later = rw g
    go true g later =
        let on : on_byte (Moment t) b ≡ Moment (10 * t + (b - 48)) = rw g in
        let next : to_feed block at (Moment t) ≡ to_feed block (at + 1) (Moment (10 * t + (b - 48))) =
        rw (e, ne_eqb b 10 (decimal_no_feed b (more_least t b g)), after_drop block at b bytes e, on) in
        next ∙ rw g later

-- ---- six components

pub row_on : (more : ℕ) (r : Row) → on_byte (Behind (suc more) r) 32 ≡ Component more 15 0 r
unfolding on_byte
row_on more r =
    let d : suc more - 1 ≡ more = omega arith in
    let n : suc more ≡ 0 → ⊥ = λ e. omega arith in
    rw (ne_eqb (suc more) 0 n, d)

moment_on_lem : (t : ℕ) → on_byte (Moment t) 32 ≡ Component 5 15 0 (blank t)
unfolding on_byte
moment_on_lem t = refl

record Given (s : Option ℕ) (rest : ℕ → Option WholeLine) (l : WholeLine) : Type 0 where
  bits : ℕ
  is : s ≡ Some bits
  later : rest bits ≡ Some l

given : (s : Option ℕ) (rest : ℕ → Option WholeLine) (l : WholeLine) → with_bits s rest ≡ Some l → Given s rest l
given None rest l e = absurd (nothing_found l e)
given (Some n) rest l e = record { bits = n; is = refl; later = e }

record AllSix (block : List ℕ) (at t : ℕ) (l : WholeLine) : Type 0 where
  moment : t ≡ l.moment
  x : component_at block at ≡ Some l.x
  y : component_at block (at + 17) ≡ Some l.y
  z : component_at block (at + 34) ≡ Some l.z
  vx : component_at block (at + 51) ≡ Some l.vx
  vy : component_at block (at + 68) ≡ Some l.vy
  vz : component_at block (at + 85) ≡ Some l.vz
  end : at + 102 ≡ l.end

module _ (block : List ℕ) (at t x y z vx vy vz : ℕ) (l : WholeLine) where
  in_line : record { moment = t; x = x; y = y; z = z; vx = vx; vy = vy; vz = vz; end = at + 102 } ≡ l → component_at block at ≡ Some x → component_at block (at + 17) ≡ Some y
      → component_at block (at + 34) ≡ Some z → component_at block (at + 51) ≡ Some vx → component_at block (at + 68) ≡ Some vy → component_at block (at + 85) ≡ Some vz → AllSix block at t l
  in_line same ex ey ez evx evy evz = record {
    moment = ap (λ (l : WholeLine). l.moment) same;
    x = ex ∙ ap (λ (l : WholeLine). Some l.x) same;
    y = ey ∙ ap (λ (l : WholeLine). Some l.y) same;
    z = ez ∙ ap (λ (l : WholeLine). Some l.z) same;
    vx = evx ∙ ap (λ (l : WholeLine). Some l.vx) same;
    vy = evy ∙ ap (λ (l : WholeLine). Some l.vy) same;
    vz = evz ∙ ap (λ (l : WholeLine). Some l.vz) same;
    end = ap (λ (l : WholeLine). l.end) same;
  }

all_six : (block : List ℕ) (at t : ℕ) (l : WholeLine) → six_at block at t ≡ Some l → AllSix block at t l
unfolding six_at
all_six block at t l e =
    let x = given (component_at block at) _ l e in
    let y = given (component_at block (at + 17)) _ l x.later in
    let z = given (component_at block (at + 34)) _ l y.later in
    let vx = given (component_at block (at + 51)) _ l z.later in
    let vy = given (component_at block (at + 68)) _ l vx.later in
    let vz = given (component_at block (at + 85)) _ l vy.later in
    in_line block at t x.bits y.bits z.bits vx.bits vy.bits vz.bits l (same_found _ l vz.later) x.is y.is z.is vx.is vy.is vz.is

module _ (block : List ℕ) (at t : ℕ) (l : WholeLine) (w : AllSix block at t l) (room : at + 102 ≤ length block) where
  first : to_feed block at (Moment l.moment) ≡ to_feed block (at + 17) (Behind 5 (pushed (blank l.moment) l.x))
  first = let fits : at + 17 ≤ length block = omega arith in component block at 5 l.x (blank l.moment) (Moment l.moment) (moment_on_lem l.moment) w.x fits

  -- one component further
  later : (i more n : ℕ) (r : Row) → i + 17 ≤ at + 102 → component_at block i ≡ Some n → to_feed block i (Behind (suc more) r) ≡ to_feed block (i + 17) (Behind more (pushed r n))
  later i more n r h c = let fits : i + 17 ≤ length block = omega arith in component block i more n r (Behind (suc more) r) (row_on more r) c fits

  on : (i more n : ℕ) (r : Row) (j : ℕ) → i + 17 ≤ at + 102 → i + 17 ≡ j → component_at block i ≡ Some n → to_feed block i (Behind (suc more) r) ≡ to_feed block j (Behind more (pushed r n))
  on i more n r j h e c = subst (λ (k : ℕ). to_feed block i (Behind (suc more) r) ≡ to_feed block k (Behind more (pushed r n))) e (later i more n r h c)

  six_on : to_feed block at (Moment t) ≡ to_feed block (at + 102) (Behind 0 (row_in l))
  six_on =
      ap (λ (t : ℕ). to_feed block at (Moment t)) w.moment
      ∙ first
      ∙ on (at + 17) 4 l.y _ (at + 34) (omega arith) (omega arith) w.y
      ∙ on (at + 34) 3 l.z _ (at + 51) (omega arith) (omega arith) w.z
      ∙ on (at + 51) 2 l.vx _ (at + 68) (omega arith) (omega arith) w.vx
      ∙ on (at + 68) 1 l.vy _ (at + 85) (omega arith) (omega arith) w.vy
      ∙ on (at + 85) 0 l.vz _ (at + 102) (omega arith) (omega arith) w.vz

-- ---- the whole line

-- a line after its moment
behind_moment : (block : List ℕ) (m : Numbered) (l : WholeLine) → after_moment block m ≡ Some l → to_feed block m.end (Moment m.t) ≡ record { scan = Behind 0 (row_in l); at = l.end }
unfolding after_moment
behind_moment block m l e = go (ltb (m.end + 102) (length block)) (eqb (get_or block (m.end + 102) 0) 10) refl refl e
  where
    go : (p q : Bool) → ltb (m.end + 102) (length block) ≡ p → eqb (get_or block (m.end + 102) 0) 10 ≡ q → after_moment block m ≡ Some l
        → to_feed block m.end (Moment m.t) ≡ record { scan = Behind 0 (row_in l); at = l.end }
    go false q a b e = absurd (nothing_found l (rw a at e))
    go true false a b e = absurd (nothing_found l (rw (a, b) at e))
    go true true a b e =
        let inside = ltb-true (m.end + 102) (length block) a in
        let fits : m.end + 102 ≤ length block = omega arith in
        let w = all_six block m.end m.t l (rw (a, b) at e) in
        six_on block m.end m.t l w fits
        ∙ feed_here block (m.end + 102) (Behind 0 (row_in l)) inside (eqb-true (get_or block (m.end + 102) 0) 10 b)
        ∙ ap (λ (i : ℕ). record { scan = Behind 0 (row_in l); at = i }) w.end

first_moment : (b : ℕ) → is_decimal b ≡ true → on_byte Start b ≡ Moment (b - 48)
unfolding on_byte
first_moment b e =
    let l = leb-true b 57 (both (leb 48 b) (leb b 57) e).1 in
    rw (ne_eqb b 83 (λ q. omega arith), ne_eqb b 65 (λ q. omega arith), ne_eqb b 82 (λ q. omega arith), e)

-- The law: reading the line of a state at once gives the same as reading it byte by byte.
pub whole_line : (block : List ℕ) (at : ℕ) (l : WholeLine) → state_line_at block at ≡ Some l → to_feed block at Start ≡ record { scan = Behind 0 (row_in l); at = l.end }
unfolding state_line_at
whole_line block at l e = go (ltb at (length block)) (is_decimal (get_or block at 0)) refl refl e
  where
    go : (p q : Bool) → ltb at (length block) ≡ p → is_decimal (get_or block at 0) ≡ q → state_line_at block at ≡ Some l
        → to_feed block at Start ≡ record { scan = Behind 0 (row_in l); at = l.end }
    go false q a d e = absurd (nothing_found l (rw a at e))
    go true false a d e = absurd (nothing_found l (rw (a, d) at e))
    go true true a d e =
        let b = get_or block at 0 in
        let m = moment_on (drop (at + 1) block) (b - 48) (at + 1) in
        let low = leb-true 48 b (both (leb 48 b) (leb b 57) d).0 in
        feed_on block at Start (ltb-true at (length block) a) (decimal_no_feed b low)
        ∙ ap (to_feed block (at + 1)) (first_moment b d)
        ∙ moments block (drop (at + 1) block) (at + 1) (b - 48) refl
        ∙ behind_moment block m l (rw (a, d) at e)
