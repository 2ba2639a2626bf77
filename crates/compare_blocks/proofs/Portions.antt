-- The report on the states of two listings, turn by turn, while it is written into a buffer. Assumes nothing.
use Prim.Native.Nat.{ℕ, ◌+◌, ◌<◌, ◌≤◌}
use mathlib.Core.Bool.{Bool, true, false}
use mathlib.Core.List.{List, [], ◌++◌, append_assoc}
use mathlib.Core.Path.{◌≡◌, refl, sym, ap, ap₂, ◌∙◌}
use native.Mathlib.Omega.{arith}
use borrow.Author.Tests.{lt-ltb, le-ltb}
use lib.Dec.{ltb}
use lib.ListN.{length, take, drop}
use Rattle.std.specs.Prelude.{Option, Some, None}
use Rattle.base.specs.Choice.{if◌then◌otherwise◌}
use Rattle.text_write.specs.Written.{Wrote}
use Rattle.text_write.proofs.Writing.{inside, later}
use Rattle.listing_scan.specs.declared.Row.{Row}
use Rattle.listing_read.specs.Form.{found_rows, rows_of}
use Rattle.listing_read.specs.Bytes.{kinds_from}
use Rattle.compare_report.specs.Report.{parted, text_of}
use Rattle.compare_report.specs.Turns.{takes, side_of, differences_at, left}
use Rattle.compare_report.proofs.Turning.{turn_text_lem}
use Rattle.compare_blocks.specs.declared.Reading.{Reading}
use Rattle.compare_blocks.specs.declared.Halt.{Halt}
use Rattle.compare_blocks.specs.Sides.{coming, Rests, Shut, waiting, Fills, waits_for, stops, halt_of, leaving, portion_of, Reported}
use Rattle.compare_blocks.proofs.Readings.{ends, left_is, over_kept, shut_kept}

-- ---- what the report waits for

abbrev halts : Bool → Bool → Bool → Bool → Halt
halts p q x y =
    if p then waits_for true false false otherwise
    if q then waits_for false true false otherwise
    if x then waits_for false false false otherwise
    if y then waits_for false false false otherwise waits_for false false true

known_first : (p q x y : Bool) → stops (halts p q x y) ≡ false → p ≡ false
known_first true q x y e = e
known_first false q x y e = refl

known_second : (p q x y : Bool) → stops (halts p q x y) ≡ false → q ≡ false
known_second true q x y e = let z : ◌≡◌ {A = ℕ} 0 1 = cc in absurd (omega arith)
known_second false true x y e = e
known_second false false x y e = refl

some_state : (p q x y : Bool) → stops (halts p q x y) ≡ false → x ≡ false → y ≡ true
some_state true q x y e n = let z : ◌≡◌ {A = ℕ} 0 1 = cc in absurd (omega arith)
some_state false true x y e n = let z : ◌≡◌ {A = ℕ} 0 1 = cc in absurd (omega arith)
some_state false false true y e n = let z : ◌≡◌ {A = ℕ} 0 1 = cc in absurd (omega arith)
some_state false false false true e n = refl
some_state false false false false e n = sym e

waits_first : (p q x y : Bool) → (halts p q x y).first ≡ true → p ≡ true
waits_first true q x y e = refl
waits_first false true x y e = e
waits_first false false true y e = e
waits_first false false false true e = e
waits_first false false false false e = e

waits_second : (p q x y : Bool) → (halts p q x y).second ≡ true → q ≡ true
waits_second true q x y e = let z : ◌≡◌ {A = ℕ} 0 1 = cc in absurd (omega arith)
waits_second false true x y e = refl
waits_second false false true y e = e
waits_second false false false true e = e
waits_second false false false false e = e

-- ---- the bytes written and the report on the states to come make up the whole

pub record Beside (a b : List ℕ) (r s : Reading) (before : List ℕ) (f g : Reading) (out : List ℕ) (at : ℕ) : Type 0 where
  pub text : (ra rb : List ℕ) → Rests r ra → Rests s rb
      → text_of (parted (coming r a ra) (coming s b rb)) ≡ take at out ++ text_of (parted (coming f a ra) (coming g b rb))
  pub within : at ≤ length out
  pub rest : drop at out ≡ drop at before
  pub first_over : f.over ≡ r.over
  pub second_over : g.over ≡ s.over
  pub first_shut : Shut (length a) f
  pub second_shut : Shut (length b) g

pub begins : (a b : List ℕ) (r s : Reading) (out : List ℕ) → Shut (length a) r → Shut (length b) s → Beside a b r s out r s out 0
begins a b r s out h k =
    record { text = λ ra rb p q. refl; within = omega arith; rest = refl; first_over = refl; second_over = refl; first_shut = h; second_shut = k }

module _ (a b : List ℕ) (r s : Reading) (before : List ℕ) (f g : Reading) (out : List ℕ) (at : ℕ) (w : Beside a b r s before f g out at) where
  pub fills : (f' g' : Reading) → Fills a f f' → Fills b g g' → Beside a b r s before f' g' out at
  fills f' g' u v =
      record {
        text = λ ra rb p q. w.text ra rb p q ∙ ap₂ (λ (x y : List Row). take at out ++ text_of (parted x y)) (u.rows ra) (v.rows rb);
        within = w.within;
        rest = w.rest;
        first_over = u.over ∙ w.first_over;
        second_over = v.over ∙ w.second_over;
        first_shut = u.shut w.first_shut;
        second_shut = v.shut w.second_shut;
      }

  -- the two next states are reported
  pub turns : stops (halt_of f g) ≡ false → (after : List ℕ) (n : ℕ) → Wrote out at (text_of (differences_at f.found g.found)) after n
      → Beside a b r s before (leaving (side_of f.found g.found).first f) (leaving (side_of f.found g.found).second g) after n
  turns e after n v =
      let x = (side_of f.found g.found).first in
      let y = (side_of f.found g.found).second in
      let d = text_of (differences_at f.found g.found) in
      record {
        text = λ ra rb p q.
            let fa = rows_of (kinds_from f.scan (drop f.at a ++ ra)) in
            let gb = rows_of (kinds_from g.scan (drop g.at b ++ rb)) in
            w.text ra rb p q
            ∙ ap (λ (t : List ℕ). take at out ++ t)
            (turn_text_lem f.found g.found fa gb
            (ends f a ra (known_first (waiting f) (waiting g) x y e) w.first_shut (λ o. p (sym w.first_over ∙ o)))
            (ends g b rb (known_second (waiting f) (waiting g) x y e) w.second_shut (λ o. q (sym w.second_over ∙ o))))
            ∙ sym (append_assoc (take at out) d (text_of (parted (left x f.found fa) (left y g.found gb))))
            ∙ ap (λ (t : List ℕ). t ++ text_of (parted (left x f.found fa) (left y g.found gb))) (sym v.bytes)
            ∙ ap₂ (λ (i j : List Row). take n after ++ text_of (parted i j)) (left_is f x a ra) (left_is g y b rb);
        within = inside v w.within;
        rest = v.rest ∙ rw v.next (later before out at (length d) w.rest);
        first_over = over_kept f x ∙ w.first_over;
        second_over = over_kept g y ∙ w.second_over;
        first_shut = shut_kept f x (length a) w.first_shut;
        second_shut = shut_kept g y (length b) w.second_shut;
      }

  -- the report waits for more of a listing, or is over
  pub stands : (waiting f ≡ true → length a ≤ f.at) → (waiting g ≡ true → length b ≤ g.at) → at + 300 ≤ length out → Reported a b r s before out (portion_of f g at (halt_of f g))
  stands u v h =
      let x = (side_of f.found g.found).first in
      let y = (side_of f.found g.found).second in
      record {
        text = w.text;
        within = w.within;
        rest = w.rest;
        halts = rw (le-ltb (length out) (at + 300) h);
        first_over = w.first_over;
        second_over = w.second_over;
        first_shut = w.first_shut;
        second_shut = w.second_shut;
        first_used = λ e. u (waits_first (waiting f) (waiting g) x y e);
        second_used = λ e. v (waits_second (waiting f) (waiting g) x y e);
      }

  -- there is no room for one moment more
  pub is_full_lem : length out < at + 300 → Reported a b r s before out (portion_of f g at (waits_for false false false))
  is_full_lem h =
      record {
        text = w.text;
        within = w.within;
        rest = w.rest;
        halts = rw (lt-ltb (length out) (at + 300) h);
        first_over = w.first_over;
        second_over = w.second_over;
        first_shut = w.first_shut;
        second_shut = w.second_shut;
        first_used = λ e. (let z : ◌≡◌ {A = ℕ} 0 1 = cc in absurd (omega arith));
        second_used = λ e. (let z : ◌≡◌ {A = ℕ} 0 1 = cc in absurd (omega arith));
      }

-- ---- each turn passes a state

abbrev pub ahead : List ℕ → List ℕ → Reading → Reading → ℕ
ahead a b f g = length (coming f a []) + length (coming g b [])

both_ahead : (x y : Bool) (r s : Row) (ra rb : List Row)
    → let t = if x then takes true false otherwise if y then takes false true otherwise takes true true in
    length (left t.first (Some r) ra) + length (left t.second (Some s) rb) < length (found_rows (Some r) ++ ra) + length (found_rows (Some s) ++ rb)
both_ahead true y r s ra rb = omega arith
both_ahead false true r s ra rb = omega arith
both_ahead false false r s ra rb = omega arith

fewer : (f g : Option Row) (ra rb : List Row) → ((side_of f g).first ≡ false → (side_of f g).second ≡ true)
    → length (left (side_of f g).first f ra) + length (left (side_of f g).second g rb) < length (found_rows f ++ ra) + length (found_rows g ++ rb)
fewer None None ra rb h = let e : ◌≡◌ {A = Bool} false true = h refl in let z : ◌≡◌ {A = ℕ} 0 1 = cc in absurd (omega arith)
fewer (Some r) None ra rb h = omega arith
fewer None (Some s) ra rb h = omega arith
fewer (Some r) (Some s) ra rb h = both_ahead (ltb r.moment s.moment) (ltb s.moment r.moment) r s ra rb

turn_ahead : (a b : List ℕ) (f g : Reading) → stops (halt_of f g) ≡ false
    → ahead a b (leaving (side_of f.found g.found).first f) (leaving (side_of f.found g.found).second g) < ahead a b f g
turn_ahead a b f g e =
    let x = (side_of f.found g.found).first in
    let y = (side_of f.found g.found).second in
    rw (← left_is f x a [], ← left_is g y b []) (fewer f.found g.found _ _ (some_state (waiting f) (waiting g) x y e))

pub fewer_ahead : (a b : List ℕ) (f g f' g' : Reading) → Fills a f f' → Fills b g g' → stops (halt_of f' g') ≡ false
    → ahead a b (leaving (side_of f'.found g'.found).first f') (leaving (side_of f'.found g'.found).second g') < ahead a b f g
fewer_ahead a b f g f' g' u v e =
    let l : ahead a b f g ≡ ahead a b f' g' = ap₂ (λ (x y : List Row). length x + length y) (u.rows []) (v.rows []) in
    rw l (turn_ahead a b f' g' e)
