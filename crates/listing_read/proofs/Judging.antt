-- The reading of a listing after some more bytes. Assumes nothing.
use Prim.Native.Nat.{ℕ, ◌+◌, ◌≤◌}
use mathlib.Core.Bool.{Bool, true, false}
use mathlib.Core.List.{List, [], ◌∷◌, ◌++◌, append_assoc}
use mathlib.Core.Path.{◌≡◌, refl, sym, ap, subst, ◌∙◌}
use native.Mathlib.Nat.{add-zero}
use native.Mathlib.Omega.{arith}
use borrow.Author.Tests.{lt-ltb, le-ltb, ne_eqb}
use lib.ListN.{length, length-append}
use Rattle.base.specs.Choice.{if◌then◌otherwise◌}
use Rattle.listing_scan.specs.declared.Line.{Line}
use Rattle.listing_scan.specs.declared.Line.TheVariants as line
use Rattle.listing_read.specs.declared.Place.{Place}
use Rattle.listing_read.specs.declared.Place.TheVariants.{Top, First, After, Done, Off}
use Rattle.listing_scan.specs.declared.Scan.{Scan}
use Rattle.listing_scan.specs.declared.Scan.TheVariants.{Start}
use Rattle.listing_read.specs.declared.Judge.{Judge}
use Rattle.listing_read.specs.Form.{lines_of, placed, is_off, missing, refused_from, rows_of}
use Rattle.listing_scan.specs.Bytes.{told, begun, Takes}
use Rattle.listing_read.specs.Bytes.{kinds_from, last_start, refusal_with, count_with, outcome_with, line_after, rows_after, line_ended, Counted, Goes, closed, verdict_of}
use Rattle.listing_read.proofs.Lines.{kinds_feed, kinds_byte}

-- ---- one line more

off_stays : (n : ℕ) (ls : List Line) → refused_from Off n ls ≡ n
unfolding refused_from
off_stays n [] = refl
off_stays n (l ∷ ls) = refl

onward : (q : Place) (n : ℕ) (ls : List Line) → (if is_off q then n otherwise refused_from q (n + 1) ls) ≡ refused_from q (line_after q n) ls
onward Off n ls = sym (off_stays n ls)
onward Top n ls = refl
onward First n ls = refl
onward (After t) n ls = refl
onward Done n ls = refl

one_line : (p : Place) (n : ℕ) (l : Line) (ls : List Line) → refused_from p n (l ∷ ls) ≡ refused_from (placed p l) (line_after (placed p l) n) ls
unfolding refused_from
one_line p n l ls = onward (placed p l) n ls

one_row : (l : Line) (ls : List Line) (n : ℕ) → n + length (rows_of (l ∷ ls)) ≡ rows_after l n + length (rows_of ls)
unfolding rows_of
one_row (line.State r) ls n = omega arith
one_row line.Header ls n = refl
one_row line.Outcome ls n = refl
one_row line.Lone ls n = refl
one_row line.Bad ls n = refl

line_step : (q : Place) (n : ℕ) → line_after q n ≤ n + 1
line_step Off n = omega arith
line_step Top n = omega arith
line_step First n = omega arith
line_step (After t) n = omega arith
line_step Done n = omega arith

row_step : (l : Line) (n : ℕ) → rows_after l n ≤ n + 1
row_step (line.State r) n = omega arith
row_step line.Header n = omega arith
row_step line.Outcome n = omega arith
row_step line.Lone n = omega arith
row_step line.Bad n = omega arith

-- ---- one byte more

module _ (j : Judge) (known : Counted j) where
  feed_goes : Goes j (10 ∷ []) (line_ended j (j.read + 1))
  unfolding last_start
  feed_goes =
      let l = known.lines in
      let s = known.states in
      record {
        refusal = λ rest. rw (kinds_feed j.scan rest) (one_line j.place j.line (told j.scan []) (kinds_from Start rest));
        count = λ rest. rw (kinds_feed j.scan rest) (one_row (told j.scan []) (kinds_from Start rest) j.rows);
        outcome = λ rest. refl;
        read = refl;
        counted =
            record {
              lines = omega (arith, line_step (placed j.place (told j.scan [])) j.line);
              states = omega (arith, row_step (told j.scan []) j.rows);
              start = omega arith;
              fresh = sym (le-ltb (j.read + 1) (j.read + 1) (omega arith));
            };
      }

  pub goes_feed : (b : ℕ) → b ≡ 10 → Goes j (b ∷ []) (line_ended j (j.read + 1))
  goes_feed b e = subst (λ (n : ℕ). Goes j (n ∷ []) (line_ended j (j.read + 1))) (sym e) feed_goes

  pub goes_byte : (b : ℕ) (r : Scan) → (b ≡ 10 → ⊥) → Takes j.scan b r
      → Goes j (b ∷ []) (record { place = j.place; scan = r; line = j.line; rows = j.rows; read = j.read + 1; from = j.from; last = j.last })
  unfolding last_start
  goes_byte b r n t =
      let l = known.lines in
      let s = known.states in
      let f = known.start in
      record {
        refusal = λ rest. ap (refused_from j.place j.line) (kinds_byte j.scan r b rest n t);
        count = λ rest. ap (λ (ls : List Line). j.rows + length (rows_of ls)) (kinds_byte j.scan r b rest n t);
        outcome = λ rest. rw (ne_eqb b 10 n);
        read = refl;
        counted =
            record {
              lines = omega arith;
              states = omega arith;
              start = omega arith;
              fresh = t.on ∙ sym (lt-ltb j.from (j.read + 1) (omega arith));
            };
      }

-- ---- blocks one after the other

pub goes_nowhere : (j : Judge) → Counted j → Goes j [] j
goes_nowhere j known = record { refusal = λ rest. refl; count = λ rest. refl; outcome = λ rest. refl; read = sym (add-zero j.read); counted = known }

pub goes_on : (j k r : Judge) (a b : List ℕ) → Goes j a k → Goes k b r → Goes j (a ++ b) r
goes_on j k r a b g h =
    record {
      refusal = λ rest. ap (refusal_with j) (append_assoc a b rest) ∙ g.refusal (b ++ rest) ∙ h.refusal rest;
      count = λ rest. ap (count_with j) (append_assoc a b rest) ∙ g.count (b ++ rest) ∙ h.count rest;
      outcome = λ rest. ap (outcome_with j) (append_assoc a b rest) ∙ g.outcome (b ++ rest) ∙ h.outcome rest;
      read = omega (arith, g.read, h.read, length-append a b);
      counted = h.counted;
    }

-- ---- the end of the text

between_lines : (s : Scan) → begun s ≡ false → kinds_from s [] ≡ []
unfolding kinds_from lines_of
between_lines s e = rw e

in_line : (s : Scan) → begun s ≡ true → kinds_from s [] ≡ told s [] ∷ []
unfolding kinds_from lines_of
in_line s e = rw e

none_missing : (q : Place) (n : ℕ) → refused_from q n [] ≡ missing q n
unfolding refused_from
none_missing q n = refl

no_rows : length (rows_of []) ≡ 0
unfolding rows_of
no_rows = refl

module _ (j : Judge) (known : Counted j) where
  start_is : (t : Bool) → begun j.scan ≡ t → outcome_with j [] ≡ (if t then j.from otherwise j.last)
  unfolding last_start
  start_is t e = rw (← known.fresh, e)

  pub ends_between : begun j.scan ≡ false → closed j ≡ verdict_of j []
  ends_between e =
      let r : refusal_with j [] ≡ missing j.place j.line = rw (between_lines j.scan e) (none_missing j.place j.line) in
      let n : count_with j [] ≡ j.rows = rw (between_lines j.scan e, no_rows) (add-zero j.rows) in
      rw (r, n, start_is false e)

  pub ends_inside : begun j.scan ≡ true → closed (line_ended j j.read) ≡ verdict_of j []
  ends_inside e =
      let l = told j.scan [] in
      let q = placed j.place l in
      let r : refusal_with j [] ≡ missing q (line_after q j.line) = rw (in_line j.scan e) (one_line j.place j.line l [] ∙ none_missing q (line_after q j.line)) in
      let n : count_with j [] ≡ rows_after l j.rows = rw (in_line j.scan e) (one_row l [] j.rows ∙ rw no_rows (add-zero (rows_after l j.rows))) in
      rw (r, n, start_is true e)
