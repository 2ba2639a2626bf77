-- A table after some more bytes. Assumes nothing.
use Prim.Native.Nat.{ℕ, ◌+◌, ◌<◌, ◌≤◌}
use mathlib.Core.Bool.{Bool, true, false}
use mathlib.Core.List.{List, [], ◌∷◌, ◌++◌, append_assoc}
use mathlib.Core.Path.{◌≡◌, refl, sym, ap, ap₂, subst, ◌∙◌}
use native.Mathlib.Numerals.{add-one}
use native.Mathlib.Omega.{arith}
use borrow.Author.Tests.{ltb-true, ltb-false}
use lib.Dec.{ltb}
use lib.ListN.{length, take, drop, get_or}
use lib.Seq.{drop-cons}
use Rattle.std.specs.Prelude.{Option, Some, None}
use Rattle.base.specs.Choice.{if◌then◌otherwise◌}
use Rattle.base.specs.Limits.{end_of_time}
use Rattle.base.specs.Refusals.{number_of}
use Rattle.base.specs.declared.Refusal.{Refusal}
use Rattle.base.specs.declared.Refusal.TheVariants.{Listing, Large}
use Rattle.text_write.specs.Written.{Wrote}
use Rattle.text_write.proofs.Writing.{nothing, both, inside}
use Rattle.listing_scan.specs.declared.Row.{Row}
use Rattle.listing_scan.specs.declared.Line.{Line}
use Rattle.listing_scan.specs.declared.Line.TheVariants as line
use Rattle.listing_read.specs.declared.Place.{Place}
use Rattle.listing_read.specs.declared.Place.TheVariants.{Top, First, After, Done, Off}
use Rattle.listing_scan.specs.declared.Scan.{Scan}
use Rattle.listing_scan.specs.declared.Scan.TheVariants.{Start}
use Rattle.listing_read.specs.Form.{lines_of, row_of, placed, is_off}
use Rattle.listing_scan.specs.Bytes.{told, begun, Takes}
use Rattle.listing_read.specs.Bytes.{kinds_from}
use Rattle.listing_read.proofs.Lines.{kinds_feed, kinds_byte}
use Rattle.table_rows.specs.Text.{has_large}
use Rattle.table_rows.proofs.Sizes.{row_short}
use Rattle.table_blocks.specs.declared.Standing.{Standing}
use Rattle.table_blocks.specs.declared.Standing.TheVariants.{Going, Refused}
use Rattle.table_blocks.specs.declared.RefusedLine.{RefusedLine}
use Rattle.table_blocks.specs.declared.Step.{Step}
use Rattle.table_blocks.specs.declared.End.{End}
use Rattle.table_blocks.specs.Table.{Table, no_rows, refused_by, behind, state_refusal, found_refusal, refusal_at, found_text, at_end, table_from}
use Rattle.table_blocks.specs.Steps.{table_with, Held, Stands, Fresh, Steps, Feeds, Tabled, Ends}

pub behind_behind : (t u : List ℕ) (x : Table) → behind t (behind u x) ≡ behind (t ++ u) x
behind_behind t u x = ap (λ (z : List ℕ). record { rows = z; refused = x.refused }) (sym (append_assoc t u x.rows))

-- ---- when a line is not refused

not_refused : (r : Refusal) → ◌≡◌ {A = Option Refusal} (Some r) None → ⊥
not_refused r e = let z : ◌≡◌ {A = ℕ} 0 1 = cc in absurd (omega arith)

choice : (p q : Bool) → ◌≡◌ {A = Option Refusal} (if p then (if q then Some Large otherwise None) otherwise Some Listing) None → (p ≡ true) × (q ≡ false)
choice true true e = absurd (not_refused Large e)
choice true false e = (refl, refl)
choice false q e = absurd (not_refused Listing e)

pub state_fits : (r : Row) → state_refusal r ≡ None → (r.moment < end_of_time) × (has_large r ≡ false)
state_fits r e = let c = choice (ltb r.moment end_of_time) (has_large r) e in (ltb-true r.moment end_of_time c.0, c.1)

pub fits_of : (f : Option Row) (r : Row) → f ≡ Some r → found_refusal f ≡ None → state_refusal r ≡ None
fits_of f r e h = sym (ap found_refusal e) ∙ h

unless_off : (b : Bool) (n : Option Refusal) → (if b then Some Listing otherwise n) ≡ None → n ≡ None
unless_off true n e = absurd (not_refused Listing e)
unless_off false n e = e

pub found_fits : (p : Place) (f : Option Row) → refusal_at p f ≡ None → found_refusal f ≡ None
found_fits p f e = unless_off (is_off p) (found_refusal f) e

found_short : (f : Option Row) → found_refusal f ≡ None → length (found_text f) ≤ 157
found_short None e = omega arith
found_short (Some r) e = row_short r (state_fits r e).1

-- ---- there are at most as many lines as milliseconds

pub line_most : (p : Place) (n : ℕ) → Held p n → n ≤ end_of_time + 3
line_most Top n h = omega arith
line_most First n h = omega arith
line_most (After t) n h = omega (arith, h.0, h.1)
line_most Done n h = h
line_most Off n h = absurd h

later_held : (t m n : ℕ) (b : Bool) (f : Option Row) → ltb t m ≡ b → (n ≤ t + 3) × (t < end_of_time) → m < end_of_time → refusal_at (if b then After m otherwise Off) f ≡ None → Held (if b then After m otherwise Off) (n + 1)
later_held t m n true f e h l z = let p = h.0 in let g = ltb-true t m e in (omega arith, l)
later_held t m n false f e h l z = absurd (not_refused Listing z)

held_on : (p : Place) (n : ℕ) (l : Line) → Held p n → refusal_at (placed p l) (row_of l) ≡ None → Held (placed p l) (n + 1)
held_on Top n line.Header h z = omega arith
held_on Top n line.Lone h z = omega arith
held_on Top n (line.State r) h z = absurd (not_refused Listing z)
held_on Top n line.Outcome h z = absurd (not_refused Listing z)
held_on Top n line.Bad h z = absurd (not_refused Listing z)
held_on First n (line.State r) h z = (omega arith, (state_fits r z).0)
held_on First n line.Header h z = absurd (not_refused Listing z)
held_on First n line.Lone h z = absurd (not_refused Listing z)
held_on First n line.Outcome h z = absurd (not_refused Listing z)
held_on First n line.Bad h z = absurd (not_refused Listing z)
held_on (After t) n (line.State r) h z = later_held t r.moment n (ltb t r.moment) (Some r) refl h (state_fits r (found_fits (placed (After t) (line.State r)) (Some r) z)).0 z
held_on (After t) n line.Outcome h z = omega (arith, h.0, h.1)
held_on (After t) n line.Header h z = absurd (not_refused Listing z)
held_on (After t) n line.Lone h z = absurd (not_refused Listing z)
held_on (After t) n line.Bad h z = absurd (not_refused Listing z)
held_on Done n l h z = absurd (not_refused Listing z)
held_on Off n l h z = absurd h

-- ---- one line more

pub line_told : (p : Place) (n : ℕ) (l : Line) (ls : List Line) → refusal_at (placed p l) (row_of l) ≡ None → table_from p n (l ∷ ls) ≡ behind (found_text (row_of l)) (table_from (placed p l) (n + 1) ls)
unfolding table_from
line_told p n l ls e = rw e

pub line_refused : (p : Place) (n : ℕ) (l : Line) (ls : List Line) (r : Refusal) → refusal_at (placed p l) (row_of l) ≡ Some r → table_from p n (l ∷ ls) ≡ refused_by r n
unfolding table_from
line_refused p n l ls r e = rw e

start_fresh : (p : Place) (n : ℕ) → Fresh (Going p Start n)
unfolding Fresh
start_fresh p n = refl

refused_fresh : (r : RefusedLine) → Fresh (Refused r)
unfolding Fresh
refused_fresh r = omega arith

pub refused_stands : (r : RefusedLine) → Stands (Refused r)
unfolding Stands
refused_stands r = omega arith

pub going_stands : (p : Place) (s : Scan) (n : ℕ) → Held p n → Stands (Going p s n)
unfolding Stands
going_stands p s n h = h

pub stands_held : (p : Place) (s : Scan) (n : ℕ) → Stands (Going p s n) → Held p n
unfolding Stands
stands_held p s n h = h

module _ (place : Place) (scan : Scan) (n : ℕ) (kind : Line) (q : Place) (f : Option Row) (r : Option Refusal)
    (k : kind ≡ told scan []) (e : q ≡ placed place kind) (g : f ≡ row_of kind) (m : r ≡ refusal_at q f) where
  at_line : r ≡ refusal_at (placed place (told scan [])) (row_of (told scan []))
  at_line = m ∙ ap₂ refusal_at e g ∙ ap (λ (l : Line). refusal_at (placed place l) (row_of l)) k

  feed_table : r ≡ None → (rest : List ℕ) → table_with (Going place scan n) (10 ∷ rest) ≡ behind (found_text f) (table_with (Going q Start (n + 1)) rest)
  unfolding table_with
  feed_table z rest =
      let l = told scan [] in
      let ls = kinds_from Start rest in
      ap (table_from place n) (kinds_feed scan rest)
      ∙ line_told place n l ls (sym at_line ∙ z)
      ∙ ap₂ (λ (x : Option Row) (p : Place). behind (found_text x) (table_from p (n + 1) ls)) (sym (g ∙ ap row_of k)) (sym (e ∙ ap (placed place) k))

  pub feeds_row : (before after : List ℕ) (at next : ℕ) → Held place n → r ≡ None → Wrote before at (found_text f) after next
      → Feeds (Going place scan n) before at after (record { standing = Going q Start (n + 1); next = next })
  feeds_row before after at next h z w =
      let s : length (found_text f) ≤ 157 = found_short f (found_fits q f (sym m ∙ z)) in
      record {
        steps =
            record {
              text = found_text f;
              wrote = w;
              table = λ rest. feed_table z rest;
              short = omega (arith, w.next, s);
              stands = going_stands q Start (n + 1) (subst (λ (x : Place). Held x (n + 1)) (sym (e ∙ ap (placed place) k)) (held_on place n (told scan []) h (sym at_line ∙ z)));
            };
        fresh = start_fresh q (n + 1);
      }

  refused_table : (x : Refusal) → r ≡ Some x → (rest : List ℕ) → table_with (Going place scan n) (10 ∷ rest) ≡ behind [] (table_with (Refused (record { number = number_of x; line = n })) rest)
  unfolding table_with
  refused_table x z rest = ap (table_from place n) (kinds_feed scan rest) ∙ line_refused place n (told scan []) (kinds_from Start rest) x (sym at_line ∙ z)

  pub feeds_refused : (before : List ℕ) (at : ℕ) (x : Refusal) → r ≡ Some x → Feeds (Going place scan n) before at before (record { standing = Refused (record { number = number_of x; line = n }); next = at })
  feeds_refused before at x z =
      record {
        steps = record { text = []; wrote = nothing before at; table = λ rest. refused_table x z rest; short = omega arith; stands = refused_stands (record { number = number_of x; line = n }) };
        fresh = refused_fresh (record { number = number_of x; line = n });
      }

-- ---- one byte more

module _ (place : Place) (scan : Scan) (n : ℕ) where
  pub feed_steps : (b : ℕ) (before after : List ℕ) (at : ℕ) (s : Step) → b ≡ 10 → Feeds (Going place scan n) before at after s → Steps (Going place scan n) (b ∷ []) before at after s
  feed_steps b before after at s e f = subst (λ (x : ℕ). Steps (Going place scan n) (x ∷ []) before at after s) (sym e) f.steps

  byte_table : (b : ℕ) (r : Scan) → (b ≡ 10 → ⊥) → Takes scan b r → (rest : List ℕ) → table_with (Going place scan n) (b ∷ rest) ≡ behind [] (table_with (Going place r n) rest)
  unfolding table_with
  byte_table b r e t rest = ap (table_from place n) (kinds_byte scan r b rest e t)

  pub byte_steps : (b : ℕ) (r : Scan) (before : List ℕ) (at : ℕ) → Held place n → (b ≡ 10 → ⊥) → Takes scan b r
      → Steps (Going place scan n) (b ∷ []) before at before (record { standing = Going place r n; next = at })
  byte_steps b r before at h e t = record { text = []; wrote = nothing before at; table = λ rest. byte_table b r e t rest; short = omega arith; stands = going_stands place r n h }

refused_with : (r : RefusedLine) (a b : List ℕ) → table_with (Refused r) a ≡ behind [] (table_with (Refused r) b)
unfolding table_with
refused_with r a b = refl

pub stays_refused : (r : RefusedLine) (b : ℕ) (before : List ℕ) (at : ℕ) → Steps (Refused r) (b ∷ []) before at before (record { standing = Refused r; next = at })
stays_refused r b before at = record { text = []; wrote = nothing before at; table = λ rest. refused_with r (b ∷ rest) rest; short = omega arith; stands = refused_stands r }

-- ---- a block

pub record Made (block : List ℕ) (from : ℕ) (s₀ : Standing) (out₀ : List ℕ) (s : Standing) (i at : ℕ) (out : List ℕ) : Type 0 where
  pub text : List ℕ
  pub wrote : Wrote out₀ 0 text out at
  pub table : (rest : List ℕ) → table_with s₀ (drop from block ++ rest) ≡ behind text (table_with s (drop i block ++ rest))
  pub stands : Stands s
  pub within : at ≤ length out
  pub least : from ≤ i
  pub none : i ≡ from → at ≡ 0

pub begins : (block : List ℕ) (from : ℕ) (s : Standing) (out : List ℕ) → Stands s → Made block from s out s from 0 out
begins block from s out h = record { text = []; wrote = nothing out 0; table = λ rest. refl; stands = h; within = omega arith; least = omega arith; none = λ e. refl }

module _ (block : List ℕ) (from : ℕ) (s₀ : Standing) (out₀ : List ℕ) (s : Standing) (i at : ℕ) (out : List ℕ) (m : Made block from s₀ out₀ s i at out) where
  one_byte : i < length block → (rest : List ℕ) → drop i block ++ rest ≡ get_or block i 0 ∷ (drop (i + 1) block ++ rest)
  one_byte h rest = rw (add-one i, drop-cons block i 0 h)

  pub goes_on : (after : List ℕ) (step : Step) → i < length block → Steps s (get_or block i 0 ∷ []) out at after step → Made block from s₀ out₀ step.standing (i + 1) step.next after
  goes_on after step h t =
      record {
        text = m.text ++ t.text;
        wrote = both m.wrote t.wrote;
        table = λ rest.
            m.table rest
            ∙ ap (behind m.text) (ap (table_with s) (one_byte h rest) ∙ t.table (drop (i + 1) block ++ rest))
            ∙ behind_behind m.text t.text (table_with step.standing (drop (i + 1) block ++ rest));
        stands = t.stands;
        within = inside t.wrote m.within;
        least = let l = m.least in omega arith;
        none = λ e. let l = m.least in absurd (omega arith);
      }

  moves_on : (i < length block → length out < at + 157) → from < length block → 157 ≤ length out → from < i
  moves_on e h r = go (ltb from i) refl
    where
      go : (b : Bool) → ltb from i ≡ b → from < i
      go true x = ltb-true from i x
      go false x =
          let l = m.least in
          let y = ltb-false from i x in
          let same : i ≡ from = omega arith in
          let z = m.none same in
          let full = e (omega arith) in
          absurd (omega arith)

  pub tabled : (i < length block → length out < at + 157) → Tabled block from s₀ out₀ out (record { standing = s; at = i; written = at })
  tabled e =
      let w : take at out ≡ m.text = m.wrote.bytes in
      record {
        table = λ rest. m.table rest ∙ ap (λ (t : List ℕ). behind t (table_with s (drop i block ++ rest))) (sym w);
        within = m.within;
        kept = m.wrote.rest;
        stands = m.stands;
        ends = e;
        moves = moves_on e;
      }

-- ---- the end of the text

none_left : (s : Scan) → begun s ≡ false → kinds_from s [] ≡ []
unfolding kinds_from lines_of
none_left s e = rw e

one_left : (s : Scan) → begun s ≡ true → kinds_from s [] ≡ kinds_from s (10 ∷ [])
unfolding kinds_from lines_of
one_left s e = rw e

pub end_table : (p : Place) (s : Scan) (n : ℕ) → begun s ≡ false → table_with (Going p s n) [] ≡ at_end p n
unfolding table_with table_from
end_table p s n e = ap (table_from p n) (none_left s e)

pub fresh_begun : (p : Place) (s : Scan) (n : ℕ) → Fresh (Going p s n) → begun s ≡ false
unfolding Fresh
fresh_begun p s n h = h

pub refused_end : (r : RefusedLine) → table_with (Refused r) [] ≡ no_rows (Some r)
unfolding table_with
refused_end r = refl

last_line : (p : Place) (s : Scan) (n : ℕ) → begun s ≡ true → table_with (Going p s n) [] ≡ table_with (Going p s n) (10 ∷ [])
unfolding table_with
last_line p s n e = ap (table_from p n) (one_left s e)

module _ (p : Place) (s : Scan) (n : ℕ) (before : List ℕ) where
  pub ends_inside : (after : List ℕ) (step : Step) (e : End) → begun s ≡ true → Feeds (Going p s n) before 0 after step
      → (table_with step.standing [] ≡ no_rows e.refused) × (e.next ≡ step.next) → Ends (Going p s n) before after e
  ends_inside after step e b f x =
      let t = f.steps in
      record {
        text = t.text;
        wrote = subst (λ (r : ℕ). Wrote before 0 t.text after r) (sym x.1) t.wrote;
        table = last_line p s n b ∙ t.table [] ∙ ap (behind t.text) x.0;
      }

  pub ends_between : (e : End) → begun s ≡ false → (no_rows e.refused ≡ at_end p n) × (e.next ≡ 0) → Ends (Going p s n) before before e
  ends_between e b x =
      record {
        text = [];
        wrote = subst (λ (r : ℕ). Wrote before 0 [] before r) (sym x.1) (nothing before 0);
        table = end_table p s n b ∙ sym x.0;
      }

pub ends_refused : (r : RefusedLine) (before : List ℕ) → Ends (Refused r) before before (record { refused = Some r; next = 0 })
ends_refused r before = record { text = []; wrote = nothing before 0; table = refused_end r }
