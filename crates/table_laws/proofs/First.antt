-- "What R-1 refuses is 13, a magnitude of 10^12 or more 17, each with its line; the first such line decides, and rows before it have
-- been written." Assumes nothing.
use Prim.Native.Nat.{ℕ, zero, suc, ◌+◌, ◌<◌, ◌≤◌}
use mathlib.Core.Bool.{Bool, true, false}
use mathlib.Core.List.{List, [], ◌∷◌, ◌++◌}
use mathlib.Core.Path.{◌≡◌, refl, sym, ap, ap₂, ◌∙◌}
use native.Mathlib.Omega.{arith}
use borrow.Author.Tests.{eq-eqb, ne_eqb, lt-ltb, le-ltb, eqb-false}
use lib.Dec.{ltb, eqb}
use Rattle.std.specs.Prelude.{Option, Some, None}
use Rattle.base.specs.Choice.{if◌then◌otherwise◌}
use Rattle.base.specs.Limits.{end_of_time}
use Rattle.base.specs.declared.Refusal.{Refusal}
use Rattle.base.specs.declared.Refusal.TheVariants.{Listing, Large}
use Rattle.listing_scan.specs.declared.Row.{Row}
use Rattle.listing_scan.specs.declared.Line.{Line}
use Rattle.listing_scan.specs.declared.Line.TheVariants as line
use Rattle.listing_read.specs.declared.Place.{Place}
use Rattle.listing_read.specs.declared.Place.TheVariants.{Top, First, After, Done, Off}
use Rattle.listing_read.specs.Form.{kinds_of, row_of, found_rows, placed, is_off, refused_from, form_refusal, rows_of, rows_in}
use Rattle.table_rows.specs.Text.{heading}
use Rattle.table_blocks.specs.Table.{Table, over, refused_by, behind, found_refusal, refusal_at, found_text, unless_refused, table_from, table_of, refusal_text, written, told}
use Rattle.table_blocks.proofs.Reading.{line_told, line_refused}
use Rattle.table_laws.specs.Laws.{rows_text, found_large, large_from, decided, refusal_of, line_in, lines_before, first_large, refusal_in}
use Rattle.table_laws.proofs.Ranges.{InRange, AllInRange, all_in_range}

-- ---- a line more

module _ (p : Place) (n : ℕ) (l : Line) (ls : List Line) where
  form_off : is_off (placed p l) ≡ true → refused_from p n (l ∷ ls) ≡ n
  unfolding refused_from
  form_off e = rw e

  form_on : is_off (placed p l) ≡ false → refused_from p n (l ∷ ls) ≡ refused_from (placed p l) (n + 1) ls
  unfolding refused_from
  form_on e = rw e

  large_here : found_large (row_of l) ≡ true → large_from n (l ∷ ls) ≡ n
  unfolding large_from
  large_here e = rw e

  large_on : found_large (row_of l) ≡ false → large_from n (l ∷ ls) ≡ large_from (n + 1) ls
  unfolding large_from
  large_on e = rw e

  before_on : (line : ℕ) → (n ≡ line → ⊥) → lines_before line n (l ∷ ls) ≡ l ∷ lines_before line (n + 1) ls
  unfolding lines_before
  before_on line e = rw (ne_eqb n line e)

abbrev InRangeFound : Option Row → Type 0
InRangeFound None = Unit {0}
InRangeFound (Some r) = r.moment < end_of_time

-- a line in range is refused with 13 if it is not of the form, else with 17 if a component is large
by_large : (f : Option Row) (b : Bool) → found_large f ≡ b → InRangeFound f → found_refusal f ≡ (if b then Some Large otherwise None)
by_large None b e h = rw (sym e)
by_large (Some r) b e h = rw (lt-ltb r.moment end_of_time h, e)

range_of : (l : Line) → InRange l → InRangeFound (row_of l)
range_of (line.State r) h = h
range_of line.Header h = tt
range_of line.Outcome h = tt
range_of line.Lone h = tt
range_of line.Bad h = tt

refusal_is : (p : Place) (l : Line) (o b : Bool) → is_off (placed p l) ≡ o → found_large (row_of l) ≡ b → InRange l
    → refusal_at (placed p l) (row_of l) ≡ (if o then Some Listing otherwise if b then Some Large otherwise None)
refusal_is p l o b e g h = rw (e, by_large (row_of l) b g (range_of l h))

-- ---- the line numbers that are found are not before the first line

form_later : (p : Place) (n : ℕ) (ls : List Line) → 0 < refused_from p n ls → n ≤ refused_from p n ls
unfolding refused_from
form_later Top n [] h = omega arith
form_later First n [] h = omega arith
form_later (After t) n [] h = omega arith
form_later Done n [] h = absurd (omega arith)
form_later Off n [] h = omega arith
form_later p n (l ∷ ls) h = go (is_off (placed p l)) h (form_later (placed p l) (n + 1) ls)
  where
    go : (b : Bool) → 0 < (if b then n otherwise refused_from (placed p l) (n + 1) ls)
        → (0 < refused_from (placed p l) (n + 1) ls → n + 1 ≤ refused_from (placed p l) (n + 1) ls)
        → n ≤ (if b then n otherwise refused_from (placed p l) (n + 1) ls)
    go true h later = omega arith
    go false h later = let s = later h in omega arith

large_later : (n : ℕ) (ls : List Line) → 0 < large_from n ls → n ≤ large_from n ls
unfolding large_from
large_later n [] h = absurd (omega arith)
large_later n (l ∷ ls) h = go (found_large (row_of l)) h (large_later (n + 1) ls)
  where
    go : (b : Bool) → 0 < (if b then n otherwise large_from (n + 1) ls) → (0 < large_from (n + 1) ls → n + 1 ≤ large_from (n + 1) ls) → n ≤ (if b then n otherwise large_from (n + 1) ls)
    go true h later = omega arith
    go false h later = let s = later h in omega arith

-- ---- the first line decides

positive : (n : ℕ) → (n ≡ 0 → ⊥) → 0 < n
positive zero e = absurd (e refl)
positive (suc n) e = omega arith

off_first : (n g : ℕ) → 1 ≤ n → (0 < g → n ≤ g) → decided n g ≡ refused_by Listing n
off_first n g h later = go (eqb g 0) refl
  where
    z : eqb n 0 ≡ false
    z = ne_eqb n 0 (λ e. omega arith)

    go : (b : Bool) → eqb g 0 ≡ b
        → (if (if b then false otherwise if eqb n 0 then true otherwise ltb g n) then refused_by Large g otherwise if eqb n 0 then over otherwise refused_by Listing n) ≡ refused_by Listing n
    go true e = rw z
    go false e =
        let ne = eqb-false g 0 e in
        let some : 0 < g = positive g ne in
        rw (z, le-ltb g n (later some))

large_first : (n f : ℕ) → 1 ≤ n → (0 < f → n < f) → decided f n ≡ refused_by Large n
large_first n f h later = go (eqb f 0) refl
  where
    z : eqb n 0 ≡ false
    z = ne_eqb n 0 (λ e. omega arith)

    go : (b : Bool) → eqb f 0 ≡ b
        → (if (if eqb n 0 then false otherwise if b then true otherwise ltb n f) then refused_by Large n otherwise if b then over otherwise refused_by Listing f) ≡ refused_by Large n
    go true e = rw z
    go false e =
        let some : 0 < f = positive f (eqb-false f 0 e) in
        rw (z, lt-ltb n f (later some))

at_end_decides : (p : Place) (n : ℕ) → 1 ≤ n → refusal_of (table_from p n []) ≡ decided (refused_from p n []) (large_from n [])
unfolding table_from refused_from large_from
at_end_decides Top n h = sym (off_first n 0 h (λ z. absurd (omega arith)))
at_end_decides First n h = sym (off_first n 0 h (λ z. absurd (omega arith)))
at_end_decides (After t) n h = sym (off_first n 0 h (λ z. absurd (omega arith)))
at_end_decides Done n h = refl
at_end_decides Off n h = sym (off_first n 0 h (λ z. absurd (omega arith)))

pub first_decides : (p : Place) (n : ℕ) (ls : List Line) → 1 ≤ n → AllInRange ls → refusal_of (table_from p n ls) ≡ decided (refused_from p n ls) (large_from n ls)
first_decides p n [] h r = at_end_decides p n h
first_decides p n (l ∷ ls) h r = go (is_off (placed p l)) (found_large (row_of l)) refl refl (first_decides (placed p l) (n + 1) ls (omega arith) r.1)
  where
    go : (o b : Bool) → is_off (placed p l) ≡ o → found_large (row_of l) ≡ b
        → refusal_of (table_from (placed p l) (n + 1) ls) ≡ decided (refused_from (placed p l) (n + 1) ls) (large_from (n + 1) ls)
        → refusal_of (table_from p n (l ∷ ls)) ≡ decided (refused_from p n (l ∷ ls)) (large_from n (l ∷ ls))
    go true b e k later =
        ap refusal_of (line_refused p n l ls Listing (refusal_is p l true b e k r.0))
        ∙ sym (off_first n (large_from n (l ∷ ls)) h (large_later n (l ∷ ls)))
        ∙ ap (λ (x : ℕ). decided x (large_from n (l ∷ ls))) (sym (form_off p n l ls e))
    go false true e k later =
        let w = form_later (placed p l) (n + 1) ls in
        ap refusal_of (line_refused p n l ls Large (refusal_is p l false true e k r.0))
        ∙ sym (large_first n (refused_from (placed p l) (n + 1) ls) h (λ z. (let s = w z in omega arith)))
        ∙ ap₂ decided (sym (form_on p n l ls e)) (sym (large_here p n l ls k))
    go false false e k later =
        ap refusal_of (line_told p n l ls (refusal_is p l false false e k r.0))
        ∙ later
        ∙ ap₂ decided (sym (form_on p n l ls e)) (sym (large_on p n l ls k))

-- ---- the rows before it

line_later : (p : Place) (n : ℕ) (ls : List Line) → 0 < line_in (table_from p n ls).refused → n ≤ line_in (table_from p n ls).refused
unfolding table_from
line_later Top n [] h = omega arith
line_later First n [] h = omega arith
line_later (After t) n [] h = omega arith
line_later Done n [] h = absurd (omega arith)
line_later Off n [] h = omega arith
line_later p n (l ∷ ls) h = go (refusal_at (placed p l) (row_of l)) h (line_later (placed p l) (n + 1) ls)
  where
    t : Table
    t = table_from (placed p l) (n + 1) ls

    go : (o : Option Refusal) → 0 < line_in (unless_refused o n (behind (found_text (row_of l)) t)).refused → (0 < line_in t.refused → n + 1 ≤ line_in t.refused)
        → n ≤ line_in (unless_refused o n (behind (found_text (row_of l)) t)).refused
    go None h later = let s = later h in omega arith
    go (Some r) h later = omega arith

found_text_lem : (f : Option Row) (rs : List Row) → rows_text (found_rows f ++ rs) ≡ found_text f ++ rows_text rs
found_text_lem None rs = refl
found_text_lem (Some r) rs = refl

none_before : (line n : ℕ) → [] ≡ rows_text (rows_of (lines_before line n []))
unfolding lines_before rows_of
none_before line n = refl

here_before : (n : ℕ) (l : Line) (ls : List Line) → [] ≡ rows_text (rows_of (lines_before n n (l ∷ ls)))
unfolding lines_before rows_of
here_before n l ls = rw (eq-eqb n n refl)

rows_cons : (l : Line) (ls : List Line) → rows_of (l ∷ ls) ≡ found_rows (row_of l) ++ rows_of ls
unfolding rows_of
rows_cons l ls = refl

no_rows_at_end : (p : Place) (n : ℕ) → (table_from p n []).rows ≡ []
unfolding table_from
no_rows_at_end Top n = refl
no_rows_at_end First n = refl
no_rows_at_end (After t) n = refl
no_rows_at_end Done n = refl
no_rows_at_end Off n = refl

rows_before : (p : Place) (n : ℕ) (ls : List Line) → 1 ≤ n → (table_from p n ls).rows ≡ rows_text (rows_of (lines_before (line_in (table_from p n ls).refused) n ls))
rows_before p n [] h = no_rows_at_end p n ∙ none_before (line_in (table_from p n []).refused) n
rows_before p n (l ∷ ls) h = go (refusal_at (placed p l) (row_of l)) refl (rows_before (placed p l) (n + 1) ls (omega arith))
  where
    go : (o : Option Refusal) → refusal_at (placed p l) (row_of l) ≡ o
        → (table_from (placed p l) (n + 1) ls).rows ≡ rows_text (rows_of (lines_before (line_in (table_from (placed p l) (n + 1) ls).refused) (n + 1) ls))
        → (table_from p n (l ∷ ls)).rows ≡ rows_text (rows_of (lines_before (line_in (table_from p n (l ∷ ls)).refused) n (l ∷ ls)))
    go None e later =
        let t = table_from (placed p l) (n + 1) ls in
        let at = line_in t.refused in
        let w = line_later (placed p l) (n + 1) ls in
        let rest = lines_before at (n + 1) ls in
        let k : lines_before at n (l ∷ ls) ≡ l ∷ rest = before_on p n l ls at (λ z. (let s = w (omega arith) in omega arith)) in
        rw (line_told p n l ls e, k)
        (ap (λ (x : List ℕ). found_text (row_of l) ++ x) later ∙ sym (found_text_lem (row_of l) (rows_of rest)) ∙ ap rows_text (sym (rows_cons l rest)))
    go (Some r) e later = rw (line_refused p n l ls r e) (here_before n l ls)

-- ---- of a text

module _ (text : List ℕ) where
  refusal_of_lem : refusal_of (table_of text) ≡ refusal_in text
  unfolding table_of form_refusal
  refusal_of_lem = first_decides Top 1 (kinds_of text) (omega arith) (all_in_range text)

  -- "what R-1 refuses is 13, a magnitude of 10^12 or more 17, each with its line; the first such line decides"
  pub told_first : told text ≡ refusal_text (refusal_in text).refused
  unfolding told
  told_first = ap (λ (t : Table). refusal_text t.refused) refusal_of_lem

  -- "and rows before it have been written"
  pub written_before : written text ≡ heading ++ rows_text (rows_of (lines_before (line_in (refusal_in text).refused) 1 (kinds_of text)))
  unfolding written table_of
  written_before =
      ap (λ (x : List ℕ). heading ++ x) (rows_before Top 1 (kinds_of text) (omega arith))
      ∙ ap (λ (n : ℕ). heading ++ rows_text (rows_of (lines_before n 1 (kinds_of text)))) (line_of refusal_of_lem)
    where
      line_of : refusal_of (table_of text) ≡ refusal_in text → line_in (table_of text).refused ≡ line_in (refusal_in text).refused
      line_of e = ap (λ (t : Table). line_in t.refused) e

all_before : (n : ℕ) (ls : List Line) → 1 ≤ n → lines_before 0 n ls ≡ ls
unfolding lines_before
all_before n [] h = refl
all_before n (l ∷ ls) h = rw (ne_eqb n 0 (λ e. omega arith)) (ap (λ (x : List Line). l ∷ x) (all_before (n + 1) ls (omega arith)))

-- "a row a state": of a text that neither refuses
pub row_a_state : (text : List ℕ) → form_refusal text ≡ 0 → first_large text ≡ 0 → (written text ≡ heading ++ rows_text (rows_in text)) × (told text ≡ [])
unfolding refusal_text
row_a_state text f g =
    let e : refusal_in text ≡ over = rw (f, g) in
    (written_before text ∙ rw (e, all_before 1 (kinds_of text) (omega arith)), told_first text ∙ rw e)
