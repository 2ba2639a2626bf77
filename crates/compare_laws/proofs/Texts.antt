-- What the program finds in a text, block by block, is what the definition of the report says about the text. Assumes nothing.
use Prim.Native.Nat.{ℕ, zero, suc, ◌+◌}
use mathlib.Core.Bool.{Bool, true, false}
use mathlib.Core.List.{List, [], ◌∷◌, ◌++◌, append_assoc, append-nil}
use mathlib.Core.Path.{◌≡◌, refl, sym, ap, subst, ◌∙◌}
use native.Mathlib.Nat.{zero-add, add-zero}
use native.Mathlib.Omega.{arith}
use borrow.Author.Tests.{lt-ltb, le-ltb, ltb-true, ltb-false, ne_eqb, eqb-true, eqb-false}
use lib.Dec.{ltb, eqb}
use lib.ListN.{length, drop, length-append}
use lib.Seq.{drop-append_seam}
use Rattle.base.specs.Choice.{if◌then◌otherwise◌}
use Rattle.listing_read.specs.declared.Judge.{Judge}
use Rattle.listing_read.specs.declared.Place.TheVariants.{Top}
use Rattle.listing_scan.specs.declared.Scan.TheVariants.{Start}
use Rattle.listing_read.specs.Form.{in_first, lines_of, refused_from, form_refusal, rows_of}
use Rattle.listing_read.specs.Bytes.{kinds_from, last_start, refusal_with, count_with, outcome_with, at_top, Goes, verdict_of}
use Rattle.listing_read.proofs.Lines.{kinds_start}
use Rattle.compare_report.specs.Report.{first_of, last_of, outcome_of, until_feed, same}
use Rattle.compare_laws.specs.Laws.{verdict_on}

-- ---- judged: what `verdict` answers after all blocks of a text

pub judged : (text : List ℕ) (j : Judge) → Goes at_top text j → verdict_of j [] ≡ verdict_on text
unfolding form_refusal
judged text j g =
    let r : refused_from Top 1 (kinds_from Start text) ≡ refusal_with j [] = ap (refusal_with at_top) (sym (append-nil text)) ∙ g.refusal [] in
    let n : 0 + length (rows_of (kinds_from Start text)) ≡ count_with j [] = ap (count_with at_top) (sym (append-nil text)) ∙ g.count [] in
    let o : last_start 0 0 0 text ≡ outcome_with j [] = ap (outcome_with at_top) (sym (append-nil text)) ∙ g.outcome [] in
    rw (← r, ← n, ← o, kinds_start text, zero-add)

-- ---- the first line

first_in : (b : ℕ) (ls : List (List ℕ)) → first_of (in_first b ls) ≡ b ∷ first_of ls
first_in b [] = refl
first_in b (l ∷ ls) = refl

pub first_line : (text : List ℕ) → first_of (lines_of text) ≡ until_feed text
unfolding lines_of until_feed
first_line [] = refl
first_line (b ∷ text) = go (eqb b 10) (first_line text)
  where
    go : (t : Bool) → first_of (lines_of text) ≡ until_feed text → first_of (if t then [] ∷ lines_of text otherwise in_first b (lines_of text)) ≡ (if t then [] otherwise b ∷ until_feed text)
    go true later = refl
    go false later = first_in b (lines_of text) ∙ ap (λ (l : List ℕ). b ∷ l) later

-- ---- the last line starts at last_start

-- the front of a line, and the lines after it
abbrev pub pre : List ℕ → List (List ℕ) → List (List ℕ)
pre [] ls = ls
pre (b ∷ cur) ls = in_first b (pre cur ls)

pre_last : (cur : List ℕ) (b : ℕ) (ls : List (List ℕ)) → pre (cur ++ (b ∷ [])) ls ≡ pre cur (in_first b ls)
pre_last [] b ls = refl
pre_last (c ∷ cur) b ls = ap (in_first c) (pre_last cur b ls)

pre_line : (cur l : List ℕ) (ls : List (List ℕ)) → pre cur (l ∷ ls) ≡ (cur ++ l) ∷ ls
pre_line [] l ls = refl
pre_line (c ∷ cur) l ls = ap (in_first c) (pre_line cur l ls)

pre_end : (c : ℕ) (cur : List ℕ) → pre (c ∷ cur) [] ≡ (c ∷ cur) ∷ []
pre_end c [] = refl
pre_end c (d ∷ cur) = ap (in_first c) (pre_end d cur)

-- a part of a line has no line feed
pub record Plain (cur : List ℕ) : Type 0 where
  pub lines : (rest : List ℕ) → lines_of (cur ++ rest) ≡ pre cur (lines_of rest)
  pub until : (rest : List ℕ) → until_feed (cur ++ rest) ≡ cur ++ until_feed rest

pub plain_none : Plain []
plain_none = record { lines = λ rest. refl; until = λ rest. refl }

plain_byte : (b : ℕ) (rest : List ℕ) → (b ≡ 10 → ⊥) → (lines_of (b ∷ rest) ≡ in_first b (lines_of rest)) × (until_feed (b ∷ rest) ≡ b ∷ until_feed rest)
unfolding lines_of until_feed
plain_byte b rest n = (rw (ne_eqb b 10 n), rw (ne_eqb b 10 n))

pub plain_on : (cur : List ℕ) (b : ℕ) → Plain cur → (b ≡ 10 → ⊥) → Plain (cur ++ (b ∷ []))
plain_on cur b p n =
    record {
      lines = λ rest. ap lines_of (append_assoc cur (b ∷ []) rest) ∙ p.lines (b ∷ rest) ∙ ap (pre cur) (plain_byte b rest n).0 ∙ sym (pre_last cur b (lines_of rest));
      until = λ rest. ap until_feed (append_assoc cur (b ∷ []) rest) ∙ p.until (b ∷ rest) ∙ ap (λ (l : List ℕ). cur ++ l) (plain_byte b rest n).1 ∙ sym (append_assoc cur (b ∷ []) (until_feed rest));
    }

pre_append : (a b : List ℕ) (ls : List (List ℕ)) → pre (a ++ b) ls ≡ pre a (pre b ls)
pre_append [] b ls = refl
pre_append (x ∷ a) b ls = ap (in_first x) (pre_append a b ls)

pub plain_append : (a b : List ℕ) → Plain a → Plain b → Plain (a ++ b)
plain_append a b p q =
    record {
      lines = λ rest. ap lines_of (append_assoc a b rest) ∙ p.lines (b ++ rest) ∙ ap (pre a) (q.lines rest) ∙ sym (pre_append a b (lines_of rest));
      until = λ rest. ap until_feed (append_assoc a b rest) ∙ p.until (b ++ rest) ∙ ap (λ (l : List ℕ). a ++ l) (q.until rest) ∙ sym (append_assoc a b (until_feed rest));
    }

pub feed_lines : (cur rest : List ℕ) → Plain cur → lines_of (cur ++ (10 ∷ rest)) ≡ cur ∷ lines_of rest
unfolding lines_of
feed_lines cur rest p = p.lines (10 ∷ rest) ∙ pre_line cur [] (lines_of rest) ∙ ap (λ (l : List ℕ). l ∷ lines_of rest) (append-nil cur)

feed_until : (cur rest : List ℕ) → Plain cur → until_feed (cur ++ (10 ∷ rest)) ≡ cur
unfolding until_feed
feed_until cur rest p = p.until (10 ∷ rest) ∙ append-nil cur

-- the last of some lines, or another line if there are none
abbrev last_or : List ℕ → List (List ℕ) → List ℕ
last_or d [] = d
last_or d (l ∷ ls) = last_of (l ∷ ls)

last_or_lem : (d l : List ℕ) (ls : List (List ℕ)) → last_or d (l ∷ ls) ≡ last_or l ls
unfolding last_of
last_or_lem d l [] = refl
last_or_lem d l (m ∷ ls) = refl

-- the line that starts at a place
abbrev pub line_at : ℕ → List ℕ → List ℕ
line_at start text = until_feed (drop start text)

abbrev Last : ℕ → List ℕ → List ℕ → List ℕ → Type 0
Last last before cur rest =
    line_at (last_start last (length before) (length before + length cur) rest) (before ++ (cur ++ rest)) ≡ last_or (line_at last (before ++ (cur ++ rest))) (lines_of (cur ++ rest))

last_end : (last : ℕ) (before cur : List ℕ) → Plain cur → Last last before cur []
unfolding last_start lines_of until_feed last_of
last_end last before [] p = rw (le-ltb (length before) (length before + 0) (omega arith))
last_end last before (c ∷ cur) p =
    rw (lt-ltb (length before) (length before + length (c ∷ cur)) (omega arith), drop-append_seam before ((c ∷ cur) ++ []), p.lines [], pre_end c cur) (p.until [] ∙ append-nil (c ∷ cur))

last_feed : (last : ℕ) (before cur rest : List ℕ) → Plain cur → Last (length before) (before ++ (cur ++ (10 ∷ []))) [] rest → Last last before cur (10 ∷ rest)
unfolding last_start
last_feed last before cur rest p later =
    let all : before ++ (cur ++ (10 ∷ [])) ++ rest ≡ before ++ (cur ++ (10 ∷ rest)) =
    append_assoc before (cur ++ (10 ∷ [])) rest ∙ ap (λ (l : List ℕ). before ++ l) (append_assoc cur (10 ∷ []) rest) in
    let size : length (before ++ (cur ++ (10 ∷ []))) ≡ length before + length cur + 1 = omega (arith, length-append before (cur ++ (10 ∷ [])), length-append cur (10 ∷ [])) in
    let moved = rw (add-zero, size, all, drop-append_seam before (cur ++ (10 ∷ rest)), feed_until cur rest p) at later in
    let d = line_at last (before ++ (cur ++ (10 ∷ rest))) in
    moved ∙ sym (last_or_lem d cur (lines_of rest)) ∙ ap (last_or d) (sym (feed_lines cur rest p))

last_byte : (last : ℕ) (before cur rest : List ℕ) (b : ℕ) → (b ≡ 10 → ⊥) → Last last before (cur ++ (b ∷ [])) rest → Last last before cur (b ∷ rest)
unfolding last_start
last_byte last before cur rest b n later =
    let size : length before + length (cur ++ (b ∷ [])) ≡ length before + length cur + 1 = omega (arith, length-append cur (b ∷ [])) in
    rw (ne_eqb b 10 n) (rw (size, append_assoc cur (b ∷ []) rest) at later)

last_from : (rest : List ℕ) (last : ℕ) (before cur : List ℕ) → Plain cur → Last last before cur rest
last_from [] last before cur p = last_end last before cur p
last_from (b ∷ rest) last before cur p = go (eqb b 10) refl (last_from rest)
  where
    go : (t : Bool) → eqb b 10 ≡ t → ((last : ℕ) (before cur : List ℕ) → Plain cur → Last last before cur rest) → Last last before cur (b ∷ rest)
    go true e later = subst (λ (k : ℕ). Last last before cur (k ∷ rest)) (sym (eqb-true b 10 e)) (last_feed last before cur rest p (later (length before) (before ++ (cur ++ (10 ∷ []))) [] plain_none))
    go false e later = last_byte last before cur rest b (eqb-false b 10 e) (later last before (cur ++ (b ∷ [])) (plain_on cur b p (eqb-false b 10 e)))

pub some_line : (b : ℕ) (ls : List (List ℕ)) → in_first b ls ≡ [] → ⊥
some_line b [] e = let z : ◌≡◌ {A = ℕ} 0 1 = cc in absurd (omega arith)
some_line b (l ∷ ls) e = let z : ◌≡◌ {A = ℕ} 0 1 = cc in absurd (omega arith)

-- a text without lines has no byte
no_line : (text : List ℕ) (ls : List (List ℕ)) → lines_of text ≡ ls → last_or (until_feed text) ls ≡ last_of ls
unfolding lines_of until_feed last_of
no_line [] [] e = refl
no_line (b ∷ text) [] e = absurd (go (eqb b 10) e)
  where
    go : (t : Bool) → (if t then [] ∷ lines_of text otherwise in_first b (lines_of text)) ≡ [] → ⊥
    go true e = let z : ◌≡◌ {A = ℕ} 0 1 = cc in absurd (omega arith)
    go false e = some_line b (lines_of text) e
no_line text (l ∷ ls) e = refl

-- "Header and outcome lines .. are compared whole": the outcome is the line that starts at last_start
pub last_line : (text : List ℕ) → outcome_of text ≡ line_at (last_start 0 0 0 text) text
unfolding outcome_of
last_line text = sym (last_from text 0 [] [] plain_none ∙ no_line text (lines_of text) refl)

-- ---- lines in blocks

-- "any length": the bytes before a line feed in a block; if it has none, also those of the next blocks
pub until_cut : (a b : List ℕ) → until_feed (a ++ b) ≡ (if ltb (length (until_feed a)) (length a) then until_feed a otherwise a ++ until_feed b)
unfolding until_feed
until_cut [] b = refl
until_cut (x ∷ a) b = go (eqb x 10) (until_cut a b)
  where
    shift : (t : Bool) → ltb (length (until_feed a)) (length a) ≡ t → until_feed (a ++ b) ≡ (if t then until_feed a otherwise a ++ until_feed b)
        → x ∷ until_feed (a ++ b) ≡ (if ltb (suc (length (until_feed a))) (suc (length a)) then x ∷ until_feed a otherwise x ∷ (a ++ until_feed b))
    shift true e later = rw (lt-ltb (suc (length (until_feed a))) (suc (length a)) (omega (arith, ltb-true (length (until_feed a)) (length a) e))) (ap (λ (l : List ℕ). x ∷ l) later)
    shift false e later = rw (le-ltb (suc (length (until_feed a))) (suc (length a)) (omega (arith, ltb-false (length (until_feed a)) (length a) e))) (ap (λ (l : List ℕ). x ∷ l) later)

    go : (t : Bool) → until_feed (a ++ b) ≡ (if ltb (length (until_feed a)) (length a) then until_feed a otherwise a ++ until_feed b)
        → (if t then [] otherwise x ∷ until_feed (a ++ b)) ≡ (if ltb (length (if t then [] otherwise x ∷ until_feed a)) (suc (length a)) then (if t then [] otherwise x ∷ until_feed a) otherwise x ∷ (a ++ until_feed b))
    go true later = rw (lt-ltb 0 (suc (length a)) (omega arith))
    go false later = shift (ltb (length (until_feed a)) (length a)) refl later

-- lines of one length are the same if each of their blocks is
pub same_cut : (a b c d : List ℕ) → length a ≡ length b → same (a ++ c) (b ++ d) ≡ (if same a b then same c d otherwise false)
unfolding same
same_cut [] [] c d e = refl
same_cut [] (y ∷ b) c d e = absurd (omega arith)
same_cut (x ∷ a) [] c d e = absurd (omega arith)
same_cut (x ∷ a) (y ∷ b) c d e = go (eqb x y) (same_cut a b c d (omega arith))
  where
    go : (t : Bool) → same (a ++ c) (b ++ d) ≡ (if same a b then same c d otherwise false)
        → (if t then same (a ++ c) (b ++ d) otherwise false) ≡ (if (if t then same a b otherwise false) then same c d otherwise false)
    go true later = later
    go false later = refl
