-- A listing's lines are those of its header, its states and its outcome. Assumes nothing.
use Prim.Native.Nat.{ℕ, ◌+◌, ◌≤◌}
use mathlib.Core.Bool.{Bool, true, false}
use mathlib.Core.List.{List, [], ◌∷◌, ◌++◌, map}
use mathlib.Core.Path.{◌≡◌, refl, sym, ap, subst, ◌∙◌}
use native.Mathlib.Omega.{arith}
use borrow.Author.Tests.{ne_eqb}
use lib.Dec.{ltb}
use lib.ListN.{length}
use Rattle.listing_scan.specs.declared.Row.{Row}
use Rattle.listing_scan.specs.declared.Line.{Line}
use Rattle.listing_scan.specs.declared.Line.TheVariants as line
use Rattle.listing_read.specs.declared.Place.TheVariants.{Top, First, After, Done}
use Rattle.listing_scan.specs.Line.{row_text}
use Rattle.listing_scan.specs.Reading.{kind_of}
use Rattle.listing_read.specs.Form.{lines_of, kinds_of, found_rows, row_of, refused_from, form_refusal, rows_of, rows_in}
use Rattle.listing_laws.proofs.OnlyIf.{one_text}
use Rattle.compare_report.specs.Report.{first_of, last_of, header_of, outcome_of}
use Rattle.compare_laws.specs.Same.{listing_lines}

none_behind : (ls : List (List ℕ)) (n : ℕ) → 1 ≤ n → refused_from Done n (map kind_of ls) ≡ 0 → ls ≡ []
unfolding refused_from
none_behind [] n some e = refl
none_behind (l ∷ ls) n some e = absurd (omega arith)

last_on : (l : List ℕ) (ls : List (List ℕ)) (t n : ℕ) → 1 ≤ n → refused_from (After t) n (map kind_of ls) ≡ 0 → last_of (l ∷ ls) ≡ last_of ls
unfolding refused_from last_of
last_on l [] t n some e = absurd (omega arith)
last_on l (m ∷ ls) t n some e = refl

-- the lines behind a state: those of its states, and the last
abbrev Rest : List (List ℕ) → Type 0
Rest ls = ls ≡ map row_text (rows_of (map kind_of ls)) ++ (last_of ls ∷ [])

state_first : (l : List ℕ) (r : Row) (ls : List (List ℕ)) (t n : ℕ) → kind_of l ≡ line.State r → 1 ≤ n → refused_from (After t) n (map kind_of ls) ≡ 0 → Rest ls
    → l ∷ ls ≡ row_text r ∷ (map row_text (rows_of (map kind_of ls)) ++ (last_of (l ∷ ls) ∷ []))
state_first l r ls t n q some e later =
    ap (λ (k : List ℕ). k ∷ ls) (one_text l r q)
    ∙ ap (λ (ms : List (List ℕ)). row_text r ∷ ms) (later ∙ ap (λ (o : List ℕ). map row_text (rows_of (map kind_of ls)) ++ (o ∷ [])) (sym (last_on l ls t n some e)))

outcome_last : (l : List ℕ) (ls : List (List ℕ)) → ls ≡ [] → l ∷ ls ≡ map row_text (rows_of (map kind_of ls)) ++ (last_of (l ∷ ls) ∷ [])
unfolding rows_of last_of
outcome_last l ls e = subst (λ (ms : List (List ℕ)). l ∷ ms ≡ map row_text (rows_of (map kind_of ms)) ++ (last_of (l ∷ ms) ∷ [])) (sym e) refl

after_lines : (ls : List (List ℕ)) (t n : ℕ) → 1 ≤ n → refused_from (After t) n (map kind_of ls) ≡ 0 → Rest ls
unfolding refused_from rows_of
after_lines [] t n some e = absurd (omega arith)
after_lines (l ∷ ls) t n some e = go (kind_of l) refl e (after_lines ls)
  where
    on : (r : Row) (x : Bool) → kind_of l ≡ line.State r → ltb t r.moment ≡ x → refused_from (After t) n (line.State r ∷ map kind_of ls) ≡ 0
        → ((t n : ℕ) → 1 ≤ n → refused_from (After t) n (map kind_of ls) ≡ 0 → Rest ls)
        → l ∷ ls ≡ row_text r ∷ (map row_text (rows_of (map kind_of ls)) ++ (last_of (l ∷ ls) ∷ []))
    on r true k q e later =
        let f : refused_from (After r.moment) (n + 1) (map kind_of ls) ≡ 0 = rw q at e in
        state_first l r ls r.moment (n + 1) k (omega arith) f (later r.moment (n + 1) (omega arith) f)
    on r false k q e later = let z : n ≡ 0 = rw q at e in absurd (omega arith)

    go : (k : Line) → kind_of l ≡ k → refused_from (After t) n (k ∷ map kind_of ls) ≡ 0
        → ((t n : ℕ) → 1 ≤ n → refused_from (After t) n (map kind_of ls) ≡ 0 → Rest ls)
        → l ∷ ls ≡ map row_text (found_rows (row_of k) ++ rows_of (map kind_of ls)) ++ (last_of (l ∷ ls) ∷ [])
    go (line.State r) k e later = on r (ltb t r.moment) k refl e later
    go line.Outcome k e later = outcome_last l ls (none_behind ls (n + 1) (omega arith) e)
    go line.Header k e later = absurd (omega arith)
    go line.Lone k e later = absurd (omega arith)
    go line.Bad k e later = absurd (omega arith)

-- behind the header
first_lines : (h : List ℕ) (ls : List (List ℕ)) (n : ℕ) → 1 ≤ n → refused_from First n (map kind_of ls) ≡ 0 → h ∷ ls ≡ listing_lines h (rows_of (map kind_of ls)) (last_of (h ∷ ls))
unfolding refused_from rows_of last_of
first_lines h [] n some e = absurd (omega arith)
first_lines h (l ∷ ls) n some e = go (kind_of l) refl e
  where
    go : (k : Line) → kind_of l ≡ k → refused_from First n (k ∷ map kind_of ls) ≡ 0 → h ∷ l ∷ ls ≡ listing_lines h (found_rows (row_of k) ++ rows_of (map kind_of ls)) (last_of (l ∷ ls))
    go (line.State r) k e =
        ap (λ (ms : List (List ℕ)). h ∷ ms) (state_first l r ls r.moment (n + 1) k (omega arith) e (after_lines ls r.moment (n + 1) (omega arith) e))
    go line.Outcome k e = absurd (omega arith)
    go line.Header k e = absurd (omega arith)
    go line.Lone k e = absurd (omega arith)
    go line.Bad k e = absurd (omega arith)

top_lines : (ls : List (List ℕ)) → refused_from Top 1 (map kind_of ls) ≡ 0 → ls ≡ listing_lines (first_of ls) (rows_of (map kind_of ls)) (last_of ls)
unfolding refused_from rows_of last_of
top_lines [] e = absurd (omega arith)
top_lines (l ∷ ls) e = go (kind_of l) e
  where
    lone : (ms : List (List ℕ)) → ms ≡ [] → l ∷ ms ≡ listing_lines l (rows_of (map kind_of ms)) (last_of (l ∷ ms))
    lone ms d = subst (λ (ms : List (List ℕ)). l ∷ ms ≡ listing_lines l (rows_of (map kind_of ms)) (last_of (l ∷ ms))) (sym d) refl

    go : (k : Line) → refused_from Top 1 (k ∷ map kind_of ls) ≡ 0 → l ∷ ls ≡ listing_lines l (found_rows (row_of k) ++ rows_of (map kind_of ls)) (last_of (l ∷ ls))
    go line.Header e = first_lines l ls 2 (omega arith) e
    go line.Lone e = lone ls (none_behind ls 2 (omega arith) e)
    go (line.State r) e = absurd (omega arith)
    go line.Outcome e = absurd (omega arith)
    go line.Bad e = absurd (omega arith)

header_there : (a : List ℕ) (rs : List Row) (o : List ℕ) → listing_lines (first_of (lines_of a)) rs o ≡ listing_lines (header_of (length rs) a) rs o
unfolding header_of
header_there a [] o = refl
header_there a (r ∷ rs) o = rw (ne_eqb (length (r ∷ rs)) 0 (λ e. omega arith))

-- a listing has the line of its header, a line for each state, and the line of its outcome
pub lines_of_listing : (a : List ℕ) → form_refusal a ≡ 0 → lines_of a ≡ listing_lines (header_of (length (rows_in a)) a) (rows_in a) (outcome_of a)
unfolding form_refusal kinds_of outcome_of
lines_of_listing a e = top_lines (lines_of a) e ∙ header_there a (rows_in a) (last_of (lines_of a))
