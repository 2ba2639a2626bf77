-- "Equal listings give one line, SAME and the number of states" (document 02, R-1). Two texts of the form with the same lines do. No other
-- two texts do. Assumes nothing.
use Prim.Native.Nat.{ℕ}
use mathlib.Core.Bool.{Bool, true, false}
use mathlib.Core.List.{List, [], ◌∷◌, ◌++◌, map, append_cancel_left, append_cancel_right, append-eq-nil_iff}
use mathlib.Core.Path.{◌≡◌, refl, sym, ap, ap₂, subst, ◌∙◌}
use native.Mathlib.Omega.{arith}
use borrow.Author.Tests.{le-ltb, eq-eqb, eqb-true, ltb-false}
use lib.Dec.{ltb, eqb}
use lib.ListN.{length, get_or}
use Rattle.base.specs.Choice.{if◌then◌otherwise◌}
use Rattle.base.proofs.Bools.{clash}
use Rattle.text_write.specs.Numerals.{decimal_of}
use Rattle.text_write.proofs.Back.{Spells, decimal_spells}
use Rattle.listing_words.specs.Words.{line_feed, same_word, header_word, outcome_word, refused13, bar}
use Rattle.listing_scan.specs.declared.Row.{Row}
use Rattle.listing_scan.specs.Reading.{kind_of}
use Rattle.listing_read.specs.Form.{lines_of, kinds_of, rows_of, rows_in, form_refusal}
use Rattle.compare_steps.specs.Steps.{steps}
use Rattle.compare_report.specs.declared.Component.{Component}
use Rattle.compare_report.specs.declared.Component.TheVariants.{X, Y, Z, VX, VY, VZ}
use Rattle.compare_report.specs.declared.Part.TheVariants.{Header, End}
use Rattle.compare_report.specs.Report.{Difference, only, differs, component, at_one, parted, two_numbers, diff_line, text_of, last_of, header_of, outcome_of, same}
use Rattle.compare_report.specs.Report.{lines_text, header_text, states_text, outcome_text, some, any_difference, part_text, same_line, first_refusal, from_part, report}
use Rattle.compare_laws.specs.Runs.{Run}
use Rattle.compare_laws.specs.Same.{EqualListings, SameOnlyIf, PrintsSameOnlyIf}
use Rattle.compare_laws.proofs.Whole.{parts}
use Rattle.compare_laws.proofs.Runs.{all_printed}
use Rattle.compare_laws.proofs.Spelling.{lines_of_listing}

same_self : (a : List ℕ) → same a a ≡ true
unfolding same
same_self [] = refl
same_self (x ∷ a) = rw (eq-eqb x x refl) (same_self a)

no_lines : (word a b : List ℕ) → a ≡ b → lines_text word a b ≡ []
unfolding lines_text
no_lines word a b e = rw (e, same_self b)

none_at : (t : ℕ) (k : Component) (a : ℕ) → component t k a a ≡ []
none_at t k a = rw (eq-eqb a a refl)

none_at_one : (r : Row) → at_one r r ≡ []
unfolding at_one
none_at_one r = rw (eq-eqb r.x r.x refl, eq-eqb r.y r.y refl, eq-eqb r.z r.z refl, eq-eqb r.vx r.vx refl, eq-eqb r.vy r.vy refl, eq-eqb r.vz r.vz refl)

none_parted : (rs : List Row) → parted rs rs ≡ []
unfolding parted
none_parted [] = refl
none_parted (r ∷ rs) = rw (le-ltb r.moment r.moment (omega arith), none_at_one r) (none_parted rs)

no_text : text_of [] ≡ []
unfolding text_of
no_text = refl

module _ (a b : List ℕ) (e : lines_of a ≡ lines_of b) where
  same_rows : rows_in a ≡ rows_in b
  unfolding kinds_of
  same_rows = ap (λ (ls : List (List ℕ)). rows_of (map kind_of ls)) e

  no_header : header_text a b ≡ []
  unfolding header_text header_of
  no_header = no_lines header_word (header_of (length (rows_in a)) a) (header_of (length (rows_in b)) b) (rw (same_rows, e))

  no_states : states_text a b ≡ []
  unfolding states_text
  no_states = rw (same_rows, none_parted (rows_in b)) no_text

  no_outcome : outcome_text a b ≡ []
  unfolding outcome_text outcome_of
  no_outcome = no_lines outcome_word (last_of (lines_of a)) (last_of (lines_of b)) (rw e)

  -- both pass and have the same lines: the one line SAME n
  pub same_lines : form_refusal a ≡ 0 → form_refusal b ≡ 0 → report a b ≡ same_line (length (rows_in a))
  unfolding any_difference
  same_lines h g = parts a b h g ∙ rw (no_header, no_states, no_outcome)

-- ---- back: which texts give the line

is_same : (a b : List ℕ) → same a b ≡ true → a ≡ b
unfolding same
is_same [] [] e = refl
is_same (x ∷ a) [] e = absurd (clash e refl)
is_same [] (y ∷ b) e = absurd (clash e refl)
is_same (x ∷ a) (y ∷ b) e = go (eqb x y) refl e (is_same a b)
  where
    go : (t : Bool) → eqb x y ≡ t → (if t then same a b otherwise false) ≡ true → (same a b ≡ true → a ≡ b) → x ∷ a ≡ y ∷ b
    go true q e later = ap₂ (λ (z : ℕ) (l : List ℕ). z ∷ l) (eqb-true x y q) (later e)
    go false q e later = absurd (clash e refl)

-- a report's first byte, which is S (83) for SAME and for no other word
abbrev first : List ℕ → ℕ
first text = get_or text 0 0

module _ (rest : List ℕ) where
  lines_alike : (w : ℕ) (word a b : List ℕ) → (w ≡ 83 → ⊥) → first (lines_text (w ∷ word) a b ++ rest) ≡ 83 → a ≡ b
  unfolding lines_text
  lines_alike w word a b other e = go (same a b) refl e
    where
      go : (t : Bool) → same a b ≡ t → first ((if t then [] otherwise (w ∷ word) ++ a ++ bar ++ b ++ line_feed) ++ rest) ≡ 83 → a ≡ b
      go true q e = is_same a b q
      go false q e = absurd (other e)

  no_difference : (ds : List Difference) → first (text_of ds ++ rest) ≡ 83 → ds ≡ []
  unfolding text_of two_numbers diff_line
  no_difference [] e = refl
  no_difference (only k t ∷ ds) e = absurd (omega arith)
  no_difference (differs t k n ∷ ds) e = absurd (omega arith)

bits_alike : (t : ℕ) (k : Component) (a b : ℕ) → component t k a b ≡ [] → a ≡ b
bits_alike t k a b e = go (eqb a b) refl e
  where
    go : (x : Bool) → eqb a b ≡ x → (if x then [] otherwise differs t k (steps a b) ∷ []) ≡ [] → a ≡ b
    go true q e = eqb-true a b q
    go false q e = let z : ◌≡◌ {A = ℕ} 0 1 = cc in absurd (omega arith)

one_row : (r s : Row) → r.moment ≡ s.moment → r.x ≡ s.x → r.y ≡ s.y → r.z ≡ s.z → r.vx ≡ s.vx → r.vy ≡ s.vy → r.vz ≡ s.vz → r ≡ s
one_row r s m x y z vx vy vz = λ i. record { moment = m i; x = x i; y = y i; z = z i; vx = vx i; vy = vy i; vz = vz i }

state_alike : (r s : Row) → r.moment ≡ s.moment → at_one r s ≡ [] → r ≡ s
unfolding at_one
state_alike r s m e =
    let t = r.moment in
    let vz = append-eq-nil_iff.0 e in
    let vy = append-eq-nil_iff.0 vz.0 in
    let vx = append-eq-nil_iff.0 vy.0 in
    let z = append-eq-nil_iff.0 vx.0 in
    let y = append-eq-nil_iff.0 z.0 in
    one_row r s m (bits_alike t X r.x s.x y.0) (bits_alike t Y r.y s.y y.1) (bits_alike t Z r.z s.z z.1)
    (bits_alike t VX r.vx s.vx vx.1) (bits_alike t VY r.vy s.vy vy.1) (bits_alike t VZ r.vz s.vz vz.1)

states_alike : (rs ss : List Row) → parted rs ss ≡ [] → rs ≡ ss
unfolding parted
states_alike [] [] e = refl
states_alike (r ∷ rs) [] e = let z : ◌≡◌ {A = ℕ} 0 1 = cc in absurd (omega arith)
states_alike [] (s ∷ ss) e = let z : ◌≡◌ {A = ℕ} 0 1 = cc in absurd (omega arith)
states_alike (r ∷ rs) (s ∷ ss) e = go (ltb r.moment s.moment) (ltb s.moment r.moment) refl refl e (states_alike rs ss)
  where
    go : (x y : Bool) → ltb r.moment s.moment ≡ x → ltb s.moment r.moment ≡ y
        → (if x then only 1 r.moment ∷ parted rs (s ∷ ss) otherwise if y then only 2 s.moment ∷ parted (r ∷ rs) ss otherwise at_one r s ++ parted rs ss) ≡ []
        → (parted rs ss ≡ [] → rs ≡ ss) → r ∷ rs ≡ s ∷ ss
    go true y p q e later = let z : ◌≡◌ {A = ℕ} 0 1 = cc in absurd (omega arith)
    go false true p q e later = let z : ◌≡◌ {A = ℕ} 0 1 = cc in absurd (omega arith)
    go false false p q e later =
        let m : r.moment ≡ s.moment = omega (arith, ltb-false r.moment s.moment p, ltb-false s.moment r.moment q) in
        let both = append-eq-nil_iff.0 e in
        ap₂ (λ (k : Row) (l : List Row). k ∷ l) (state_alike r s m both.0) (later both.1)

-- the number of SAME n
same_first : (n : ℕ) → first (same_line n) ≡ 83
unfolding same_line
same_first n = refl

same_number : (m n : ℕ) → same_line m ≡ same_line n → m ≡ n
unfolding same_line
same_number m n e =
    let digits : decimal_of m ≡ decimal_of n = append_cancel_left same_word (decimal_of m) (decimal_of n) (append_cancel_right (same_word ++ decimal_of m) (same_word ++ decimal_of n) line_feed e) in
    sym (decimal_spells m m (omega arith)).value ∙ (subst (λ (l : List ℕ). Spells 10 l n) (sym digits) (decimal_spells n n (omega arith))).value

module _ (a b : List ℕ) (n : ℕ) where
  both_pass : report a b ≡ same_line n → (form_refusal a ≡ 0) × (form_refusal b ≡ 0)
  unfolding report first_refusal two_numbers
  both_pass e = go (ltb 0 (form_refusal a)) (ltb 0 (form_refusal b)) refl refl (ap first e ∙ same_first n)
    where
      refused : Bool → Bool → List ℕ
      refused x y = if x then two_numbers refused13 1 (form_refusal a) otherwise if y then two_numbers refused13 2 (form_refusal b) otherwise []

      go : (x y : Bool) → ltb 0 (form_refusal a) ≡ x → ltb 0 (form_refusal b) ≡ y → first (if some (refused x y) then refused x y otherwise from_part Header a b) ≡ 83
          → (form_refusal a ≡ 0) × (form_refusal b ≡ 0)
      go true y p q e = absurd (omega arith)
      go false true p q e = absurd (omega arith)
      go false false p q e = (omega (arith, ltb-false 0 (form_refusal a) p), omega (arith, ltb-false 0 (form_refusal b) q))

  -- SAME n: nothing else is reported
  nothing_else : form_refusal a ≡ 0 → form_refusal b ≡ 0 → report a b ≡ same_line n → lines_of a ≡ lines_of b
  unfolding header_text states_text outcome_text
  nothing_else h g e =
      let whole : first (header_text a b ++ (states_text a b ++ (outcome_text a b ++ part_text End a b))) ≡ 83 = ap first (sym (parts a b h g) ∙ e) ∙ same_first n in
      let headers = lines_alike _ 72 _ _ _ (λ q. omega arith) whole in
      let behind : first (states_text a b ++ (outcome_text a b ++ part_text End a b)) ≡ 83 = rw (no_lines header_word _ _ headers) at whole in
      let rows : rows_in a ≡ rows_in b = states_alike (rows_in a) (rows_in b) (no_difference _ _ behind) in
      let last : first (outcome_text a b ++ part_text End a b) ≡ 83 = rw (no_difference _ _ behind, no_text) at behind in
      let outcomes : outcome_of a ≡ outcome_of b = lines_alike _ 79 _ _ _ (λ q. omega arith) last in
      lines_of_listing a h ∙ rw (headers, rows, outcomes) (sym (lines_of_listing b g))

  -- the report is the one line SAME n if and only if both are listings with the same lines and have n states
  pub same_only_if : SameOnlyIf a b n
  same_only_if = (only_if, back)
    where
      only_if : report a b ≡ same_line n → EqualListings a b n
      only_if e =
          let pass = both_pass e in
          let equal = nothing_else pass.0 pass.1 e in
          record {
            first_passes = pass.0;
            second_passes = pass.1;
            lines = equal;
            states = same_number (length (rows_in a)) n (sym (same_lines a b equal pass.0 pass.1) ∙ e);
          }

      back : EqualListings a b n → report a b ≡ same_line n
      back q = same_lines a b q.lines q.first_passes q.second_passes ∙ ap same_line q.states

-- what a whole run prints is that line for the same texts
pub prints_same_only_if : (a b : List ℕ) (run : Run a b) (n : ℕ) → PrintsSameOnlyIf run n
prints_same_only_if a b run n = (λ e. (same_only_if a b n).0 (sym (all_printed a b run) ∙ e), λ q. all_printed a b run ∙ (same_only_if a b n).1 q)
