-- Any run of turns on two lines prints the report on them. Assumes nothing.
use Prim.Native.Nat.{ℕ, ◌+◌, ◌<◌, ◌≤◌}
use mathlib.Core.Bool.{Bool, true, false}
use mathlib.Core.List.{List, [], ◌∷◌, ◌++◌, append_assoc, append-nil}
use mathlib.Core.Path.{◌≡◌, refl, sym, ap, ◌∙◌}
use native.Mathlib.Nat.{sub-zero}
use native.Mathlib.Omega.{arith}
use borrow.Author.Tests.{ltb-true, ltb-false, eqb-true}
use lib.Dec.{ltb, eqb}
use lib.ListN.{length, drop}
use lib.Seq.{drop-drop, drop-append_seam, take_all}
use Rattle.base.specs.Choice.{if◌then◌otherwise◌}
use Rattle.listing_words.specs.Words.{line_feed, bar}
use Rattle.compare_report.specs.declared.Part.{Part}
use Rattle.compare_report.specs.Report.{until_feed, same, lines_text}
use Rattle.compare_lines.specs.declared.Stage.{Stage}
use Rattle.compare_lines.specs.declared.Stage.TheVariants.{Comparing, First, Second, Over}
use Rattle.compare_lines.specs.declared.Likeness.{Likeness}
use Rattle.compare_lines.specs.declared.Likeness.TheVariants.{Same, Differ, SoFar}
use Rattle.compare_lines.specs.Stages.{word_of, line_ends, likeness, line_text, after_likeness, likeness_text, stage_after, turn_text}
use Rattle.compare_lines.specs.Runs.{Reads, LineTurn, Wanted, Turns, turns_text}
use Rattle.compare_lines.proofs.Likes.{by_bool, take_line, Says, says}

-- ---- a line's front in a block, and the rest of it

until_front : (a b : List ℕ) → length (until_feed a) < length a → until_feed (a ++ b) ≡ until_feed a
unfolding until_feed
until_front [] b h = absurd (omega arith)
until_front (x ∷ a) b h = go (eqb x 10) refl (until_front a b)
  where
    go : (t : Bool) → eqb x 10 ≡ t → (length (until_feed a) < length a → until_feed (a ++ b) ≡ until_feed a)
        → (if t then [] otherwise x ∷ until_feed (a ++ b)) ≡ (if t then [] otherwise x ∷ until_feed a)
    go true e later = refl
    go false e later =
        let k : length (if eqb x 10 then [] otherwise x ∷ until_feed a) ≡ length (x ∷ until_feed a) = rw e in
        ap (λ (l : List ℕ). x ∷ l) (later (omega (arith, h, k)))

until_all : (a b : List ℕ) → length a ≤ length (until_feed a) → until_feed (a ++ b) ≡ a ++ until_feed b
unfolding until_feed
until_all [] b h = refl
until_all (x ∷ a) b h = go (eqb x 10) refl (until_all a b)
  where
    go : (t : Bool) → eqb x 10 ≡ t → (length a ≤ length (until_feed a) → until_feed (a ++ b) ≡ a ++ until_feed b)
        → (if t then [] otherwise x ∷ until_feed (a ++ b)) ≡ x ∷ (a ++ until_feed b)
    go true e later = let k : length (if eqb x 10 then [] otherwise x ∷ until_feed a) ≡ 0 = rw e in absurd (omega (arith, h, k))
    go false e later =
        let k : length (if eqb x 10 then [] otherwise x ∷ until_feed a) ≡ length (x ∷ until_feed a) = rw e in
        ap (λ (l : List ℕ). x ∷ l) (later (omega (arith, h, k)))

empty : (a : List ℕ) → length a ≡ 0 → a ≡ []
empty [] h = refl
empty (x ∷ a) h = absurd (omega arith)

no_line : until_feed [] ≡ []
unfolding until_feed
no_line = refl

-- the bytes of a line from a place on, and what follows it
line_turn : (text behind rest : List ℕ) (d : ℕ) (block : List ℕ) → Reads text d block
    → until_feed (drop d text) ++ (behind ++ rest) ≡ line_text block behind ++ (if line_ends block then rest otherwise until_feed (drop (d + length block) text) ++ (behind ++ rest))
unfolding line_text
line_turn text behind rest d block w =
    by_bool (ltb (length (until_feed block)) (length block))
    (λ e.
    rw (e, w.cut, until_front block w.rest (ltb-true (length (until_feed block)) (length block) e)) (sym (append_assoc (until_feed block) behind rest)))
    (λ e.
    by_bool (eqb (length block) 0)
    (λ z.
    let n : block ≡ [] = empty block (eqb-true (length block) 0 z) in
    rw (e, z, w.cut, w.over n, n, no_line))
    (λ z.
    let long = ltb-false (length (until_feed block)) (length block) e in
    let all : until_feed block ≡ block = sym (take_line block) ∙ take_all (length (until_feed block)) block long in
    let behind_it : drop (d + length block) text ≡ w.rest = sym (drop-drop (length block) d text) ∙ ap (drop (length block)) w.cut ∙ drop-append_seam block w.rest in
    rw (e, z, w.cut, behind_it, until_all block w.rest long, all, append-nil block) (append_assoc block (until_feed w.rest) (behind ++ rest))))

-- ---- what is still to come

module _ (p : Part) (first second : List ℕ) where
  abbrev last_line : List ℕ
  last_line = until_feed second ++ (line_feed ++ [])

  abbrev both_lines : List ℕ
  both_lines = until_feed first ++ (bar ++ last_line)

  abbrev to_come : Stage → List ℕ
  to_come (Comparing d) = if same (until_feed (drop d first)) (until_feed (drop d second)) then [] otherwise word_of p ++ both_lines
  to_come (First d) = until_feed (drop d first) ++ (bar ++ last_line)
  to_come (Second d) = until_feed (drop d second) ++ (line_feed ++ [])
  to_come Over = []

  compared : (d : ℕ) (a b : List ℕ) → Reads first d a → Reads second d b → (l : Likeness) → Says 0 (drop d first) (drop d second) l
      → to_come (Comparing d) ≡ likeness_text p l ++ to_come (after_likeness d l)
  compared d a b u v Same h = rw h
  compared d a b u v Differ h = rw h
  compared d a b u v (SoFar k) h =
      rw (h.1, sub-zero k, drop-drop k d first, drop-drop k d second)

  goes_on : (s : Stage) (t : LineTurn) → Wanted first second s t → to_come s ≡ turn_text p s t.a t.b ++ to_come (stage_after s t.a t.b)
  goes_on (Comparing d) t w =
      let h : Says 0 (drop d first) (drop d second) (likeness 0 t.a t.b) = rw (w.0.cut, w.1.cut) (says t.a t.b 0 w.0.rest w.1.rest (λ z. w.0.over) (λ z. w.1.over)) in
      compared d t.a t.b w.0 w.1 (likeness 0 t.a t.b) h
  goes_on (First d) t w =
      line_turn first bar last_line d t.a w
      ∙ ap (λ (l : List ℕ). line_text t.a bar ++ l) (by_bool (line_ends t.a) (λ e. rw e) (λ e. rw e))
  goes_on (Second d) t w =
      line_turn second line_feed [] d t.b w
      ∙ ap (λ (l : List ℕ). line_text t.b line_feed ++ l) (by_bool (line_ends t.b) (λ e. rw e) (λ e. rw e))
  goes_on Over t w = absurd w

  all_turns : (ts : List LineTurn) (s : Stage) → Turns p first second s ts → turns_text ts ≡ to_come s
  all_turns [] s h = rw h
  all_turns (t ∷ ts) s h =
      let k = h.1 in
      ap (λ (l : List ℕ). l ++ turns_text ts) k.wrote.bytes
      ∙ ap (λ (l : List ℕ). turn_text p s t.a t.b ++ l) (all_turns ts t.answer.stage h.2 ∙ ap to_come k.stage)
      ∙ sym (goes_on s t h.0)

  -- WORD FIRST-LINE | SECOND-LINE, or nothing
  pub lines_printed : (ts : List LineTurn) → Turns p first second (Comparing 0) ts → turns_text ts ≡ lines_text (word_of p) (until_feed first) (until_feed second)
  unfolding lines_text
  lines_printed ts h =
      let a = until_feed first in
      let b = until_feed second in
      let w = word_of p in
      all_turns ts (Comparing 0) h
      ∙ ap (λ (l : List ℕ). if same a b then [] otherwise l)
      (sym (append_assoc w a (bar ++ (b ++ line_feed)))
      ∙ sym (append_assoc (w ++ a) bar (b ++ line_feed))
      ∙ sym (append_assoc (w ++ a ++ bar) b line_feed))
