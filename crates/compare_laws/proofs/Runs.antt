-- Any run of the program on two texts prints the report on them. Assumes nothing.
use Prim.Native.Nat.{ℕ, ◌+◌, ◌<◌, ◌≤◌}
use mathlib.Core.Bool.{Bool, true, false, ◌||◌}
use mathlib.Core.List.{List, [], ◌∷◌, ◌++◌}
use mathlib.Core.Path.{◌≡◌, refl, sym, ap, ap₂, subst, ◌∙◌}
use native.Mathlib.Omega.{arith}
use borrow.Author.Tests.{lt-ltb, eq-eqb, ne_eqb, ltb-true, ltb-false}
use lib.Dec.{ltb}
use lib.ListN.{length, take, drop}
use Rattle.std.specs.Prelude.{None}
use Rattle.base.specs.Choice.{if◌then◌otherwise◌}
use Rattle.listing_words.specs.Words.{header_word, outcome_word, refused13, dash}
use Rattle.listing_read.specs.declared.Judge.{Judge}
use Rattle.listing_read.specs.declared.Verdict.{Verdict}
use Rattle.listing_scan.specs.declared.Row.{Row}
use Rattle.listing_read.specs.Form.{form_refusal, rows_in}
use Rattle.listing_read.specs.Bytes.{at_top, Goes, Counted}
use Rattle.listing_read.proofs.Judging.{goes_nowhere, goes_on}
use Rattle.compare_report.specs.declared.Part.{Part}
use Rattle.compare_report.specs.declared.Part.TheVariants as part
use Rattle.compare_report.specs.Report.{parted, text_of, lines_text, header_of, header_text, outcome_of, outcome_text, until_feed, some, any_difference}
use Rattle.compare_report.specs.Report.{end_text, part_text, from_part, two_numbers, first_refusal, refusal_text, report}
use Rattle.compare_report.specs.Turns.{side_of}
use Rattle.compare_lines.specs.Stages.{line_of}
use Rattle.compare_lines.specs.Runs.{Turns, turns_text}
use Rattle.compare_lines.proofs.Printed.{lines_printed}
use Rattle.compare_blocks.specs.declared.Reading.{Reading}
use Rattle.compare_blocks.specs.declared.Halt.{Halt}
use Rattle.compare_blocks.specs.Sides.{coming, Rests, Shut, waiting, waits_for, halt_of, opened, onward, going_on, Reported}
use Rattle.compare_blocks.proofs.Readings.{waiting_none, onward_shut, shut_open}
use Rattle.compare_laws.specs.Laws.{verdict_on}
use Rattle.compare_laws.specs.Runs.{JudgedBlock, judged_text, JudgedFrom, judge_after, Judging, StateTurn, next_block, Read, StateTurns}
use Rattle.compare_laws.specs.Runs.{states_printed, line_in, Printed, BothPass, Run, first_refused, second_refused, both_pass, in_buffer, output}
use Rattle.compare_laws.proofs.Texts.{judged, first_line, last_line}
use Rattle.compare_laws.proofs.Whole.{next_block_lem, text_over, nothing_left, parts, all_states}

-- ---- judged in blocks

top_counted : Counted at_top
top_counted = record { lines = omega arith; states = omega arith; start = omega arith; fresh = refl }

goes_all : (bs : List JudgedBlock) (j : Judge) → Counted j → JudgedFrom j bs → Goes j (judged_text bs) (judge_after j bs)
goes_all [] j c h = goes_nowhere j c
goes_all (b ∷ bs) j c h = goes_on j b.answer (judge_after b.answer bs) b.bytes (judged_text bs) h.0 (goes_all bs b.answer h.0.counted h.1)

pub verdict_is : (text : List ℕ) (v : Verdict) → Judging text v → v ≡ verdict_on text
verdict_is text v j =
    j.verdict ∙ judged text (judge_after at_top j.blocks) (subst (λ (t : List ℕ). Goes at_top t (judge_after at_top j.blocks)) (sym j.read) (goes_all j.blocks at_top top_counted j.steps))

-- ---- the states

abbrev halts : Bool → Bool → Bool → Bool → Halt
halts p q x y =
    if p then waits_for true false false otherwise
    if q then waits_for false true false otherwise
    if x then waits_for false false false otherwise
    if y then waits_for false false false otherwise waits_for false false true

first_waits : (p q x y : Bool) → (halts p q x y).first ≡ true → p ≡ true
first_waits true q x y e = refl
first_waits false true x y e = e
first_waits false false true y e = e
first_waits false false false true e = e
first_waits false false false false e = e

second_waits : (p q x y : Bool) → (halts p q x y).second ≡ true → q ≡ true
second_waits true q x y e = let z : ◌≡◌ {A = ℕ} 0 1 = cc in absurd (omega arith)
second_waits false true x y e = refl
second_waits false false true y e = e
second_waits false false false true e = e
second_waits false false false false e = e

-- if the buffer is not full, the halt is that of the readings
full_first : (t : Bool) (h : Halt) → (if t then waits_for false false false otherwise h).first ≡ true → h.first ≡ true
full_first true h e = let z : ◌≡◌ {A = ℕ} 0 1 = cc in absurd (omega arith)
full_first false h e = e

full_second : (t : Bool) (h : Halt) → (if t then waits_for false false false otherwise h).second ≡ true → h.second ≡ true
full_second true h e = let z : ◌≡◌ {A = ℕ} 0 1 = cc in absurd (omega arith)
full_second false h e = e

full_over : (t : Bool) (h : Halt) → (if t then waits_for false false false otherwise h).over ≡ true → h.over ≡ true
full_over true h e = let z : ◌≡◌ {A = ℕ} 0 1 = cc in absurd (omega arith)
full_over false h e = e

-- one listing goes on: its next block, if it is wanted
record GoesOn (r : Reading) (a ra : List ℕ) (s : Reading) (x left : List ℕ) : Type 0 where
  to_come : coming r a ra ≡ coming s x left
  is_shut : Shut (length x) s
  rests : Rests s left

module _ (r : Reading) (a ra next left : List ℕ) (shut : Shut (length a) r) (rests : Rests r ra) where
  wanted_block : r.found ≡ None → length a ≤ r.at → Read true ra next left → GoesOn r a ra (onward r (length next)) next left
  unfolding onward
  wanted_block none used read = go next read
    where
      go : (next : List ℕ) → Read true ra next left → GoesOn r a ra (onward r (length next)) next left
      go [] read =
          let gone : left ≡ [] = read.1 refl in
          let all : ra ≡ [] = read.0 ∙ gone in
          record {
            to_come = rw (all, gone) (text_over r a none used);
            is_shut = onward_shut r 0;
            rests = λ o. gone;
          }
      go (x ∷ next) read =
          record {
            to_come = rw read.0 (next_block_lem r a none used (x ∷ next) left (omega arith));
            is_shut = onward_shut r (length (x ∷ next));
            rests = λ o. (let e : (onward r (length (x ∷ next))).over ≡ false = rw (lt-ltb 0 (length (x ∷ next)) (omega arith)) in let z : ◌≡◌ {A = ℕ} 0 1 = cc in absurd (omega arith));
          }

  goes_further : (w : Bool) → (w ≡ true → r.found ≡ None) → (w ≡ true → length a ≤ r.at) → Read w ra next left
      → GoesOn r a ra (going_on w r (length (next_block w a next))) (next_block w a next) left
  goes_further true none used read = wanted_block (none refl) (used refl) read
  goes_further false none used read = record { to_come = rw read; is_shut = shut; rests = λ o. read ∙ rests o }

module _ (a ra b rb : List ℕ) (r s : Reading) (t : StateTurn) (h : Reported a b r s t.before t.after t.answer) where
  abbrev f : Reading
  f = t.answer.first

  abbrev g : Reading
  g = t.answer.second

  abbrev is_full : Bool
  is_full = ltb (length t.after) (t.answer.written + 300)

  first_none : t.answer.halt.first ≡ true → f.found ≡ None
  first_none e =
      waiting_none f
      (first_waits (waiting f) (waiting g) (side_of f.found g.found).first (side_of f.found g.found).second
      (full_first is_full (halt_of f g) (sym (ap (λ (k : Halt). k.first) h.halts) ∙ e)))

  second_none : t.answer.halt.second ≡ true → g.found ≡ None
  second_none e =
      waiting_none g
      (second_waits (waiting f) (waiting g) (side_of f.found g.found).first (side_of f.found g.found).second
      (full_second is_full (halt_of f g) (sym (ap (λ (k : Halt). k.second) h.halts) ∙ e)))

  own_over : t.answer.halt.over ≡ true → (halt_of f g).over ≡ true
  own_over e = full_over is_full (halt_of f g) (sym (ap (λ (k : Halt). k.over) h.halts) ∙ e)

states_printed_lem : (ts : List StateTurn) (a ra b rb : List ℕ) (r s : Reading) → Shut (length a) r → Shut (length b) s → Rests r ra → Rests s rb
    → StateTurns a ra b rb r s ts → states_printed ts ≡ text_of (parted (coming r a ra) (coming s b rb))
states_printed_lem [] a ra b rb r s x y p q h = absurd h
states_printed_lem (t ∷ []) a ra b rb r s x y p q h =
    let k = h.0 in
    let n =
    nothing_left a b ra rb t.answer.first t.answer.second k.first_shut k.second_shut (λ o. p (sym k.first_over ∙ o))
    (λ o. q (sym k.second_over ∙ o)) (own_over a ra b rb r s t k h.1) in
    sym (k.text ra rb p q ∙ ap (λ (l : List ℕ). take t.answer.written t.after ++ l) n)
states_printed_lem (t ∷ u ∷ ts) a ra b rb r s x y p q h =
    let k = h.0 in
    let v = t.answer.halt in
    let one = goes_further t.answer.first a ra t.first t.first_left k.first_shut (λ o. p (sym k.first_over ∙ o)) v.first (first_none a ra b rb r s t k) k.first_used h.1 in
    let two =
    goes_further t.answer.second b rb t.second t.second_left k.second_shut (λ o. q (sym k.second_over ∙ o)) v.second (second_none a ra b rb r s t k) k.second_used h.2 in
    let later = states_printed_lem (u ∷ ts) (next_block v.first a t.first) t.first_left (next_block v.second b t.second) t.second_left
    (going_on v.first t.answer.first (length (next_block v.first a t.first))) (going_on v.second t.answer.second (length (next_block v.second b t.second)))
    one.is_shut two.is_shut one.rests two.rests h.3 in
    ap (λ (l : List ℕ). take t.answer.written t.after ++ l) (later ∙ sym (ap₂ (λ (i j : List Row). text_of (parted i j)) one.to_come two.to_come))
    ∙ sym (k.text ra rb p q)

-- ---- header and outcome

dash_line : until_feed dash ≡ dash
unfolding until_feed
dash_line = refl

header_by : (text : List ℕ) (n : ℕ) (t : Bool) → ltb 0 n ≡ t → until_feed (if ltb 0 n then drop 0 text otherwise dash) ≡ header_of n text
unfolding header_of
header_by text n true e = let k = ltb-true 0 n e in rw (e, ne_eqb n 0 (λ z. omega arith)) (sym (first_line text))
header_by text n false e = let k = ltb-false 0 n e in rw (e, eq-eqb n 0 (omega arith)) dash_line

module _ (text : List ℕ) (v : Verdict) (j : Judging text v) where
  header_is : until_feed (line_in (line_of part.Header v) text) ≡ header_of (length (rows_in text)) text
  header_is = rw (verdict_is text v j) (header_by text (length (rows_in text)) (ltb 0 (length (rows_in text))) refl)

  outcome_is : until_feed (line_in (line_of part.Outcome v) text) ≡ outcome_of text
  outcome_is = rw (verdict_is text v j) (sym (last_line text))

  refusal_is : v.refusal ≡ form_refusal text
  refusal_is = ap (λ (w : Verdict). w.refusal) (verdict_is text v j)

  rows_is : v.rows ≡ length (rows_in text)
  rows_is = ap (λ (w : Verdict). w.rows) (verdict_is text v j)

-- ---- the refusals

some_refusal : (k n : ℕ) → some (two_numbers refused13 k n) ≡ true
unfolding two_numbers
some_refusal k n = refl

module _ (a b : List ℕ) where
  refused_first : 0 < form_refusal a → refusal_text (form_refusal a) 0 ≡ report a b
  unfolding report first_refusal
  refused_first h = rw (lt-ltb 0 (form_refusal a) h) (starts (form_refusal a))
    where
      starts : (n : ℕ) → two_numbers refused13 1 n ≡ (if some (two_numbers refused13 1 n) then two_numbers refused13 1 n otherwise from_part part.Header a b)
      starts n = sym (ap (λ (t : Bool). if t then two_numbers refused13 1 n otherwise from_part part.Header a b) (some_refusal 1 n))

  refused_second : form_refusal a ≡ 0 → 0 < form_refusal b → refusal_text 0 (form_refusal b) ≡ report a b
  unfolding report first_refusal
  refused_second e h = rw (e, lt-ltb 0 (form_refusal b) h) (starts (form_refusal b))
    where
      starts : (n : ℕ) → two_numbers refused13 2 n ≡ (if some (two_numbers refused13 2 n) then two_numbers refused13 2 n otherwise from_part part.Header a b)
      starts n = sym (ap (λ (t : Bool). if t then two_numbers refused13 2 n otherwise from_part part.Header a b) (some_refusal 2 n))

-- ---- whether anything was reported

some_append : (x y : List ℕ) → some (x ++ y) ≡ (some x || some y)
some_append [] y = refl
some_append (b ∷ x) y = refl

or_three : (p q r : Bool) → (p || (q || r)) ≡ (p || q || r)
or_three true q r = refl
or_three false q r = refl

any_is : (x y z : List ℕ) → some (x ++ (y ++ z)) ≡ (some x || some y || some z)
any_is x y z = some_append x (y ++ z) ∙ ap (λ (t : Bool). some x || t) (some_append y z) ∙ or_three (some x) (some y) (some z)

-- ---- the whole

module _ (a b : List ℕ) (r : BothPass a b) where
  headers_are : turns_text r.headers ≡ part_text part.Header a b
  unfolding header_text
  headers_are =
      lines_printed part.Header (line_in (line_of part.Header r.first) a) (line_in (line_of part.Header r.second) b) r.headers r.headers_turn
      ∙ ap₂ (lines_text header_word) (header_is a r.first r.first_judged) (header_is b r.second r.second_judged)

  outcomes_are : turns_text r.outcomes ≡ part_text part.Outcome a b
  unfolding outcome_text
  outcomes_are =
      lines_printed part.Outcome (line_in (line_of part.Outcome r.first) a) (line_in (line_of part.Outcome r.second) b) r.outcomes r.outcomes_turn
      ∙ ap₂ (lines_text outcome_word) (outcome_is a r.first r.first_judged) (outcome_is b r.second r.second_judged)

  states_are : states_printed r.states ≡ part_text part.States a b
  states_are =
      states_printed_lem r.states [] a [] b opened opened (shut_open opened 0 refl) (shut_open opened 0 refl) closed closed r.states_turn ∙ sym (all_states a b)
    where
      closed : {text : List ℕ} → Rests opened text
      closed o = let z : ◌≡◌ {A = ℕ} 0 1 = cc in absurd (omega arith)

  end_is : in_buffer r.end ≡ part_text part.End a b
  unfolding any_difference
  end_is =
      r.end.put.wrote.bytes
      ∙ ap₂ end_text
      (ap₂ (λ (x y : List ℕ). some (x ++ (y ++ turns_text r.outcomes))) headers_are states_are ∙ ap
      (λ (z : List ℕ). some (part_text part.Header a b ++ (part_text part.States a b ++ z))) outcomes_are
      ∙ any_is (part_text part.Header a b) (part_text part.States a b) (part_text part.Outcome a b)) (rows_is a r.first r.first_judged)

  both_printed : turns_text r.headers ++ (states_printed r.states ++ (turns_text r.outcomes ++ in_buffer r.end)) ≡ report a b
  both_printed =
      ap₂ (λ (x y : List ℕ). x ++ y) headers_are (ap₂ (λ (x y : List ℕ). x ++ y) states_are (ap₂ (λ (x y : List ℕ). x ++ y) outcomes_are end_is))
      ∙ sym (parts a b (sym (refusal_is a r.first r.first_judged) ∙ r.first_passes) (sym (refusal_is b r.second r.second_judged) ∙ r.second_passes))

-- what any run prints is the report on the two texts
pub all_printed : (a b : List ℕ) (run : Run a b) → output run ≡ report a b
all_printed a b (first_refused r) =
    let e = refusal_is a r.verdict r.judged in
    r.line.put.wrote.bytes ∙ ap (λ (n : ℕ). refusal_text n 0) e ∙ refused_first a b (subst (λ (n : ℕ). 0 < n) e r.refused)
all_printed a b (second_refused r) =
    let e = refusal_is a r.first r.first_judged in
    let f = refusal_is b r.second r.second_judged in
    r.line.put.wrote.bytes ∙ ap (λ (n : ℕ). refusal_text 0 n) f ∙ refused_second a b (sym e ∙ r.passes) (subst (λ (n : ℕ). 0 < n) f r.refused)
all_printed a b (both_pass r) = both_printed a b r
