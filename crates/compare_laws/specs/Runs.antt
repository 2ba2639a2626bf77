-- Definitions for the laws of the report: a whole run of the program on two texts, which it reads in blocks of any lengths.
use Rattle.std.specs.Prelude.{ℕ, ◌<◌, Bool, true, false, List, [], ◌∷◌, ◌++◌, ◌≡◌, length, take, drop}
use Rattle.base.specs.Choice.{if◌then◌otherwise◌}
use Rattle.listing_words.specs.Words.{dash}
use Rattle.listing_read.specs.declared.Judge.{Judge}
use Rattle.listing_read.specs.declared.Verdict.{Verdict}
use Rattle.listing_read.specs.Bytes.{at_top, Goes, verdict_of}
use Rattle.compare_report.specs.declared.Part.TheVariants as part
use Rattle.compare_report.specs.Report.{some, end_text, refusal_text}
use Rattle.compare_report.specs.Turns.{Put}
use Rattle.compare_lines.specs.declared.Line.{Line}
use Rattle.compare_lines.specs.declared.Stage.TheVariants.{Comparing}
use Rattle.compare_lines.specs.Stages.{line_of}
use Rattle.compare_lines.specs.Runs.{LineTurn, Turns, turns_text}
use Rattle.compare_blocks.specs.declared.Reading.{Reading}
use Rattle.compare_blocks.specs.declared.Portion.{Portion}
use Rattle.compare_blocks.specs.Sides.{opened, going_on, Reported}

-- ---- the check of the form: blocks as `judge_block` promises them, one after the other, and then the verdict

pub record JudgedBlock : Type 0 where
  pub bytes : List ℕ
  pub answer : Judge

abbrev pub judged_text : List JudgedBlock → List ℕ
judged_text [] = []
judged_text (b ∷ bs) = b.bytes ++ judged_text bs

abbrev pub JudgedFrom : Judge → List JudgedBlock → Type 0
JudgedFrom j [] = Unit {0}
JudgedFrom j (b ∷ bs) = Goes j b.bytes b.answer × JudgedFrom b.answer bs

abbrev pub judge_after : Judge → List JudgedBlock → Judge
judge_after j [] = j
judge_after j (b ∷ bs) = judge_after b.answer bs

pub record Judging (text : List ℕ) (v : Verdict) : Type 0 where
  pub blocks : List JudgedBlock
  pub read : text ≡ judged_text blocks
  pub steps : JudgedFrom at_top blocks
  pub verdict : v ≡ verdict_of (judge_after at_top blocks) []

-- ---- the states: portions as `portion` promises them, and the next block of a listing if the report waits for one

-- the caller's buffer before a portion and after it, and the result of the call. Then the blocks that were read, if they were wanted, and
-- the rest of the texts.
pub record StateTurn : Type 0 where
  pub before : List ℕ
  pub after : List ℕ
  pub answer : Portion
  pub first : List ℕ
  pub first_left : List ℕ
  pub second : List ℕ
  pub second_left : List ℕ

abbrev pub next_block : Bool → List ℕ → List ℕ → List ℕ
next_block true block next = next
next_block false block next = block

-- a block has no byte only at the text's end
abbrev pub Read : Bool → List ℕ → List ℕ → List ℕ → Type 0
Read true left next after = (left ≡ next ++ after) × (next ≡ [] → after ≡ [])
Read false left next after = after ≡ left

-- from the blocks a and b, the texts after them and the readings in them, until the states are over
abbrev pub StateTurns : (a ra b rb : List ℕ) → Reading → Reading → List StateTurn → Type 0
StateTurns a ra b rb r s [] = ⊥
StateTurns a ra b rb r s (t ∷ []) = Reported a b r s t.before t.after t.answer × (t.answer.halt.over ≡ true)
StateTurns a ra b rb r s (t ∷ u ∷ ts) =
    let h = t.answer.halt in
    let x = next_block h.first a t.first in
    let y = next_block h.second b t.second in
    Reported a b r s t.before t.after t.answer × Read h.first ra t.first t.first_left × Read h.second rb t.second t.second_left
    × StateTurns x t.first_left y t.second_left (going_on h.first t.answer.first (length x)) (going_on h.second t.answer.second (length y)) (u ∷ ts)

abbrev pub states_printed : List StateTurn → List ℕ
states_printed [] = []
states_printed (t ∷ ts) = take t.answer.written t.after ++ states_printed ts

-- ---- the whole run

-- the text from the start of a line on; - for a header that is not there
abbrev pub line_in : Line → List ℕ → List ℕ
line_in l text = if l.there then drop l.from text otherwise dash

-- a refusal, or the rest of a report, in a caller's buffer
pub record Printed (text : List ℕ) : Type 0 where
  pub before : List ℕ
  pub after : List ℕ
  pub next : ℕ
  pub put : Put before 0 text after next 300

-- the first text is refused, and the second is not read
pub record FirstRefused (a : List ℕ) : Type 0 where
  pub verdict : Verdict
  pub judged : Judging a verdict
  pub refused : 0 < verdict.refusal
  pub line : Printed (refusal_text verdict.refusal 0)

pub record SecondRefused (a b : List ℕ) : Type 0 where
  pub first : Verdict
  pub first_judged : Judging a first
  pub passes : first.refusal ≡ 0
  pub second : Verdict
  pub second_judged : Judging b second
  pub refused : 0 < second.refusal
  pub line : Printed (refusal_text 0 second.refusal)

-- both are of the form: the header lines, the states, the outcome lines, and the end, which says whether anything was printed
pub record BothPass (a b : List ℕ) : Type 0 where
  pub first : Verdict
  pub first_judged : Judging a first
  pub first_passes : first.refusal ≡ 0
  pub second : Verdict
  pub second_judged : Judging b second
  pub second_passes : second.refusal ≡ 0
  pub headers : List LineTurn
  pub headers_turn : Turns part.Header (line_in (line_of part.Header first) a) (line_in (line_of part.Header second) b) (Comparing 0) headers
  pub states : List StateTurn
  pub states_turn : StateTurns [] a [] b opened opened states
  pub outcomes : List LineTurn
  pub outcomes_turn : Turns part.Outcome (line_in (line_of part.Outcome first) a) (line_in (line_of part.Outcome second) b) (Comparing 0) outcomes
  pub end : Printed (end_text (some (turns_text headers ++ (states_printed states ++ turns_text outcomes))) first.rows)

pub data Run (a b : List ℕ) : Type 0 where
  first_refused : FirstRefused a → Run a b
  second_refused : SecondRefused a b → Run a b
  both_pass : BothPass a b → Run a b

abbrev pub in_buffer : {text : List ℕ} → Printed text → List ℕ
in_buffer p = take p.next p.after

-- what goes to standard output
abbrev pub output : {a b : List ℕ} → Run a b → List ℕ
output (first_refused r) = in_buffer r.line
output (second_refused r) = in_buffer r.line
output (both_pass r) = turns_text r.headers ++ (states_printed r.states ++ (turns_text r.outcomes ++ in_buffer r.end))
