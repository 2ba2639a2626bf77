-- Document 02, R-10, "Save what can be saved of a damaged book": the answer, and the output and the fates afterwards. They depend on the
-- bytes of the input and the length of the output.
use Rattle.base.specs.declared.Refusal.{Refusal}
use Rattle.repair_book.specs.declared.Report.{Report}
use Rattle.std.specs.Prelude.{ℕ, min, ◌&&◌, List, [], length, Result, Ok, Err}
use Rattle.base.specs.Choice.{◌≤?◌}
use Rattle.base.specs.Checks.{Checked, require, checked, ◌before◌}
use Rattle.book.specs.Passes.{longest_book}
use Rattle.repair_sort.specs.Reasons.{looked_at, reasons}
use Rattle.repair_sort.specs.Ordered.{ordered}
use Rattle.repair_write.specs.Anew.{book_anew, with_text}
use Rattle.repair_choose.specs.Forward.{Sofar, forward}
use Rattle.repair_book.specs.Report.{report_of}

-- "Refusals: input or output of fewer than 8 bytes is 16, then input above the limit is 1"
abbrev pub repair_checks : ℕ → ℕ → Checked
repair_checks input output =
    require ((8 ≤? input) && (8 ≤? output)) Refusal.Short
    before require (input ≤? longest_book) Refusal.Book

-- "Room is the lent output, at most 61,440 bytes"
abbrev pub room_of : ℕ → ℕ
room_of output = min output longest_book

-- all the entries that go on, in order, going forward
unfoldable pub repaired : List ℕ → ℕ → List ℕ → Sofar
repaired b room fates = forward b room (record { kept = []; fates = reasons b (looked_at b) fates }) (ordered b (looked_at b))

-- which entries are kept does not depend on the fates before the call
abbrev pub kept_of : List ℕ → ℕ → List ℕ
kept_of b room = (repaired b room []).kept

-- the answer, by the length of the output; then the output and the fates afterwards. A refusal leaves both unchanged.
unfoldable pub repair_answer : List ℕ → ℕ → Result Report Refusal
repair_answer b output = repair_checks (length b) output before Ok (report_of b (kept_of b (room_of output)))

unfoldable pub output_after : List ℕ → List ℕ → List ℕ
output_after b out =
    checked (repair_checks (length b) (length out)) (with_text out 0 (book_anew b (kept_of b (room_of (length out))))) (λ refusal. out)

unfoldable pub fates_after : List ℕ → ℕ → List ℕ → List ℕ
fates_after b output fates =
    checked (repair_checks (length b) output) (repaired b (room_of output) fates).fates (λ refusal. fates)

-- the result of a call for its caller: its answer, and the output and the fates afterwards
pub record Outcome : Type 0 where
  pub answer : Result Report Refusal
  pub output : List ℕ
  pub fates : List ℕ

abbrev pub outcome_of : Result Report Refusal → List ℕ → List ℕ → Outcome
outcome_of answer output fates = record { answer = answer; output = output; fates = fates }

abbrev pub repair_outcome : List ℕ → List ℕ → List ℕ → Outcome
repair_outcome b out fates = outcome_of (repair_answer b (length out)) (output_after b out) (fates_after b (length out) fates)

-- the same for a call that is not refused, as the code has it
abbrev pub mended : List ℕ → List ℕ → List ℕ → Outcome
mended b out fates =
    let kept = kept_of b (room_of (length out)) in
    outcome_of (Ok (report_of b kept)) (with_text out 0 (book_anew b kept)) (repaired b (room_of (length out)) fates).fates
