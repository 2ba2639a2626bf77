-- The live pane's answer to a line, and the pane after it (document 02, R-14): one definition for the line and the pane.
use Rattle.std.specs.Prelude.{ℕ, ◌+◌, List, [], ◌∷◌, Option, Some, None}
use Rattle.base.specs.Refusals.{refusal_of}
use Rattle.base.specs.declared.Refusal.{Refusal}
use Rattle.run.specs.declared.Outcome.{Outcome}
use Rattle.run.specs.declared.Outcome.TheVariants as outcome
use Rattle.run.specs.declared.RunAnswer.{RunAnswer}
use Rattle.pane_live.specs.declared.Pane.{Pane}
use Rattle.pane_live.specs.declared.TakeAnswer.{TakeAnswer}
use Rattle.pane_live.specs.declared.TakeAnswer.TheVariants as taken
use Rattle.state.specs.declared.Vector.{Vector}
use Rattle.pane_live.specs.declared.FrameAnswer.{FrameAnswer}
use Rattle.pane_live.specs.declared.FrameAnswer.TheVariants as frame
use Rattle.pane_live.specs.Pane as pane
use Rattle.line_form.specs.Call.{Call, These, Unreadable, call_of}
use Rattle.line_form.specs.Spelled.{Item, word, whole, real, refused_items}
use Rattle.line_values.specs.Values.{number, narrow, state_from, guesses_from}
use Rattle.pane_lines.specs.declared.Answer.{Answer}
use Rattle.pane_lines.specs.declared.Answer.TheVariants as answer
use Rattle.pane_lines.specs.declared.Told.{Told}

-- ---- the lines: a name, and the kinds of its fields (line_form)

-- "take"
abbrev pub take_name : List ℕ
take_name = 116 ∷ 97 ∷ 107 ∷ 101 ∷ []

-- "DDFFFFFFFFF"
abbrev pub state_kinds : List ℕ
state_kinds = 68 ∷ 68 ∷ 70 ∷ 70 ∷ 70 ∷ 70 ∷ 70 ∷ 70 ∷ 70 ∷ 70 ∷ 70 ∷ []

-- "frame"
abbrev pub frame_name : List ℕ
frame_name = 102 ∷ 114 ∷ 97 ∷ 109 ∷ 101 ∷ []

-- "D"
abbrev pub frame_kinds : List ℕ
frame_kinds = 68 ∷ []

-- "clear"
abbrev pub clear_name : List ℕ
clear_name = 99 ∷ 108 ∷ 101 ∷ 97 ∷ 114 ∷ []

-- "feed ARRIVED"
abbrev pub arrived_name : List ℕ
arrived_name = 102 ∷ 101 ∷ 101 ∷ 100 ∷ 32 ∷ 65 ∷ 82 ∷ 82 ∷ 73 ∷ 86 ∷ 69 ∷ 68 ∷ []

-- "feed GOING"
abbrev pub going_name : List ℕ
going_name = 102 ∷ 101 ∷ 101 ∷ 100 ∷ 32 ∷ 71 ∷ 79 ∷ 73 ∷ 78 ∷ 71 ∷ []

-- "DDDFFFFFFFFFDDDDD"
abbrev pub run_kinds : List ℕ
run_kinds = 68 ∷ 68 ∷ 68 ∷ 70 ∷ 70 ∷ 70 ∷ 70 ∷ 70 ∷ 70 ∷ 70 ∷ 70 ∷ 70 ∷ 68 ∷ 68 ∷ 68 ∷ 68 ∷ 68 ∷ []

-- "feed REFUSED"
abbrev pub refused_name : List ℕ
refused_name = 102 ∷ 101 ∷ 101 ∷ 100 ∷ 32 ∷ 82 ∷ 69 ∷ 70 ∷ 85 ∷ 83 ∷ 69 ∷ 68 ∷ []

-- "DDDDPPPPPPPPPDDDDD"
abbrev pub refused_kinds : List ℕ
refused_kinds = 68 ∷ 68 ∷ 68 ∷ 68 ∷ 80 ∷ 80 ∷ 80 ∷ 80 ∷ 80 ∷ 80 ∷ 80 ∷ 80 ∷ 80 ∷ 68 ∷ 68 ∷ 68 ∷ 68 ∷ 68 ∷ []

-- STEPS STATE G2 .. G6 from a field on: the answer of a run
abbrev pub run_from : List ℕ → Outcome Refusal → ℕ → RunAnswer Refusal
run_from v o i = record { outcome = o; steps = narrow (number v i); state = state_from v (i + 1); guesses = guesses_from v (i + 12) }

-- ---- the answer and the pane after it

abbrev pub told_taken : Pane → TakeAnswer Refusal → Told
told_taken p a = record { pane = pane.after p a; answer = answer.Taken a }

-- the answer of a refused run, by its number: it changes nothing, and neither does a number of no refusal
abbrev pub told_refused : Pane → List ℕ → Option Refusal → Told
told_refused p v (Some k) = told_taken p (pane.feed p (run_from v (outcome.Refused k) 1))
told_refused p v None = told_taken p taken.Unchanged

abbrev pub told_frame : Pane → ℕ → Told
told_frame p moment = record { pane = p; answer = answer.Frame (pane.frame_at p moment) }

abbrev pub told_clear : Told
told_clear = record { pane = pane.clear; answer = answer.Cleared }

abbrev pub told_unreadable : Pane → Told
told_unreadable p = record { pane = p; answer = answer.Unreadable }

-- the numbers of a call, or else
abbrev pub or_else : Call → (List ℕ → Told) → Told → Told
or_else (These v) told later = told v
or_else Unreadable told later = later

abbrev pub run_line : Pane → List ℕ → Told
run_line p line =
    or_else (call_of line arrived_name run_kinds) (λ v. told_taken p (pane.feed p (run_from v outcome.Arrived 0)))
    (or_else (call_of line going_name run_kinds) (λ v. told_taken p (pane.feed p (run_from v outcome.Going 0)))
    (or_else (call_of line refused_name refused_kinds) (λ v. told_refused p v (refusal_of (number v 0)))
    (told_unreadable p)))

unfoldable pub answer_to : Pane → List ℕ → Told
answer_to p line =
    or_else (call_of line take_name state_kinds) (λ v. told_taken p (pane.take p (state_from v 0)))
    (or_else (call_of line frame_name frame_kinds) (λ v. told_frame p (number v 0))
    (or_else (call_of line clear_name []) (λ v. told_clear)
    (run_line p line)))

-- ---- its words and numbers, with the number told of a refusal

-- "OK"
abbrev pub ok_word : List ℕ
ok_word = 79 ∷ 75 ∷ []

-- "UNCHANGED"
abbrev pub unchanged_word : List ℕ
unchanged_word = 85 ∷ 78 ∷ 67 ∷ 72 ∷ 65 ∷ 78 ∷ 71 ∷ 69 ∷ 68 ∷ []

-- "CURRENT"
abbrev pub current_word : List ℕ
current_word = 67 ∷ 85 ∷ 82 ∷ 82 ∷ 69 ∷ 78 ∷ 84 ∷ []

-- "LATE"
abbrev pub late_word : List ℕ
late_word = 76 ∷ 65 ∷ 84 ∷ 69 ∷ []

-- "EMPTY"
abbrev pub empty_word : List ℕ
empty_word = 69 ∷ 77 ∷ 80 ∷ 84 ∷ 89 ∷ []

-- "UNREADABLE"
abbrev pub unreadable_word : List ℕ
unreadable_word = 85 ∷ 78 ∷ 82 ∷ 69 ∷ 65 ∷ 68 ∷ 65 ∷ 66 ∷ 76 ∷ 69 ∷ []

abbrev pub taken_items : {R : Type 0} → (R → ℕ) → TakeAnswer R → List Item
taken_items told (taken.Taken p) = word ok_word ∷ []
taken_items told taken.Unchanged = word unchanged_word ∷ []
taken_items told (taken.Refused k) = refused_items (told k)

abbrev pub frame_items : {R : Type 0} → (R → ℕ) → FrameAnswer Vector R → List Item
frame_items told (frame.Current p) = word current_word ∷ real p.x ∷ real p.y ∷ real p.z ∷ []
frame_items told (frame.Late n) = word late_word ∷ whole n ∷ []
frame_items told frame.Empty = word empty_word ∷ []
frame_items told (frame.Refused k) = refused_items (told k)

abbrev pub answer_items : {R : Type 0} → (R → ℕ) → Answer R → List Item
answer_items told (answer.Taken a) = taken_items told a
answer_items told (answer.Frame a) = frame_items told a
answer_items told answer.Cleared = word empty_word ∷ []
answer_items told answer.Unreadable = word unreadable_word ∷ []
