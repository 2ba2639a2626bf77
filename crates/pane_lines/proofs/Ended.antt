-- Every answer of the pane has a word, and its line ends with the line feed. Assumes nothing.
use Prim.Native.Nat.{ℕ, ◌-◌, ◌≤◌}
use mathlib.Core.List.{List}
use lib.ListN.{length, set}
use Rattle.pane_live.specs.declared.TakeAnswer.{TakeAnswer}
use Rattle.pane_live.specs.declared.TakeAnswer.TheVariants as taken
use Rattle.state.specs.declared.Vector.{Vector}
use Rattle.pane_live.specs.declared.FrameAnswer.{FrameAnswer}
use Rattle.pane_live.specs.declared.FrameAnswer.TheVariants as frame
use Rattle.line_form.specs.Spelled.{spaced, line_text, Puts}
use Rattle.line_form.proofs.Spelling.{lined}
use Rattle.pane_lines.specs.declared.Answer.{Answer}
use Rattle.pane_lines.specs.declared.Answer.TheVariants as answer
use Rattle.pane_lines.specs.Answers.{taken_items, frame_items, answer_items}

module _ {R : Type 0} (told : R → ℕ) {a b : List ℕ} {at r : ℕ} where
  taken_ended : (x : TakeAnswer R) → r ≤ length b → Puts a at (spaced (taken_items told x)) b 1 512 r → Puts a at (line_text (taken_items told x)) (set b (r - 1) 10) 1 512 r
  taken_ended (taken.Taken p) h w = lined _ _ h w
  taken_ended taken.Unchanged h w = lined _ _ h w
  taken_ended (taken.Refused n) h w = lined _ _ h w

  frame_ended : (x : FrameAnswer Vector R) → r ≤ length b → Puts a at (spaced (frame_items told x)) b 1 512 r → Puts a at (line_text (frame_items told x)) (set b (r - 1) 10) 1 512 r
  frame_ended (frame.Current p) h w = lined _ _ h w
  frame_ended (frame.Late n) h w = lined _ _ h w
  frame_ended frame.Empty h w = lined _ _ h w
  frame_ended (frame.Refused n) h w = lined _ _ h w

  pub ended : (x : Answer R) → r ≤ length b → Puts a at (spaced (answer_items told x)) b 1 512 r → Puts a at (line_text (answer_items told x)) (set b (r - 1) 10) 1 512 r
  ended (answer.Taken x) h w = taken_ended x h w
  ended (answer.Frame x) h w = frame_ended x h w
  ended answer.Cleared h w = lined _ _ h w
  ended answer.Unreadable h w = lined _ _ h w
