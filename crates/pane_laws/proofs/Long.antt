-- A line of more than 1,000 bytes is no call of `pane`. So the first 1,001 bytes of a line, which the program keeps, get the answer of the whole line. Assumes nothing.
use Prim.Native.Nat.{ℕ, ◌+◌, ◌<◌}
use mathlib.Core.List.{List, []}
use mathlib.Core.Path.{◌≡◌}
use native.Mathlib.Omega.{arith}
use lib.ListN.{length, take}
use Rattle.pane_live.specs.declared.Pane.{Pane}
use Rattle.pane_lines.specs.Answers.{take_name, state_kinds, frame_name, frame_kinds, clear_name, arrived_name, going_name, run_kinds, refused_name, refused_kinds, told_unreadable, answer_to}
use Rattle.line_laws.specs.Long.{longest}
use Rattle.line_laws.proofs.Long.{no_call_so_long, kept}

pub long_unreadable : (pane : Pane) (line : List ℕ) → longest < length line → answer_to pane line ≡ told_unreadable pane
unfolding answer_to
long_unreadable pane line h =
    rw (
      no_call_so_long line take_name state_kinds (omega arith),
      no_call_so_long line frame_name frame_kinds (omega arith),
      no_call_so_long line clear_name [] (omega arith),
      no_call_so_long line arrived_name run_kinds (omega arith),
      no_call_so_long line going_name run_kinds (omega arith),
      no_call_so_long line refused_name refused_kinds (omega arith),
    )

pub kept_answer : (pane : Pane) (line : List ℕ) → answer_to pane (take (longest + 1) line) ≡ answer_to pane line
kept_answer pane line = kept (answer_to pane) (told_unreadable pane) (long_unreadable pane) line
