-- The refusals of a repair: only 16 and 1. Assumes nothing.
use mathlib.Core.Bool.{Bool, true, ◌&&◌}
use mathlib.Core.List.{List}
use mathlib.Core.Path.{◌≡◌, refl}
use Prim.Native.Nat.{ℕ}
use lib.ListN.{length}
use Rattle.base.specs.declared.Refusal.{Refusal}
use Rattle.std.specs.Prelude.{Result, Ok, Err}
use Rattle.base.specs.Choice.{◌≤?◌}
use Rattle.base.specs.Checks.{refused_by}
use Rattle.base.proofs.Checks.{first_meets, last_meets}
use Rattle.repair_book.specs.Repaired.{room_of, kept_of, repair_answer}
use Rattle.repair_book.specs.Report.{report_of}

pub repair_refused : (ok : Refusal → Bool) → ok Refusal.Book ≡ true → ok Refusal.Short ≡ true → (b : List ℕ) (output : ℕ) → refused_by ok (repair_answer b output) ≡ true
unfolding repair_answer
repair_refused ok one sixteen b output =
    let answer = Ok (report_of b (kept_of b (room_of output))) in
    first_meets (refused_by ok) Err answer ((8 ≤? length b) && (8 ≤? output)) Refusal.Short _ sixteen
    (last_meets (refused_by ok) Err answer (length b ≤? 61_440) Refusal.Book one refl)
