-- What follows if a repair is not refused. Assumes nothing.
use Prim.Native.Nat.{ℕ, ◌≤◌}
use mathlib.Core.Bool.{◌&&◌}
use mathlib.Core.List.{List}
use mathlib.Core.Path.{◌≡◌}
use borrow.Author.Tests.{leb-true}
use Rattle.std.specs.Prelude.{Ok}
use Rattle.base.specs.Choice.{◌≤?◌}
use Rattle.base.specs.declared.Refusal.{Refusal}
use Rattle.base.proofs.Bools.{left, right}
use Rattle.base.proofs.Checks.{first, holds}
use Rattle.repair_book.specs.Repaired.{repair_checks}

pub not_refused : (input output : ℕ) → repair_checks input output ≡ Ok tt → (8 ≤ input) × (8 ≤ output) × (input ≤ 61_440)
not_refused input output e =
    let sizes = first ((8 ≤? input) && (8 ≤? output)) Refusal.Short _ tt e in
    let long = holds (input ≤? 61_440) Refusal.Book sizes.1 in
    (leb-true 8 input (left (8 ≤? input) (8 ≤? output) sizes.0), leb-true 8 output (right (8 ≤? input) (8 ≤? output) sizes.0), leb-true input 61_440 long)
