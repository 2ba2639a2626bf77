-- `repair_book::marks::offsets_stay` meets its contract. The invariant: the offsets so far are the new ones, and the next block begins at `place`. Assumes nothing.
use mathlib.Core.Path.{◌≡◌}
use mathlib.Core.Bool.{true}
use lib.ListN.{get_or}
use Rattle.base.specs.Choice.{◌=?◌}
use Rattle.book.specs.Contents.{offset_of}
use Rattle.book.specs.Passes.{all_below}
use Rattle.repair_write.specs.Anew.{place_anew}
use Rattle.repair_book.proofs.marks.offsets_stay.Given as goal

abbrev pub invariant-loop-i : goal.invariant-loop-i
invariant-loop-i l = record {
  next : l.place ≡ place_anew l.input l.kept l.i-index;
  stayed : all_below l.i-index (λ n. offset_of l.input (get_or l.kept n 0) =? place_anew l.input l.kept n) ≡ true;
}
