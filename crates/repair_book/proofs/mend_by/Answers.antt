-- `repair_book::mend_by` meets its contract: the entries chosen, the book of them written, the report. Assumes nothing.
use mathlib.Core.Path.{◌≡◌, ap, ◌∙◌}
use lib.ListN.{length, take}
use Rattle.repair_choose.specs.Forward.{Sofar}
use Rattle.repair_book.specs.Repaired.{room_of, kept_of}
use Rattle.repair_book.proofs.Chosen.{kept_of_lem}
use Rattle.repair_book.proofs.mend_by.Goals as goal

pub returns : goal.returns
returns c = let x =
    c.args in
    let done =
    rw c.room_of.ensures
    at c.choose-chosen.ensures.fates_after in
    let kept : take c.choose-chosen.result.count
    c.choose-chosen.new.kept ≡ kept_of
    x.input.now (room_of (length x.output.now)) =
    ap (λ (s : Sofar). s.kept) done ∙ kept_of_lem x.input.now (room_of (length x.output.now)) x.fates.now
    in
    rw (rw kept at c.report.ensures, rw kept at c.write_book.ensures, ap (λ (s : Sofar). s.fates) done)
