-- `book::book_passes` meets its contract: what the first tests refuse does not pass. Assumes nothing.
use native.Mathlib.Omega.{arith}
use mathlib.Core.Path.{sym, ◌∙◌}
use Rattle.std.proofs.lemmas.Grind.{common_steps}
use Rattle.book_check.proofs.Passing.{passing, contents_inside}
use Rattle.base.proofs.Bools.{is_false}
use Rattle.book.proofs.book_passes.Goals as goal
use Rattle.book.proofs.book_passes.Goals.{then-total-length, else-total-length}

pub returns-then-not-contains : goal.returns-then-not-contains
returns-then-not-contains c = sym (is_false _ (λ h. let p = passing _ h in
    let q = contents_inside _ p in
    let out = rw c.if-not-contains.true at c.contains.ensures.cases in
    grind (arith, common_steps)))

pub returns-else-count-length : goal.returns-else-count-length
returns-else-count-length c = c.if-count-length.false ∙ sym (is_false _ (λ h. let p = passing _ h in
    let q = contents_inside _ p in
    elim c.if-total-length.branch [
      | then-total-length w ↦ grind (arith, common_steps)
      | else-total-length w ↦ grind (arith, common_steps)
    ]))
