-- `book_check::inner::floats_below` meets its contract. The invariant: the floats before k are below the limit. Assumes nothing.
use mathlib.Core.Path.{sym}
use Rattle.base.proofs.Bools.{is_false, clash}
use Rattle.book_check.proofs.Below.{every}
use Rattle.book_check.proofs.inner.floats_below.Goals as goal

pub returns-then-not-bits_below : goal.returns-then-not-bits_below
returns-then-not-bits_below c = sym (is_false _ (λ h. clash (every _ _ h c.loop-k.k c.loop-k-test.true) (rw (
  ← c.u64_at.ensures,
  ← c.bits_below.ensures,
) (c.if-not-bits_below.true))))
