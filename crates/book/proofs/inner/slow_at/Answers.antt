-- `book::inner::slow_at` meets its contract: by the law of calm books, or by the velocity itself. Assumes nothing.
use mathlib.Core.Path.{sym, ◌∙◌}
use Rattle.book.proofs.Slow.{slow}
use Rattle.book.proofs.inner.slow_at.Goals as goal

pub returns-then-calm : goal.returns-then-calm
returns-then-calm c = let ready = c.requires.ready in
    let found = c.requires.bound in
    c.if-calm.true ∙ sym (slow _ _ _ ready.pass (ready.calmly c.if-calm.true) found.0 found.1)
