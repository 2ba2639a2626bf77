-- `listing_lines::inner::from_byte` meets its contract. Assumes nothing.
use borrow.Author.Rules.{rules}
use borrow.Author.Tests.{le-leb, lt-leb}
use Rattle.listing_lines.proofs.inner.from_byte.Goals as goal

pub returns-then-b-lt48 : goal.returns-then-b-lt48
returns-then-b-lt48 c = rw (lt-leb 48 _ c.if-b-lt48.true)

pub overflow_add-at : goal.overflow_add-at
overflow_add-at c = search rules

pub overflow_cast-b : goal.overflow_cast-b
overflow_cast-b c = search rules

pub moment_from-requires : goal.moment_from-requires
moment_from-requires c = search rules

pub after_moment-requires : goal.after_moment-requires
after_moment-requires c = search rules

pub returns-then-b-le57 : goal.returns-then-b-le57
returns-then-b-le57 c = rw (c.after_moment.ensures, c.moment_from.ensures, le-leb 48 _ c.if-b-lt48.false, le-leb _ 57 c.if-b-le57.true)

pub returns : goal.returns
returns c = rw (le-leb 48 _ c.if-b-lt48.false, lt-leb _ 57 c.if-b-le57.false)
