-- `listing_lines::inner::goes_on` meets its contract. Assumes nothing.
use mathlib.Core.Path.{refl}
use Rattle.listing_lines.proofs.Laws.{below_digits, above_digits, leading_zero, in_range}
use Rattle.listing_lines.proofs.inner.goes_on.Goals as goal

pub returns-then-b-lt48 : goal.returns-then-b-lt48
returns-then-b-lt48 c = let x = c.args in below_digits x.t x.b c.if-b-lt48.true

pub returns-then-b-gt57 : goal.returns-then-b-gt57
returns-then-b-gt57 c = let x = c.args in above_digits x.t x.b c.if-b-lt48.false c.if-b-gt57.true

pub returns-then-t-eq0 : goal.returns-then-t-eq0
returns-then-t-eq0 c = let x = c.args in leading_zero x.t x.b c.if-b-lt48.false c.if-b-gt57.false c.if-t-eq0.true

pub returns : goal.returns
returns c = let x = c.args in in_range x.t x.b c.if-b-lt48.false c.if-b-gt57.false c.if-t-eq0.false _ refl
