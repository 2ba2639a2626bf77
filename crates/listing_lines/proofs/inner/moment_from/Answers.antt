-- `listing_lines::inner::moment_from` meets its contract: the digits between the first place and i spell t. Assumes nothing.
use mathlib.Core.Path.{◌≡◌, sym, ◌∙◌}
use native.Mathlib.Omega.{arith}
use Rattle.listing_lines.proofs.Laws.{moment_more, moment_stops, moment_over}
use Rattle.listing_lines.proofs.inner.moment_from.Goals as goal

pub loop-i-preserved : goal.loop-i-preserved
loop-i-preserved c = rw c.with_digit-t.ensures
    (c.loop-i.invariant
    ∙ moment_more c.args.block.now c.loop-i.i c.loop-i.t (omega arith) (sym c.goes_on.ensures ∙ c.if-goes_on.true))

pub returns-else-goes_on : goal.returns-else-goes_on
returns-else-goes_on c = sym
    (c.loop-i.invariant
    ∙ moment_stops c.args.block.now c.loop-i.i c.loop-i.t (omega arith) (sym c.goes_on.ensures ∙ c.if-goes_on.false))

pub returns : goal.returns
returns c = let at_end : c.loop-i.i ≡ c.max-end.result = omega arith in
    sym (rw at_end at c.loop-i.invariant ∙ moment_over c.args.block.now c.max-end.result c.loop-i.t (omega (arith, c.max-end.ensures)))
