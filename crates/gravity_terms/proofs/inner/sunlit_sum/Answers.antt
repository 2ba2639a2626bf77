-- `gravity_terms::inner::sunlit_sum` meets its contract. Assumes nothing.
use mathlib.Core.Bool.{and-true}
use Rattle.gravity_pull.specs.Sum.{pull_of}
use Rattle.gravity_terms.specs.Added.{sunlit_by}
use Rattle.gravity_terms.proofs.inner.sunlit_sum.Goals as goal

pub returns-then-setting : goal.returns-then-setting
unfolding sunlit_by pull_of
returns-then-setting c = let at = c.before in
    rw (at.pull_known-light.ensures, at.difference.ensures, at.if-setting.true)

pub returns : goal.returns
unfolding sunlit_by pull_of
returns c = rw (c.if-setting.false, and-true c.args.sum.sound)
