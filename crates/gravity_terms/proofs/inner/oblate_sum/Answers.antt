-- `gravity_terms::inner::oblate_sum` meets its contract. Assumes nothing.
use mathlib.Core.Bool.{and-true}
use Rattle.gravity_pull.specs.Sum.{pull_of}
use Rattle.gravity_terms.specs.Added.{oblate_by}
use Rattle.gravity_terms.proofs.inner.oblate_sum.Goals as goal

pub returns-then-setting : goal.returns-then-setting
unfolding oblate_by pull_of
returns-then-setting c = rw (c.flatten.ensures, c.pull_known.ensures, c.difference-q.ensures, c.if-setting.true)

pub returns : goal.returns
unfolding oblate_by pull_of
returns c = rw (c.if-setting.false, and-true c.args.sum.sound)
