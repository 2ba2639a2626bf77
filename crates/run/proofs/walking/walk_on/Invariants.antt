-- `run::walking::walk_on` meets its contract: at the loop's test the rest of the run starts from now (`Walking`). Assumes nothing.
use Rattle.run.specs.Kept.{Walking}
use Rattle.run.proofs.walking.walk_on.Given as goal

abbrev pub invariant-loop-n : goal.invariant-loop-n
invariant-loop-n l = Walking l.book l.setting l.initial.now l.h l.target l.budget l.given l.now l.guesses l.n
