-- `table_blocks::inner::finish` meets its contract. Assumes nothing.
use mathlib.Core.Path.{subst}
use native.Mathlib.Omega.{arith}
use Rattle.table_blocks.specs.Steps.{Stands}
use Rattle.table_blocks.proofs.Reading.{stands_held, ends_refused}
use Rattle.table_blocks.proofs.inner.finish.Goals as goal

pub finish_line-requires : goal.finish_line-requires
finish_line-requires c = record { held = stands_held _ _ _ (subst Stands c.in-Going.is c.requires.stands); in_bounds = omega arith }

pub returns-in-Refused : goal.returns-in-Refused
returns-in-Refused c = rw c.in-Refused.is (ends_refused _ _)
