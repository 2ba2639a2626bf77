-- `table_blocks::inner::take` meets its contract. Assumes nothing.
use mathlib.Core.Path.{subst}
use native.Mathlib.Omega.{arith}
use Rattle.table_blocks.specs.Steps.{Stands}
use Rattle.table_blocks.proofs.Reading.{stands_held, stays_refused}
use Rattle.table_blocks.proofs.inner.take.Goals as goal

pub go_on-requires : goal.go_on-requires
go_on-requires c = record { held = stands_held _ _ _ (subst Stands c.in-Going.is c.requires.stands); at_in_bounds = omega arith }

pub returns-in-Refused : goal.returns-in-Refused
returns-in-Refused c = rw c.in-Refused.is (stays_refused _ _ _ _)
