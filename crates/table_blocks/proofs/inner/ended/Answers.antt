-- `table_blocks::inner::ended` meets its contract. Assumes nothing.
use mathlib.Core.Path.{refl, sym, ◌∙◌, subst}
use Rattle.table_blocks.specs.Steps.{Fresh}
use Rattle.table_blocks.proofs.Reading.{end_table, fresh_begun, refused_end}
use Rattle.table_blocks.proofs.inner.ended.Goals as goal

pub returns-in-Going : goal.returns-in-Going
returns-in-Going c = rw c.in-Going.is
    (end_table _ _ _ (fresh_begun _ _ _ (subst Fresh c.in-Going.is c.requires)) ∙ sym c.at_end.ensures.0, c.at_end.ensures.1)

pub returns-in-Refused : goal.returns-in-Refused
returns-in-Refused c = rw c.in-Refused.is (refused_end _, refl)
