-- `table_blocks::inner::end_line` meets its contract. Assumes nothing.
use mathlib.Core.Path.{sym, ◌∙◌}
use native.Mathlib.Omega.{arith}
use Rattle.table_blocks.proofs.Reading.{found_fits, feeds_row, feeds_refused}
use Rattle.table_blocks.proofs.inner.end_line.Goals as goal

pub put_found-requires : goal.put_found-requires
put_found-requires c = record {
  found_value = found_fits c.place_after-after.result c.row_of-found.result (sym c.refusal_at-refusal.ensures ∙ c.in-None.is);
  at_in_bounds = omega arith;
}

pub returns-in-None : goal.returns-in-None
returns-in-None c = feeds_row _ _ _ _ _ _ _ c.line_end-kind.ensures c.place_after-after.ensures
    c.row_of-found.ensures c.refusal_at-refusal.ensures _ _ _ _ c.requires.held
    c.in-None.is c.put_found.ensures

pub returns-in-Some : goal.returns-in-Some
returns-in-Some c = rw c.number.ensures (feeds_refused _ _ _ _ _ _ _ c.line_end-kind.ensures c.place_after-after.ensures
    c.row_of-found.ensures c.refusal_at-refusal.ensures _ _ _ c.in-Some.is)
