-- `line_form::form::fields_from` meets its contract: after i turns the first i fields are read. Assumes nothing.
use Rattle.line_form.proofs.Reading.{Read}
use Rattle.line_form.proofs.form.fields_from.Given as goal

abbrev pub invariant-loop-i : goal.invariant-loop-i
invariant-loop-i l = Read l.line l.kinds l.from l.numbers l.i l.at
