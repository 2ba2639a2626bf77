-- `line_form::form::fields_from` meets its contract: after i turns the first i fields are read. Assumes nothing.
use Rattle.std.proofs.Common.{◌≡◌, arith, length}
use Rattle.line_form.proofs.Reading.{read_all}
use Rattle.line_form.proofs.form.fields_from.Goals as goal

pub returns : goal.returns
returns c = let x = c.args in let l = c.loop-i in
    let e : l.i ≡ length x.kinds.now = omega arith in
    read_all x.line.now x.kinds.now x.from l.numbers l.at (rw e at l.invariant)
