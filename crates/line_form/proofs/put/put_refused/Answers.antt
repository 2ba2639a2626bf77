-- `line_form::put::put_refused` meets its contract. Assumes nothing.
use mathlib.Core.List.{[], ◌∷◌}
use native.Mathlib.Omega.{arith}
use Rattle.line_form.specs.Spelled.{word, whole}
use Rattle.line_form.proofs.Spelling.{then, as_word}
use Rattle.line_form.proofs.put.put_refused.Goals as goal

pub returns : goal.returns
returns c = let s = c.put_number.ensures.room in let e = c.put_bytes-at.ensures in
    record {
      wrote = then (word _ ∷ []) (whole _ ∷ []) (as_word _ e) c.put_number.ensures.wrote;
      room = record { some = omega (arith, s.some, e.next); fits = omega (arith, s.fits, e.next) };
    }
