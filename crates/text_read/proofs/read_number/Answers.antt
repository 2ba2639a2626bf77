-- `text_read::read_number` meets its contract: the digits from the place up to i are read, and spell n. Assumes nothing.
use Prim.Native.Nat.{◌+◌, ◌-◌}
use mathlib.Core.List.{◌∷◌}
use mathlib.Core.Path.{◌≡◌, ◌∙◌}
use native.Mathlib.Omega.{arith}
use lib.ListN.{drop, get_or}
use Rattle.text_read.specs.Fields.{until_space, read_number}
use Rattle.text_read.proofs.Reading.{Reads, at_end_lem, at_space, at_byte, one_more, no_digit, too_large, ended, overflows}
use Rattle.text_read.proofs.read_number.Goals as goal

pub returns-then-b-eq32 : goal.returns-then-b-eq32
returns-then-b-eq32 c = let inside = c.before in
    c.sized_field.ensures
    ∙ ended _ _ _ _ _ inside.loop-i.i _ inside.loop-i.auto.i (omega arith) inside.loop-i.invariant
    (at_space c.args.bytes.now inside.loop-i.i (omega arith) c.if-b-eq32.true)

pub returns-then-base-d : goal.returns-then-base-d
unfolding read_number
returns-then-base-d c = no_digit _ _ _ _ _ _ _ _ _ ((let here : let x = c.args in let l = c.loop-i in let bytes = x.bytes.now in Reads x.base (until_space (drop x.at bytes)) (get_or bytes l.i 0 ∷ until_space (drop (l.i + 1) bytes)) l.n (l.i - x.at) = rw (at_byte c.args.bytes.now c.loop-i.i (omega arith) c.if-b-eq32.false) at c.loop-i.invariant in here)) (rw c.digit_value-d.ensures at c.if-base-d.true)

pub returns-then-d-base : goal.returns-then-d-base
unfolding read_number
returns-then-d-base c = too_large _ _ _ _ _ _ _ _ _ (omega arith) ((let here : let x = c.args in let l = c.loop-i in let bytes = x.bytes.now in Reads x.base (until_space (drop x.at bytes)) (get_or bytes l.i 0 ∷ until_space (drop (l.i + 1) bytes)) l.n (l.i - x.at) = rw (at_byte c.args.bytes.now c.loop-i.i (omega arith) c.if-b-eq32.false) at c.loop-i.invariant in here)) (rw c.digit_value-d.ensures at (overflows _ _ _ (omega arith) (omega arith) c.if-d-base.true))

pub loop-i-preserved : goal.loop-i-preserved
loop-i-preserved c = let i = c.loop-i.i in let at = c.args.at in
    let e : i + 1 - at ≡ i - at + 1 = omega arith in
    rw (c.digit_value-d.ensures, e) (one_more _ _ _ _ _ _ ((let here : let x = c.args in let l = c.loop-i in let bytes = x.bytes.now in Reads x.base (until_space (drop x.at bytes)) (get_or bytes l.i 0 ∷ until_space (drop (l.i + 1) bytes)) l.n (l.i - x.at) = rw (at_byte c.args.bytes.now c.loop-i.i (omega arith) c.if-b-eq32.false) at c.loop-i.invariant in here)) (rw c.digit_value-d.ensures at c.if-base-d.false))

pub returns : goal.returns
returns c = let at_end : c.loop-i.i ≡ c.max-end.result = omega arith in
    c.sized_field-2.ensures
    ∙ ended _ _ _ _ _ c.max-end.result _ (omega arith) (omega arith) (rw at_end at c.loop-i.invariant) (at_end_lem c.args.bytes.now c.max-end.result (omega (arith, c.max-end.ensures)))
