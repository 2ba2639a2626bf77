-- `state::vectors_agree` meets its contract. Assumes nothing.
use mathlib.Core.Path.{sym, ◌∙◌}
use Rattle.state.specs.State.{same_vector}
use Rattle.state.proofs.vectors_agree.Goals as goal

pub returns-then-bits_agree-2 : goal.returns-then-bits_agree-2
unfolding same_vector
returns-then-bits_agree-2 c = let x = sym c.bits_agree.ensures ∙ c.if-bits_agree.true in
    let y = sym c.bits_agree-then-bits_agree.ensures ∙ c.if-bits_agree-2.true in c.bits_agree-then-bits_agree-2.ensures ∙ sym (rw (x, y))

pub returns-else-bits_agree-2 : goal.returns-else-bits_agree-2
unfolding same_vector
returns-else-bits_agree-2 c = let x = sym c.bits_agree.ensures ∙ c.if-bits_agree.true in let y = sym c.bits_agree-then-bits_agree.ensures ∙ c.if-bits_agree-2.false in sym (rw (x, y))

pub returns-else-bits_agree : goal.returns-else-bits_agree
unfolding same_vector
returns-else-bits_agree c = let x = sym c.bits_agree.ensures ∙ c.if-bits_agree.false in sym (rw x)
