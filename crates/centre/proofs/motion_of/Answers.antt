-- `centre::motion_of` meets its contract. Assumes nothing.
use mathlib.Core.Path.{sym, ◌∙◌}
use borrow.Author.Tests.{eq-eqb, ne_eqb}
use Rattle.book.proofs.Found.{covered}
use Rattle.centre.specs.Move.{motion_of}
use Rattle.centre.proofs.motion_of.Goals as goal

pub returns-then-number-eq1 : goal.returns-then-number-eq1
unfolding motion_of
returns-then-number-eq1 c = rw (eq-eqb _ _ c.if-number-eq1.true, c.at_rest.ensures)

pub returns-in_default : goal.returns-in_default
unfolding motion_of
returns-in_default c = rw (ne_eqb _ _ c.if-number-eq1.false, sym c.lookup_guessed.ensures ∙ c.in_default.is)

pub place_at-place-requires : goal.place_at-place-requires
place_at-place-requires c = record { book_value = c.requires; bound = covered _ _ _ _ (sym c.lookup_guessed.ensures ∙ c.in-Some.is) }

pub velocity_at-velocity-requires : goal.velocity_at-velocity-requires
velocity_at-velocity-requires c = record { book_value = c.requires; bound = covered _ _ _ _ (sym c.lookup_guessed.ensures ∙ c.in-Some.is) }

pub returns : goal.returns
unfolding motion_of
returns c = rw (ne_eqb _ _ c.if-number-eq1.false, sym c.lookup_guessed.ensures ∙ c.in-Some.is, c.velocity_at-velocity.ensures, c.place_at-place.ensures)
