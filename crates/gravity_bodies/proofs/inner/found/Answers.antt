-- `gravity_bodies::inner::found` meets its contract. Assumes nothing.
use Rattle.book.proofs.Found.{covered}
use mathlib.Core.Path.{sym, ◌∙◌}
use Rattle.gravity_bodies.specs.Looked.{found_of}
use Rattle.gravity_bodies.proofs.Looked.{by_entry}
use Rattle.gravity_bodies.proofs.inner.found.Goals as goal

pub returns-in_default : goal.returns-in_default
unfolding found_of
returns-in_default c = rw (sym c.is_looked_up.ensures ∙ c.if-is_looked_up.true, sym c.lookup_guessed.ensures ∙ c.in_default.is, c.blank_sight.ensures)

pub place_at-place-requires : goal.place_at-place-requires
place_at-place-requires c = record { book_value = c.requires.pass; bound = covered _ _ _ _ (sym c.lookup_guessed.ensures ∙ c.in-Some.is) }

pub slow_at-slow-requires : goal.slow_at-slow-requires
slow_at-slow-requires c = record { ready = c.requires; bound = covered _ _ _ _ (sym c.lookup_guessed.ensures ∙ c.in-Some.is) }

pub returns-then-is_looked_up : goal.returns-then-is_looked_up
returns-then-is_looked_up c = rw c.found_at.ensures
    (by_entry _ _ _ _ _ _ _ _
    (sym c.is_looked_up.ensures ∙ c.if-is_looked_up.true)
    (sym c.lookup_guessed.ensures ∙ c.in-Some.is)
    c.place_at-place.ensures
    c.slow_at-slow.ensures)

pub returns : goal.returns
unfolding found_of
returns c = rw (c.blank_sight-2.ensures, sym c.is_looked_up.ensures ∙ c.if-is_looked_up.false)
