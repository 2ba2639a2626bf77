-- `book::inner::body_at` meets its contract: the entry that the lookup gives covers the moment. Assumes nothing.
use mathlib.Core.Path.{sym, ◌∙◌}
use Rattle.book_search.proofs.Found.{covered}
use Rattle.book.proofs.BodyAt.{no_cover, not_finite, too_fast, at_place}
use Rattle.book.proofs.inner.body_at.Goals as goal
use Rattle.book.proofs.inner.body_at.Goals.{else-place_finite-via-then-place_finite+else-velocity_finite, else-place_finite-via-else-place_finite}

pub returns-in_default : goal.returns-in_default
returns-in_default c = sym (no_cover _ _ _ (sym c.lookup_guessed.ensures ∙ c.in_default.is))

pub place_at-place-requires : goal.place_at-place-requires
place_at-place-requires c = record { book_value = c.requires; bound = covered _ _ _ _ (sym c.lookup_guessed.ensures ∙ c.in-Some.is) }

pub velocity_at-velocity-requires : goal.velocity_at-velocity-requires
velocity_at-velocity-requires c = record { book_value = c.requires; bound = covered _ _ _ _ (sym c.lookup_guessed.ensures ∙ c.in-Some.is) }

pub returns-then-velocity_finite : goal.returns-then-velocity_finite
returns-then-velocity_finite c = rw (c.place_at-place.ensures, c.velocity_at-velocity.ensures)
    (sym
    (at_place _ _ _ _
    (sym c.lookup_guessed.ensures ∙ c.in-Some.is)
    (rw (← c.place_at-place.ensures) (sym c.place_finite.ensures ∙ c.if-place_finite.true))
    (rw (← c.velocity_at-velocity.ensures) (sym c.velocity_finite.ensures ∙ c.if-velocity_finite.true))))

pub returns-else-place_finite : goal.returns-else-place_finite
returns-else-place_finite c = elim c.else-place_finite.branch [
  | else-place_finite-via-then-place_finite+else-velocity_finite w ↦
      sym
      (too_fast _ _ _ _
      (sym c.lookup_guessed.ensures ∙ c.in-Some.is)
      (rw (← c.place_at-place.ensures) (sym c.place_finite.ensures ∙ w.if-place_finite.true))
      (rw (← c.velocity_at-velocity.ensures) (sym w.velocity_finite.ensures ∙ w.if-velocity_finite.false)))
  | else-place_finite-via-else-place_finite w ↦
      sym
      (not_finite _ _ _ _ (sym c.lookup_guessed.ensures ∙ c.in-Some.is)
      (rw (← c.place_at-place.ensures) (sym c.place_finite.ensures ∙ w.if-place_finite.false)))
]
