-- `gravity_bodies::inner::found_two` meets its contract: each body as `found` proves it. Assumes nothing.
use mathlib.Core.Path.{sym, ◌∙◌}
use Rattle.book.proofs.Found.{covered}
use Rattle.gravity_bodies.proofs.Looked.{by_entry}
use Rattle.gravity_bodies.proofs.inner.found_two.Goals as goal

pub two_places_at-places-requires : goal.two_places_at-places-requires
two_places_at-places-requires c = record { book_value = c.requires.pass; i_bound = covered _ _ _ _ (sym c.lookup_guessed.ensures ∙ c.in-Some.is); j_bound = covered _ _ _ _ (sym c.lookup_guessed-then-is_looked_up-2.ensures ∙ c.in-Some-lookup_guessed.is) }

pub slow_at-slow-requires : goal.slow_at-slow-requires
slow_at-slow-requires c = record { ready = c.requires; bound = covered _ _ _ _ (sym c.lookup_guessed.ensures ∙ c.in-Some.is) }

pub slow_at-slow2-requires : goal.slow_at-slow2-requires
slow_at-slow2-requires c = record { ready = c.requires; bound = covered _ _ _ _ (sym c.lookup_guessed-then-is_looked_up-2.ensures ∙ c.in-Some-lookup_guessed.is) }

pub returns-then-is_looked_up-2 : goal.returns-then-is_looked_up-2
returns-then-is_looked_up-2 c = record {
  first_value = rw c.found_at-first.ensures
      (by_entry _ _ _ _ _ _ _ _
      (sym c.is_looked_up.ensures ∙ c.if-is_looked_up.true)
      (sym c.lookup_guessed.ensures ∙ c.in-Some.is)
      c.two_places_at-places.ensures.first_value
      c.slow_at-slow.ensures);
  second_value = rw c.found_at-second.ensures
      (by_entry _ _ _ _ _ _ _ _
      (sym c.is_looked_up-then-is_looked_up.ensures ∙ c.if-is_looked_up-2.true)
      (sym c.lookup_guessed-then-is_looked_up-2.ensures ∙ c.in-Some-lookup_guessed.is)
      c.two_places_at-places.ensures.second_value
      c.slow_at-slow2.ensures);
}
