-- `gravity_bodies::centre_place` meets its contract. Assumes nothing.
use Rattle.gravity_bodies.specs.Looked.{place_in}
use borrow.Author.Tests.{ne_eqb}
use Rattle.gravity_bodies.proofs.centre_place.Goals as goal

pub returns-in-2 : goal.returns-in-2
unfolding place_in
returns-in-2 g c = rw c.in-2.is

pub returns-in-3 : goal.returns-in-3
unfolding place_in
returns-in-3 g c = rw c.in-3.is

pub returns-in-4 : goal.returns-in-4
unfolding place_in
returns-in-4 g c = rw c.in-4.is

pub returns-in-5 : goal.returns-in-5
unfolding place_in
returns-in-5 g c = rw c.in-5.is

pub returns-in-6 : goal.returns-in-6
unfolding place_in
returns-in-6 g c = rw c.in-6.is

pub returns-in_default : goal.returns-in_default
unfolding place_in
returns-in_default g c = let r = c.in_default.in_default-own.rest in rw (ne_eqb _ _ r.0.0.0.0.1, ne_eqb _ _ r.0.0.0.1, ne_eqb _ _ r.0.0.1, ne_eqb _ _ r.0.1, ne_eqb _ _ r.1)
