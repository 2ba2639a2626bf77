-- `repair_book::marks::offsets_stay` meets its contract. Assumes nothing.
use native.Mathlib.Omega.{arith}
use mathlib.Core.Path.{sym, ◌∙◌}
use native.Mathlib.Numerals.{add-one}
use borrow.Author.Tests.{eq-eqb, eqb-true}
use lib.ListN.{length, get_or}
use Rattle.base.specs.Choice.{◌=?◌}
use Rattle.book.specs.Contents.{offset_of}
use Rattle.base.proofs.Bools.{both, is_false}
use Rattle.book.proofs.Below.{every}
use Rattle.repair_write.specs.Anew.{place_anew}
use Rattle.repair_sort.proofs.Sounds.{sound_at}
use Rattle.repair_write.proofs.Books.{place_further}
use Rattle.repair_book.proofs.marks.offsets_stay.Goals as goal

pub offset_of-requires : goal.offset_of-requires
offset_of-requires c = (sound_at c.args.input.now c.args.kept.now c.requires.0 c.loop-i.i-index (omega arith)).inside

pub size_of-requires : goal.size_of-requires
size_of-requires c = (sound_at c.args.input.now c.args.kept.now c.requires.0 c.loop-i.i-index (omega arith)).inside

pub returns-then-offset_of-place : goal.returns-then-offset_of-place
returns-then-offset_of-place c =
    let b = c.args.input.now in
    let kept = c.args.kept.now in
    let k = c.loop-i.i-index in
    let stays = λ (n : _). offset_of b (get_or kept n 0) =? place_anew b kept n in
    sym (is_false _ (λ h. c.if-offset_of-place.true (c.offset_of.ensures.0 ∙ eqb-true _ _ (every (length kept) stays h k (omega arith)) ∙ sym c.loop-i.invariant.next)))

pub loop-i-preserved : goal.loop-i-preserved
loop-i-preserved c = let x = c.args in
    let l = c.loop-i in
    record {
      next = omega (arith, place_further x.input.now x.kept.now c.requires.0 l.i-index (omega arith), l.invariant.next);
      stayed = rw add-one (both l.invariant.stayed (eq-eqb (offset_of x.input.now (get_or x.kept.now l.i-index 0)) (place_anew x.input.now x.kept.now l.i-index) (omega (arith, l.invariant.next))));
    }
