-- `repair_choose::settle::settle_one` meets its contract: overlap first, then room. Assumes nothing.
use Prim.Native.Nat.{◌+◌, ◌*◌, ◌<◌, ◌≤◌}
use native.Mathlib.Omega.{arith}
use mathlib.Core.Path.{◌≡◌, sym, ◌∙◌}
use lib.ListN.{take}
use Rattle.repair_choose.specs.Forward.{overlaps_last}
use Rattle.repair_choose.proofs.Settled.{settled_overlap, settled_no_room, settled_kept, sized_kept, last_sound_lem, last_kept}
use Rattle.repair_choose.proofs.settle.settle_one.Goals as goal

pub overlaps_last-overlaps-requires : goal.overlaps_last-overlaps-requires
overlaps_last-overlaps-requires c = (c.requires.count_in_bounds.5, last_sound_lem _ _ _ _ _ _ c.requires.sized)

pub returns-then-overlaps : goal.returns-then-overlaps
returns-then-overlaps c = record {
  sized_2 = (c.requires.sized, omega arith);
  fates_after = settled_overlap c.args.input.now c.args.kept.now c.args.fates.now c.args.room
      c.args.sofar.count c.args.i ((let judged : let x = c.args in overlaps_last x.input.now (take x.sofar.count x.kept.now) x.i ≡ c.overlaps_last-overlaps.result = sym (c.overlaps_last-overlaps.ensures ∙ last_kept _ _ _ _ _ _ c.requires.sized c.args.i) in judged) ∙ c.if-overlaps.true);
}

pub returns-then-full : goal.returns-then-full
returns-then-full c = record {
  sized_2 = (c.requires.sized, omega arith);
  fates_after = settled_no_room c.args.input.now c.args.kept.now c.args.fates.now c.args.room
      c.args.sofar.count c.args.i ((let judged : let x = c.args in overlaps_last x.input.now (take x.sofar.count x.kept.now) x.i ≡ c.overlaps_last-overlaps.result = sym (c.overlaps_last-overlaps.ensures ∙ last_kept _ _ _ _ _ _ c.requires.sized c.args.i) in judged) ∙ c.if-overlaps.false) (let long = c.requires.sized.long in let none = (let no_room : let x = c.args in x.room < x.sofar.length + 24 + 24 * c.size_of.result = c.if-full.true in no_room) in omega arith);
}

pub returns-else-full : goal.returns-else-full
returns-else-full c = let x = c.args in record {
  sized_2 = (
    sized_kept x.input.now x.kept.now x.fates.now x.room x.sofar.count x.i (omega arith) _ _ _
        c.requires.sized c.requires.count_in_bounds.5 (omega arith) (let some = (let room : let x = c.args in x.sofar.length + 24 + 24 * c.size_of.result ≤ x.room = c.if-full.false in room) in omega arith),
    omega arith,
  );
  fates_after = settled_kept x.input.now x.kept.now x.fates.now x.room x.sofar.count x.i
      (omega arith) ((let judged : let x = c.args in overlaps_last x.input.now (take x.sofar.count x.kept.now) x.i ≡ c.overlaps_last-overlaps.result = sym (c.overlaps_last-overlaps.ensures ∙ last_kept _ _ _ _ _ _ c.requires.sized c.args.i) in judged) ∙ c.if-overlaps.false) (let long = c.requires.sized.long in let some = (let room : let x = c.args in x.sofar.length + 24 + 24 * c.size_of.result ≤ x.room = c.if-full.false in room) in omega arith);
}
