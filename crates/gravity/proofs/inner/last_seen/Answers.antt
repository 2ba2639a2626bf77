-- `gravity::inner::last_seen` meets its contract. Assumes nothing.
use mathlib.Core.Path.{sym, ap, ◌∙◌}
use lib.Ieee.{nan}
use lib.ListN.{get_or}
use Rattle.gravity_pull.specs.declared.ThreeFarPulls.{ThreeFarPulls}
use Rattle.gravity.proofs.Places.{other_is, unused_is, root_for, no_root, none_used}
use Rattle.gravity.proofs.inner.last_seen.Goals as goal

pub returns-then-any_used : goal.returns-then-any_used
returns-then-any_used c = let p = c.three_far_pulls-pulls.ensures in
    let e1 = c.other_by-third.ensures in
    let e2 = c.other_by-fourth.ensures in
    let e3 = c.other_by-fifth.ensures in record {
      third_value = (
        other_is _ _ _ _ _ e1 c.difference-d_place.ensures (ap (λ (r : ThreeFarPulls). r.first) p),
        other_is _ _ _ _ _ e2 c.difference-e_place.ensures (ap (λ (r : ThreeFarPulls). r.second) p),
        other_is _ _ _ _ _ e3 c.difference-f_place.ensures (ap (λ (r : ThreeFarPulls). r.third) p),
      );
      roots_for = record {
        for_a = root_for _ _ _ _ _ _ e1 (ap (λ (r : ThreeFarPulls). get_or r.roots 0 nan) p);
        for_b = root_for _ _ _ _ _ _ e2 (ap (λ (r : ThreeFarPulls). get_or r.roots 1 nan) p);
        for_c = root_for _ _ _ _ _ _ e3 (ap (λ (r : ThreeFarPulls). get_or r.roots 2 nan) p);
      };
    }

pub returns : goal.returns
returns c = let u = none_used _ _ _ (sym c.any_used.ensures ∙ c.if-any_used.false) in
    let e1 = c.other_by-third-2.ensures in
    let e2 = c.other_by-fourth-2.ensures in
    let e3 = c.other_by-fifth-2.ensures in record {
      third_value = (
        unused_is _ _ _ _ _ e1 c.difference-d_place.ensures u.0,
        unused_is _ _ _ _ _ e2 c.difference-e_place.ensures u.1,
        unused_is _ _ _ _ _ e3 c.difference-f_place.ensures u.2,
      );
      roots_for = record { for_a = no_root _ _ _ _ _ _ e1 u.0; for_b = no_root _ _ _ _ _ _ e2 u.1; for_c = no_root _ _ _ _ _ _ e3 u.2 };
    }
