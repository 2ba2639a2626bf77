-- If the angles of an injection are allowed, the sine accepts each of them. Assumes nothing.
use mathlib.Core.Bool.{Bool, true, false, ◌&&◌}
use mathlib.Core.Path.{◌≡◌, refl}
use Prim.Native.Nat.{◌-◌, ◌≤◌, ◌<◌}
use native.Mathlib.Omega.{arith}
use lib.Dec.{eqb}
use borrow.Author.Tests.{ltb-true, leb-true, eqb-false}
use Rattle.base.specs.Choice.{if◌then◌otherwise◌, ◌<?◌, ◌≤?◌, ◌=?◌}
use Rattle.base.specs.Limits.{circle}
use Rattle.base.proofs.Bools.{left, right}
use Rattle.launch.specs.declared.Signed.{Signed}
use Rattle.launch.specs.declared.Sphere.{Sphere}
use Rattle.launch.specs.Sphere.{quarter, angles_allowed, parts_of}

pub record Angles (s : Sphere) : Type 0 where
  pub latitude : s.latitude.parts ≤ quarter
  pub longitude : s.longitude < circle
  pub path : s.path.parts ≤ quarter
  pub azimuth : s.azimuth < circle

pub angles : (s : Sphere) → angles_allowed s ≡ true → Angles s
angles s h =
    let a = s.latitude.parts ≤? quarter in
    let b = s.longitude <? circle in
    let c = s.path.parts ≤? quarter in
    let d = s.azimuth <? circle in
    let abc = left ((a && b) && c) d h in
    let ab = left (a && b) c abc in
    record {
      latitude = leb-true _ _ (left a b ab);
      longitude = ltb-true _ _ (right a b ab);
      path = leb-true _ _ (right (a && b) c abc);
      azimuth = ltb-true _ _ (right ((a && b) && c) d h);
    }

pub within_circle : (a : Signed) → a.parts ≤ quarter → parts_of a < circle
within_circle a l = go a.below (a.parts =? 0) refl
  where
    go : (below zero : Bool) → (a.parts =? 0) ≡ zero → (if below then (if zero then 0 otherwise circle - a.parts) otherwise a.parts) < circle
    go true true e = omega arith
    go true false e = let n : a.parts ≡ 0 → ⊥ = eqb-false _ _ e in omega arith
    go false zero e = omega arith
