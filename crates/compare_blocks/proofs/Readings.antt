-- A reading: when it waits, when its states are at an end, and what it is before its next block. Assumes nothing.
use Prim.Native.Nat.{ℕ}
use mathlib.Core.Bool.{Bool, true, false}
use mathlib.Core.List.{List, [], ◌++◌}
use mathlib.Core.Path.{◌≡◌, refl, sym, subst, ◌∙◌}
use native.Mathlib.Omega.{arith}
use borrow.Author.Tests.{ltb-false}
use lib.Dec.{ltb}
use lib.ListN.{length, drop, drop_of_length-le}
use Rattle.listing_scan.specs.declared.Row.{Row}
use Rattle.std.specs.Prelude.{Option, Some, None}
use Rattle.base.specs.Choice.{if◌then◌otherwise◌}
use Rattle.listing_scan.specs.declared.Scan.TheVariants.{Start}
use Rattle.listing_read.specs.declared.Next.{Next}
use Rattle.listing_read.specs.Form.{lines_of, rows_of}
use Rattle.listing_read.specs.Bytes.{kinds_from, next_row, Finds}
use Rattle.listing_read.proofs.Finding.{finds}
use Rattle.compare_report.specs.Turns.{Ended, left}
use Rattle.compare_blocks.specs.declared.Reading.{Reading}
use Rattle.compare_blocks.specs.Sides.{coming, Rests, Shut, is_none, waiting, Fills, leaving, onward, going_on}

-- a reading waits if its text continues and its next state is not known
abbrev waits : Bool → Option Row → Bool
waits over f = if over then false otherwise is_none f

open_waits : (over : Bool) (f : Option Row) → waits over f ≡ true → over ≡ false
open_waits true f e = sym e
open_waits false f e = refl

none_waits : (over : Bool) (f : Option Row) → waits over f ≡ true → f ≡ None
none_waits true f e = let z : ◌≡◌ {A = ℕ} 0 1 = cc in absurd (omega arith)
none_waits false None e = refl
none_waits false (Some r) e = let z : ◌≡◌ {A = ℕ} 0 1 = cc in absurd (omega arith)

over_none : (over : Bool) (f : Option Row) → waits over f ≡ false → f ≡ None → over ≡ true
over_none true f e n = refl
over_none false None e n = sym e
over_none false (Some r) e n = let z : ◌≡◌ {A = ℕ} 0 1 = cc in absurd (omega arith)

module _ (r : Reading) where
  pub waiting_open : waiting r ≡ true → r.over ≡ false
  waiting_open e = open_waits r.over r.found e

  pub waiting_none : waiting r ≡ true → r.found ≡ None
  waiting_none e = none_waits r.over r.found e

  pub known_over : waiting r ≡ false → r.found ≡ None → r.over ≡ true
  known_over e n = over_none r.over r.found e n

  pub shut_open : (n : ℕ) → r.over ≡ false → Shut n r
  shut_open n e =
      record { start = λ o. (let z : ◌≡◌ {A = ℕ} 0 1 = cc in absurd (omega arith)); used = λ o. (let z : ◌≡◌ {A = ℕ} 0 1 = cc in absurd (omega arith)) }

-- ---- looking for the next state

pub stays : (block : List ℕ) (r : Reading) → waiting r ≡ false → Fills block r r
stays block r e =
    record { rows = λ rest. refl; over = refl; shut = λ h. h; used = λ w. (let z : ◌≡◌ {A = ℕ} 0 1 = cc in absurd (omega arith)) }

pub looks : (block : List ℕ) (r s : Reading) (n : Next) → waiting r ≡ true → n ≡ next_row block r.at r.scan → s.found ≡ n.found
    → s.scan ≡ n.scan → s.at ≡ n.at → s.over ≡ r.over → Fills block r s
looks block r s n w q a b c d =
    let f : Finds block r.at r.scan n = subst (Finds block r.at r.scan) (sym q) (finds block r.at r.scan) in
    record {
      rows = λ rest. rw (waiting_none r w, a, b, c) (f.rows rest);
      over = d;
      shut = λ h. shut_open s (length block) (d ∙ waiting_open r w);
      used = λ e. rw c (f.ended (sym a ∙ waiting_none s e));
    }

-- ---- nothing follows a text that is over

no_more : rows_of (kinds_from Start []) ≡ []
unfolding rows_of kinds_from lines_of
no_more = refl

pub ends : (f : Reading) (block rest : List ℕ) → waiting f ≡ false → Shut (length block) f → Rests f rest → Ended f.found (rows_of (kinds_from f.scan (drop f.at block ++ rest)))
ends f block rest w shut behind n =
    let o : f.over ≡ true = known_over f w n in
    rw (shut.start o, drop_of_length-le block (shut.used o), behind o) no_more

-- ---- a state that was reported is done

module _ (f : Reading) where
  pub left_is : (t : Bool) (block rest : List ℕ) → left t f.found (rows_of (kinds_from f.scan (drop f.at block ++ rest))) ≡ coming (leaving t f) block rest
  left_is true block rest = refl
  left_is false block rest = refl

  pub over_kept : (t : Bool) → (leaving t f).over ≡ f.over
  over_kept true = refl
  over_kept false = refl

  pub shut_kept : (t : Bool) (n : ℕ) → Shut n f → Shut n (leaving t f)
  shut_kept true n h = record { start = h.start; used = h.used }
  shut_kept false n h = h

-- ---- the next block

pub onward_shut : (r : Reading) (n : ℕ) → Shut n (onward r n)
unfolding onward
onward_shut r n = go (ltb 0 n) refl
  where
    go : (t : Bool) → ltb 0 n ≡ t → Shut n (onward r n)
    go true e = rw e (shut_open _ n refl)
    go false e = rw e (record { start = λ o. refl; used = λ o. ltb-false 0 n e })

pub going_on_shut : (wanted : Bool) (r : Reading) (n m : ℕ) → Shut m r → (wanted ≡ false → n ≡ m) → Shut n (going_on wanted r n)
going_on_shut true r n m h e = onward_shut r n
going_on_shut false r n m h e = rw (e refl) h
