-- `root_known::inner::same_above_zero` meets its contract. Assumes nothing.
use mathlib.Core.Path.{◌≡◌, sym, subst}
use mathlib.Core.Bool.{Bool, true, ◌&&◌}
use lib.Dec.{T}
use Rattle.root_known.proofs.OneFloat.{one_float}
use Rattle.root_known.proofs.inner.same_above_zero.Goals as goal

yes : (p q : Bool) → p ≡ true → q ≡ true → true ≡ (p && q)
yes p q h k = rw (h, k)

pub returns-then-a-b : goal.returns-then-a-b
returns-then-a-b c = let start = c.before in
    let one = one_float start.args.a start.args.b (subst T (sym start.well_formed.0.1) tt) (subst T (sym start.well_formed.1.0.1) tt) c.if-a.true c.if-a-b.true in
    (yes _ _ c.if-a.true c.if-a-b.true, (λ e. one))
