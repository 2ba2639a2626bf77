-- Laws of the plain walk. Assumes nothing.
use mathlib.Core.Path.{◌≡◌, refl, ap, ◌∙◌}
use Prim.Native.Nat.{ℕ, zero, suc, ◌+◌}
use native.Mathlib.Nat.{add-zero, add-suc}
use Rattle.std.specs.Prelude.{Ok}
use Rattle.state.specs.declared.State.{State}
use Rattle.step.specs.Step.{Moved}
use Rattle.run.specs.Walk.{onward, walk}

pub walk_first : (f : State → Moved) (n : ℕ) (s next : State) → f s ≡ Ok next → walk f (suc n) s ≡ walk f n next
unfolding walk
walk_first f zero s next e = e
walk_first f (suc n) s next e = ap (onward f) (walk_first f n s next e)

-- n steps and then m more
pub walk_more : (f : State → Moved) (n m : ℕ) (s middle : State) → walk f n s ≡ Ok middle → walk f (n + m) s ≡ walk f m middle
unfolding walk
walk_more f n zero s middle e = ap (λ (k : ℕ). walk f k s) (add-zero n) ∙ e
walk_more f n (suc m) s middle e = ap (λ (k : ℕ). walk f k s) (add-suc n m) ∙ ap (onward f) (walk_more f n m s middle e)

pub walk_none : (f : State → Moved) (s : State) → walk f 0 s ≡ Ok s
unfolding walk
walk_none f s = refl

pub walk_last : (f : State → Moved) (n : ℕ) (s last : State) → walk f n s ≡ Ok last → walk f (suc n) s ≡ f last
unfolding walk
walk_last f n s last e = ap (onward f) e
