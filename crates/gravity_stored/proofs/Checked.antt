-- What an injection that passed its checks may rely on. Assumes nothing.
use mathlib.Core.Bool.{true}
use mathlib.Core.List.{List}
use mathlib.Core.Path.{◌≡◌}
use Prim.Native.Nat.{ℕ}
use Rattle.std.specs.Prelude.{Ok}
use Rattle.state.specs.State.{centre_allowed}
use Rattle.state.specs.declared.Injection.{Injection}
use Rattle.state.specs.declared.Setting.{Setting}
use Rattle.book.specs.Passes.{passes}
use Rattle.state_checks.proofs.Passed.{passed}
use Rattle.gravity_stored.specs.Injection.{injection_checks}

pub injectable : (b : List ℕ) (setting : Setting) (i : Injection) → injection_checks b setting i ≡ Ok tt
    → (passes b ≡ true) × (centre_allowed setting i.centre ≡ true)
unfolding injection_checks
injectable b setting i e = let p = passed b setting _ _ _ e in (p.book, p.centre)
