-- A centre that is allowed is one of the six bodies. Assumes nothing.
use mathlib.Core.Bool.{Bool, true, false, true≢false}
use mathlib.Core.Path.{◌≡◌, refl, sym, subst, ◌∙◌}
use Prim.Native.Nat.{ℕ}
use lib.Dec.{eqb→eq, T}
use lib.Ieee.{lt, of_bits}
use Rattle.base.specs.Choice.{◌=?◌}
use Rattle.base.specs.Floats.{zero64}
use Rattle.state.specs.State.{used, coefficient_of, centre_allowed}
use Rattle.state.specs.declared.Setting.{Setting}

pub data One : ℕ → Type 0 where
  one : One 1
  two : One 2
  three : One 3
  four : One 4
  five : One 5
  six : One 6

pick : (c k : ℕ) → One k → ((c =? k) ≡ false → One c) → One c
pick c k here otherwise = go (c =? k) refl
  where
    go : (is : Bool) → (c =? k) ≡ is → One c
    go true is = subst One (sym (eqb→eq c k (subst T (sym is) tt))) here
    go false is = otherwise is

no_body : used zero64 ≡ false
unfolding lt of_bits
no_body = refl

pub centre_one : (s : Setting) (c : ℕ) → centre_allowed s c ≡ true → One c
unfolding centre_allowed coefficient_of
centre_one s c ok =
    pick c 1 one
    (λ a. pick c 2 two
    (λ b. pick c 3 three
    (λ d. pick c 4 four
    (λ e. pick c 5 five
    (λ f. pick c 6 six
    (λ g. absurd (true≢false (sym ok ∙ rw (a, b, d, e, f, g) no_body))))))))
