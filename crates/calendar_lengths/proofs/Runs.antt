-- Consecutive runs of days, years or months: f n is where run n starts, len n its length. Assumes nothing.
use mathlib.Core.Logic.{⊎_elim}
use mathlib.Core.Path.{◌≡◌, sym}
use Prim.Native.Nat.{ℕ, zero, suc, ◌+◌, ◌≤◌, ◌<◌}
use native.Mathlib.Nat.{eq-or-lt_of_le, le_of_suc-le-suc, not-suc-le-zero}
use native.Mathlib.Omega.{arith}

module _ (f len : ℕ → ℕ) (step : (n : ℕ) → f (suc n) ≡ f n + len n) where
  -- a later run starts where an earlier one has ended
  pub later : (m n : ℕ) → m < n → f m + len m ≤ f n
  later m zero h = absurd (not-suc-le-zero h)
  later m (suc n) h =
      ⊎_elim
      (λ (e : m ≡ n). rw e (omega (arith, step n)))
      (λ (l : m < n). omega (arith, step n, later m n l))
      (eq-or-lt_of_le (le_of_suc-le-suc h))

  not_earlier : (m n a b : ℕ) → a < len m → f m + a ≡ f n + b → m < n → ⊥
  not_earlier m n a b h e l = omega (arith, later m n l)

  -- a day lies in one run
  pub same_run : (m n a b : ℕ) → a < len m → b < len n → f m + a ≡ f n + b → m ≡ n
  same_run m n a b ha hb e =
      let u : m < n → ⊥ = not_earlier m n a b ha e in
      let v : n < m → ⊥ = not_earlier n m b a hb (sym e) in
      omega arith
