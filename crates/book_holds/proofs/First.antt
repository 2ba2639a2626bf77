-- What is known of the first number that meets a test. Assumes nothing.
use Prim.Native.Nat.{ℕ, zero, suc, ◌<◌}
use mathlib.Core.Bool.{Bool, true, false}
use mathlib.Core.Logic.{⊎_elim}
use mathlib.Core.Path.{◌≡◌, refl, sym, subst, ◌∙◌}
use native.Mathlib.Nat.{eq-or-lt_of_le, le_of_suc-le-suc, not-suc-le-zero}
use native.Mathlib.Omega.{arith}
use Rattle.std.specs.Prelude.{Option, Some, None}
use Rattle.base.specs.Choice.{if◌then◌otherwise◌}
use Rattle.book.specs.Lookup.{or_else, first_below}

one_more : (n : ℕ) (test : ℕ → Bool) → ((k : ℕ) → k < n → test k ≡ false) → test n ≡ false → (k : ℕ) → k < suc n → test k ≡ false
one_more n test before last k l =
    ⊎_elim (λ e. subst (λ (m : ℕ). test m ≡ false) (sym e) last) (λ lt. before k lt) (eq-or-lt_of_le (le_of_suc-le-suc l))

-- if there is none, none meets it
pub none_meets : (n : ℕ) (test : ℕ → Bool) → first_below n test ≡ None → (k : ℕ) → k < n → test k ≡ false
none_meets zero test h = λ k l. absurd (not-suc-le-zero l)
none_meets (suc n) test h = by (first_below n test) (test n) refl refl (none_meets n test) h
  where
    by : (earlier : Option ℕ) (now : Bool) → first_below n test ≡ earlier → test n ≡ now
        → (first_below n test ≡ None → (k : ℕ) → k < n → test k ≡ false) → or_else earlier (if now then Some n otherwise None) ≡ None
        → (k : ℕ) → k < suc n → test k ≡ false
    by (Some j) now e t before h = let z : ◌≡◌ {A = ℕ} 0 1 = cc in absurd (omega arith)
    by None true e t before h = let z : ◌≡◌ {A = ℕ} 0 1 = cc in absurd (omega arith)
    by None false e t before h = one_more n test (before e) t

-- if there is one, none before it meets it
pub none_before : (n : ℕ) (test : ℕ → Bool) (i : ℕ) → first_below n test ≡ Some i → (k : ℕ) → k < i → test k ≡ false
none_before zero test i h = let z : ◌≡◌ {A = ℕ} 0 1 = cc in absurd (omega arith)
none_before (suc n) test i h = by (first_below n test) (test n) refl refl (none_before n test i) h
  where
    by : (earlier : Option ℕ) (now : Bool) → first_below n test ≡ earlier → test n ≡ now
        → (first_below n test ≡ Some i → (k : ℕ) → k < i → test k ≡ false) → or_else earlier (if now then Some n otherwise None) ≡ Some i
        → (k : ℕ) → k < i → test k ≡ false
    by (Some j) now e t before h = before (e ∙ h)
    by None true e t before h = λ k l. let same : n ≡ i = cc in none_meets n test e k (omega arith)
    by None false e t before h = let z : ◌≡◌ {A = ℕ} 0 1 = cc in absurd (omega arith)
