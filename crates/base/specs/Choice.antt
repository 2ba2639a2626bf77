-- How the definitions of every crate pick a case: a test on numbers, and a choice by it.
use Rattle.std.specs.Prelude.{Bool, true, false, ℕ, leb, ltb, eqb}

infix 40 ◌<?◌ ◌≤?◌ ◌=?◌
infixr 5 if◌then◌otherwise◌
abbrev pub if◌then◌otherwise◌ {ℓ} : {A : Type ℓ} → Bool → A → A → A
if true then a otherwise b = a
if false then a otherwise b = b

abbrev pub ◌<?◌ : ℕ → ℕ → Bool
a <? b = ltb a b

abbrev pub ◌≤?◌ : ℕ → ℕ → Bool
a ≤? b = leb a b

abbrev pub ◌=?◌ : ℕ → ℕ → Bool
a =? b = eqb a b
