-- The calls of `ask` one after the other: each is answered, or the line goes to the next. Assumes nothing.
use Prim.Native.Nat.{ℕ}
use mathlib.Core.Bool.{Bool, true, false}
use mathlib.Core.List.{List, [], ◌∷◌}
use mathlib.Core.Path.{◌≡◌, refl}
use lib.ListN.{take, drop}
use Rattle.line_form.specs.Call.{call_of, or_unreadable}
use Rattle.line_form.proofs.Reading.{is_call, no_call}
use Rattle.line_types.specs.declared.Answer.TheVariants as answer
use Rattle.line_answers.specs.Calls.{Question, answer_of, questions, root_call, sincos_call, hour_call, sidereal_call, date_call, day_call, fixed_call, turn_call}
use Rattle.line_answers.specs.Calls.{sphere_call, conic_call, orbit_call, body_call, accel_call, run_call, pull_call, inject_call, move_call, fly_call}

-- r tells whether the line is a call of the first, as its reader does
module _ {asked later : List Question} (q : Question) (e : asked ≡ q ∷ later) (line : List ℕ) (r : Bool) where
  pub is_this : (k : ℕ) (v : List ℕ) → or_unreadable r (take k v) ≡ call_of line q.name q.kinds → r ≡ true → q.answer (take k v) ≡ q.answer v → answer_of asked line ≡ q.answer v
  unfolding answer_of
  is_this k v read told t = rw (e, is_call r (take k v) (call_of line q.name q.kinds) read told) t

  pub not_this : (v : List ℕ) → or_unreadable r v ≡ call_of line q.name q.kinds → r ≡ false → answer_of asked line ≡ answer_of later line
  unfolding answer_of
  not_this v read told = rw (e, no_call r v (call_of line q.name q.kinds) read told)

pub is_none : {asked : List Question} → asked ≡ [] → (line : List ℕ) → answer_of asked line ≡ answer.Unreadable
unfolding answer_of
is_none e line = rw e

module _ (book : List ℕ) where
  pub root_row : drop 0 (questions book) ≡ root_call ∷ drop 1 (questions book)
  unfolding questions
  root_row = refl

  pub sincos_row : drop 1 (questions book) ≡ sincos_call ∷ drop 2 (questions book)
  unfolding questions
  sincos_row = refl

  pub hour_row : drop 2 (questions book) ≡ hour_call ∷ drop 3 (questions book)
  unfolding questions
  hour_row = refl

  pub sidereal_row : drop 3 (questions book) ≡ sidereal_call ∷ drop 4 (questions book)
  unfolding questions
  sidereal_row = refl

  pub date_row : drop 4 (questions book) ≡ date_call ∷ drop 5 (questions book)
  unfolding questions
  date_row = refl

  pub day_row : drop 5 (questions book) ≡ day_call ∷ drop 6 (questions book)
  unfolding questions
  day_row = refl

  pub fixed_row : drop 6 (questions book) ≡ fixed_call ∷ drop 7 (questions book)
  unfolding questions
  fixed_row = refl

  pub turn_row : drop 7 (questions book) ≡ turn_call ∷ drop 8 (questions book)
  unfolding questions
  turn_row = refl

  pub sphere_row : drop 8 (questions book) ≡ sphere_call ∷ drop 9 (questions book)
  unfolding questions
  sphere_row = refl

  pub conic_row : drop 9 (questions book) ≡ conic_call ∷ drop 10 (questions book)
  unfolding questions
  conic_row = refl

  pub orbit_row : drop 10 (questions book) ≡ orbit_call ∷ drop 11 (questions book)
  unfolding questions
  orbit_row = refl

  pub body_row : drop 11 (questions book) ≡ body_call book ∷ drop 12 (questions book)
  unfolding questions
  body_row = refl

  pub accel_row : drop 12 (questions book) ≡ accel_call book ∷ drop 13 (questions book)
  unfolding questions
  accel_row = refl

  pub run_row : drop 13 (questions book) ≡ run_call book ∷ drop 14 (questions book)
  unfolding questions
  run_row = refl

  pub pull_row : drop 14 (questions book) ≡ pull_call book ∷ drop 15 (questions book)
  unfolding questions
  pull_row = refl

  pub inject_row : drop 15 (questions book) ≡ inject_call book ∷ drop 16 (questions book)
  unfolding questions
  inject_row = refl

  pub move_row : drop 16 (questions book) ≡ move_call book ∷ drop 17 (questions book)
  unfolding questions
  move_row = refl

  pub fly_row : drop 17 (questions book) ≡ fly_call book ∷ drop 18 (questions book)
  unfolding questions
  fly_row = refl

  pub no_row : drop 18 (questions book) ≡ []
  unfolding questions
  no_row = refl
