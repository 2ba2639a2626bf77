-- Accelerations, injections, moves and steps under a fuller book. Assumes nothing.
use mathlib.Core.Bool.{Bool, true, ◌&&◌}
use mathlib.Core.List.{List}
use mathlib.Core.Logic.{inl, inr}
use mathlib.Core.Path.{◌≡◌, refl, sym, ap, ◌∙◌, subst}
use Prim.Native.Nat.{ℕ, ◌+◌, ◌/◌}
use Rattle.base.specs.declared.Refusal.{Refusal}
use Rattle.book.specs.declared.Motion.{Motion}
use Rattle.std.specs.Prelude.{Result, Ok, Err, Option, Some, None}
use Rattle.base.specs.Choice.{◌=?◌}
use Rattle.base.specs.Limits.{is_moment}
use Rattle.state.specs.State.{position, velocity, acceleration, injection_at, starting_position, bare, finite_vector, finite_injection, centre_allowed}
use Rattle.state.specs.declared.Vector.{Vector}
use Rattle.state.specs.declared.State.{State}
use Rattle.state.specs.declared.Injection.{Injection}
use Rattle.state.specs.declared.Setting.{Setting}
use Rattle.state_checks.specs.Common.{common_checks}
use Rattle.state_checks.proofs.Passed as common
use Rattle.book.specs.Passes.{passes}
use Rattle.book.specs.Lookup.{lookup}
use Rattle.book_series.specs.Series.{Content, place_in, velocity_in}
use Rattle.book_series.specs.Series.{place as entry_IsPlace, velocity as entry-velocity}
use Rattle.gravity.specs.Acceleration.{at_rest, acceleration_at, acceleration_answer}
use Rattle.gravity_stored.specs.Injection.{rule_at, kept_by, kept, injection_checks, injection_answer, stored_check_by, stored_check}
use Rattle.gravity_stored.proofs.Checked.{injectable}
use Rattle.centre.specs.Move.{motion_by, motion_of, shifted, kept_or7, move_by, move_of, move_checks, move_answer}
use Rattle.centre.proofs.Moves.{may_move}
use Rattle.run.specs.Step.{Moved, and_then, along, weighed, half, sixth, step_h, arrive, keeping, step}
use Rattle.run.specs.Stages.{velocity2, velocity3, velocity4, lastly, stage2, stage3, stage4}
use Rattle.book_laws.specs.Fuller.{HoldsAll, Unless}
use Rattle.book_laws.proofs.Carried.{carried, checked, passed, past}
use Rattle.book_laws.proofs.Books.{also_found}
use Rattle.book_laws.proofs.Rule.{rule_fuller}

-- the common checks read only `passes` of a book
pub same_common : (b c : List ℕ) → passes b ≡ true → passes c ≡ true → (s : Setting) (centred timed finite : Bool)
    → common_checks b s centred timed finite ≡ common_checks c s centred timed finite
unfolding common_checks
same_common b c first second s centred timed finite = rw (first, second)

module _ (b c : List ℕ) (holds : HoldsAll b c) (first : passes b ≡ true) (second : passes c ≡ true) where
  -- ---- the acceleration call

  pub acceleration_fuller : (s : Setting) (centre t : ℕ) (P : Vector)
      → Unless (Err Refusal.Cover) (acceleration_answer b s centre t P) (acceleration_answer c s centre t P)
  unfolding acceleration_answer
  acceleration_fuller s centre t P =
      let checks = common_checks c s (centre_allowed s centre) (is_moment t) (finite_vector P) in
      rw (same_common b c first second s (centre_allowed s centre) (is_moment t) (finite_vector P))
      (past checks (Err Refusal.Cover) _ _ (λ none. rule_fuller b c holds second s centre t P (common.passed c s _ _ _ none).centre))

  -- ---- injections

  pub kept_fuller : (setting : Setting) (i : Injection) → centre_allowed setting i.centre ≡ true
      → Unless (Err Refusal.Cover) (kept b setting i) (kept c setting i)
  unfolding kept
  kept_fuller setting i ok =
      carried (kept_by i) (Err Refusal.Cover) (rule_at b setting i) (rule_at c setting i) (Err Refusal.Cover) refl
      (rule_fuller b c holds second setting i.centre i.moment (starting_position i) ok)

  same_checks : (setting : Setting) (i : Injection) → injection_checks b setting i ≡ injection_checks c setting i
  unfolding injection_checks
  same_checks setting i = same_common b c first second setting _ _ _

  pub injection_fuller : (setting : Setting) (i : Injection) → Unless (Err Refusal.Cover) (injection_answer b setting i) (injection_answer c setting i)
  unfolding injection_answer
  injection_fuller setting i =
      rw (same_checks setting i)
      (past (injection_checks c setting i) (Err Refusal.Cover) _ _ (λ none. kept_fuller setting i (injectable c setting i none).1))

  -- the acceleration stored with a state, checked under both books
  pub stored_fuller : (setting : Setting) (s : State) → centre_allowed setting s.centre ≡ true → Unless (Err Refusal.Cover) (stored_check b setting s) (stored_check c setting s)
  unfolding stored_check
  stored_fuller setting s ok =
      carried (stored_check_by s) (Err Refusal.Cover) (rule_at b setting (bare s)) (rule_at c setting (bare s)) (Err Refusal.Cover) refl
      (rule_fuller b c holds second setting s.centre s.moment (position s) ok)

  -- ---- moves

  motion_fuller : (number t : ℕ) → Unless None (motion_of b number t) (motion_of c number t)
  unfolding motion_of entry_IsPlace entry-velocity
  motion_fuller number t = checked (number =? 1) (Some at_rest) None _ _ (λ other. go (lookup b number t) refl)
    where
      go : (l : Option ℕ) → lookup b number t ≡ l → Unless None (motion_by b t (lookup b number t)) (motion_by c t (lookup c number t))
      go None e = inl (ap (motion_by b t) e)
      go (Some i) e =
          let a = also_found b c holds second number t i e in
          inr (ap (motion_by b t) e ∙ ap (λ (x : Content). Some (record { place = place_in x t; velocity = velocity_in x t })) a.content ∙ sym (ap (motion_by c t) a.is))

  end_fuller : (setting : Setting) (i : Injection) → centre_allowed setting i.centre ≡ true
      → Unless (Err Refusal.Cover) (kept_or7 b setting i) (kept_or7 c setting i)
  end_fuller setting i ok =
      passed (finite_injection i) (Err Refusal.NotFinite) (Err Refusal.Cover) _ _
      (λ fin. kept_fuller setting i ok)

  module _ (setting : Setting) (s : State) (to : ℕ) (ok : centre_allowed setting to ≡ true) where
    both_seen : (old new : Option Motion) → Unless (Err Refusal.Cover) (move_by b setting s to old new) (move_by c setting s to old new)
    unfolding shifted
    both_seen (Some old) (Some new) = end_fuller setting (shifted s to old new) ok
    both_seen (Some old) None = inr refl
    both_seen None new = inr refl

    new_gap : (old : Option Motion) → move_by b setting s to old None ≡ Err Refusal.Cover
    new_gap (Some old) = refl
    new_gap None = refl

    by_seen : (old old' new new' : Option Motion) → Unless None old old' → Unless None new new'
        → Unless (Err Refusal.Cover) (move_by b setting s to old new) (move_by c setting s to old' new')
    by_seen old old' new new' (inl e) u = inl (ap (λ (x : Option Motion). move_by b setting s to x new) e)
    by_seen old old' new new' (inr e) (inl g) = inl (ap (move_by b setting s to old) g ∙ new_gap old)
    by_seen old old' new new' (inr e) (inr g) =
        subst (λ (x : Option Motion). Unless (Err Refusal.Cover) (move_by b setting s to old new) (move_by c setting s to x new')) e
        (subst (λ (x : Option Motion). Unless (Err Refusal.Cover) (move_by b setting s to old new) (move_by c setting s to old x)) g (both_seen old new))

    of_fuller : Unless (Err Refusal.Cover) (move_of b setting s to) (move_of c setting s to)
    unfolding move_of
    of_fuller =
        checked (s.centre =? to) (Ok s) (Err Refusal.Cover) _ _
        (λ other. by_seen _ _ _ _ (motion_fuller s.centre s.moment) (motion_fuller to s.moment))

  same_move_checks : (setting : Setting) (s : State) (to : ℕ) → move_checks b setting s to ≡ move_checks c setting s to
  unfolding move_checks
  same_move_checks setting s to = same_common b c first second setting _ _ _

  pub move_fuller : (setting : Setting) (s : State) (to : ℕ) → Unless (Err Refusal.Cover) (move_answer b setting s to) (move_answer c setting s to)
  unfolding move_answer
  move_fuller setting s to =
      rw (same_move_checks setting s to)
      (past (move_checks c setting s to) (Err Refusal.Cover) _ _ (λ none. of_fuller setting s to (may_move c setting s to none).1))

-- ---- one step, over two accelerations

module _ (acc acc' : ℕ → Vector → Result Vector Refusal) (each : (t : ℕ) (P : Vector) → Unless (Err Refusal.Cover) (acc t P) (acc' t P)) where
  then_fuller : (q q' : Result Vector Refusal) (next next' : Vector → Moved) → Unless (Err Refusal.Cover) q q' → ((a : Vector) → Unless (Err Refusal.Cover) (next a) (next' a))
      → Unless (Err Refusal.Cover) (and_then q next) (and_then q' next')
  then_fuller q q' next next' (inl e) rest = inl (ap (λ (x : Result Vector Refusal). and_then x next) e)
  then_fuller q q' next next' (inr e) rest = subst (λ (x : Result Vector Refusal). Unless (Err Refusal.Cover) (and_then q next) (and_then x next')) e (go q)
    where
      go : (q : Result Vector Refusal) → Unless (Err Refusal.Cover) (and_then q next) (and_then q next')
      go (Ok a) = rest a
      go (Err k) = inr refl

  keeping_fuller : (i : Injection) → Unless (Err Refusal.Cover) (keeping acc i) (keeping acc' i)
  keeping_fuller i =
      carried (λ (q : Result Vector Refusal). kept_by i q) (Err Refusal.Cover) (acc i.moment (starting_position i)) (acc' i.moment (starting_position i)) (Err Refusal.Cover) refl
      (each i.moment (starting_position i))

  module _ (h : ℕ) (s : State) where
    arrive_fuller : (t centre : ℕ) (p v : Vector) → Unless (Err Refusal.Cover) (arrive (keeping acc) t centre p v) (arrive (keeping acc') t centre p v)
    arrive_fuller t centre p v =
        passed (finite_vector p && finite_vector v) (Err Refusal.NotFinite) (Err Refusal.Cover) (keeping acc (injection_at t centre p v)) (keeping acc' (injection_at t centre p v))
        (λ fin. keeping_fuller (injection_at t centre p v))

    last_fuller : (a1 a2 a3 a4 : Vector) → Unless (Err Refusal.Cover) (lastly (keeping acc) h s a1 a2 a3 a4) (lastly (keeping acc') h s a1 a2 a3 a4)
    last_fuller a1 a2 a3 a4 =
        arrive_fuller (s.moment + h) s.centre
        (along (position s) (sixth h) (weighed (velocity s) (velocity2 h s a1) (velocity3 h s a2) (velocity4 h s a3)))
        (along (velocity s) (sixth h) (weighed a1 a2 a3 a4))

    fourth : (a1 a2 a3 : Vector) → Unless (Err Refusal.Cover) (stage4 acc (keeping acc) h s a1 a2 a3) (stage4 acc' (keeping acc') h s a1 a2 a3)
    fourth a1 a2 a3 =
        let P = along (position s) (step_h h) (velocity3 h s a2) in
        then_fuller (acc (s.moment + h) P) (acc' (s.moment + h) P) (lastly (keeping acc) h s a1 a2 a3) (lastly (keeping acc') h s a1 a2 a3)
        (each (s.moment + h) P) (last_fuller a1 a2 a3)

    third : (a1 a2 : Vector) → Unless (Err Refusal.Cover) (stage3 acc (keeping acc) h s a1 a2) (stage3 acc' (keeping acc') h s a1 a2)
    third a1 a2 =
        let P = along (position s) (half h) (velocity2 h s a1) in
        then_fuller (acc (s.moment + h / 2) P) (acc' (s.moment + h / 2) P) (stage4 acc (keeping acc) h s a1 a2) (stage4 acc' (keeping acc') h s a1 a2)
        (each (s.moment + h / 2) P) (fourth a1 a2)

    second_stage : (a1 : Vector) → Unless (Err Refusal.Cover) (stage2 acc (keeping acc) h s a1) (stage2 acc' (keeping acc') h s a1)
    second_stage a1 =
        let P = along (position s) (half h) (velocity s) in
        then_fuller (acc (s.moment + h / 2) P) (acc' (s.moment + h / 2) P) (stage3 acc (keeping acc) h s a1) (stage3 acc' (keeping acc') h s a1)
        (each (s.moment + h / 2) P) (third a1)

pub step_fuller : (b c : List ℕ) → HoldsAll b c → passes c ≡ true → (setting : Setting) (h : ℕ) (s : State) → centre_allowed setting s.centre ≡ true
    → Unless (Err Refusal.Cover) (step b setting h s) (step c setting h s)
unfolding step
step_fuller b c holds pass setting h s ok =
    second_stage (acceleration_at b setting s.centre) (acceleration_at c setting s.centre)
    (λ t P. rule_fuller b c holds pass setting s.centre t P ok) h s (acceleration s)
