-- Demand 3 over any list of legs. Assumes nothing.
use mathlib.Core.List.{List, [], ◌∷◌, ◌++◌}
use mathlib.Core.Path.{◌≡◌, refl, sym, ap, ◌∙◌}
use Prim.Native.Nat.{ℕ, zero, suc, ◌+◌, ◌-◌, ◌*◌, ◌/◌, ◌≤◌}
use native.Mathlib.Nat.{mul-div_cancel, zero-mul, zero-div}
use native.Mathlib.Omega.{arith}
use Rattle.base.specs.declared.Refusal.{Refusal}
use Rattle.std.specs.Prelude.{Ok, Err}
use Rattle.state.specs.declared.State.{State}
use Rattle.state.specs.declared.Setting.{Setting}
use Rattle.run_checks.specs.Start.{start_checks}
use Rattle.run_checks.proofs.Allowed.{long_enough}
use Rattle.run_checks.proofs.Passed.{passed}
use Rattle.run.specs.Step.{Moved, step}
use Rattle.run.specs.Walk.{onward, walk}
use Rattle.run.specs.Run.{run_answer}
use Rattle.run.proofs.Walks.{walk_none}
use Rattle.run_laws.specs.Journey.{Call, journey, after, AllHold}
use Rattle.run_laws.proofs.Portions.{portions}
use Rattle.centre.specs.Move.{move_answer}
use Rattle.centre_laws.specs.Legs.{Move, Leg, move_after, moves_of, walk_to, moving, walk_with_moves, MoveStands, MovesStand, none, one, MayFly, Flown, no_leg, leg, LegHolds, MoveRefused}
use Rattle.centre_laws.proofs.Moved.{move_keeps}

module _ (b : List ℕ) (setting : Setting) (h : ℕ) where
  -- a state that n steps lead to is the plain walk's at its moment
  pub at_its_moment : (s last : State) (n : ℕ) → walk (step b setting h) n s ≡ Ok last → last.moment ≡ s.moment + n * h → (1 ≤ n → 1 ≤ h)
      → walk_to b setting h last.moment s ≡ Ok last
  at_its_moment s last n walked clock long = ap (λ (k : ℕ). walk (step b setting h) k s) (many n clock long) ∙ walked
    where
      many : (n : ℕ) → last.moment ≡ s.moment + n * h → (1 ≤ n → 1 ≤ h) → (last.moment - s.moment) / h ≡ n
      many zero clock long =
          let z = zero-mul h in
          let away : last.moment - s.moment ≡ 0 = omega arith in
          ap (λ (x : ℕ). x / h) away ∙ zero-div h
      many (suc n) clock long =
          let away : last.moment - s.moment ≡ suc n * h = omega arith in
          ap (λ (x : ℕ). x / h) away ∙ mul-div_cancel (suc n) (long (omega arith))

  -- the state that calls have reached is that of the walk after that many steps
  pub record Walked (s : State) (last : State) : Type 0 where
    pub steps : ℕ
    pub walked : walk (step b setting h) steps s ≡ Ok last
    pub clock : last.moment ≡ s.moment + steps * h

  ends : (target : ℕ) (injection : State) (n : ℕ) (s : State) (calls : List Call) → walk (step b setting h) n injection ≡ Ok s
      → s.moment ≡ injection.moment + n * h
      → AllHold (step b setting h) injection h target n calls (journey b setting h target s calls) → Walked injection (after b setting h target s calls)
  ends target injection n s [] w t all = record { steps = n; walked = w; clock = t }
  ends target injection n s (call ∷ calls) w t all =
      let r = run_answer b setting s h target call.budget call.guesses in
      ends target injection (n + r.steps) r.state calls all.0.walked all.0.clock all.1

  -- calls that arrive reach the state of the plain walk at their target
  pub arrive : (target : ℕ) (s : State) (calls : List Call) → MayFly b setting h s target calls → (after b setting h target s calls).moment ≡ target
      → walk_to b setting h target s ≡ Ok (after b setting h target s calls)
  arrive target s [] may at =
      ap (λ (t : ℕ). walk_to b setting h t s) (sym at)
      ∙ at_its_moment s s 0 (walk_none (step b setting h) s) (let z = zero-mul h in omega arith) (λ some. absurd (omega arith))
  arrive target s (call ∷ calls) e at =
      let long : 2 ≤ h = long_enough h (passed b setting s h target e).length in
      let last = after b setting h target s (call ∷ calls) in
      let w = ends target s 0 s (call ∷ calls) (walk_none (step b setting h) s) (let z = zero-mul h in omega arith) (portions b setting h target s (call ∷ calls) e) in
      ap (λ (t : ℕ). walk_to b setting h t s) (sym at) ∙ at_its_moment s last w.steps w.walked w.clock (λ some. omega arith)

  -- ---- the walk with its moves

  -- one move more, at the end
  pub one_more : (moves : List Move) (move : Move) (s : State)
      → walk_with_moves b setting h (moves ++ (move ∷ [])) s
      ≡ onward (moving b setting h move) (onward (walk_to b setting h move.at) (walk_with_moves b setting h moves s))
  unfolding walk_with_moves
  one_more [] move s = nothing (onward (moving b setting h move) (walk_to b setting h move.at s))
    where
      nothing : (m : Moved) → onward (λ (s : State). Ok s) m ≡ m
      nothing (Ok s) = refl
      nothing (Err k) = refl
  one_more (first ∷ moves) move s = go (onward (moving b setting h first) (walk_to b setting h first.at s)) (one_more moves move)
    where
      go : (m : Moved)
          → ((s : State)
          → walk_with_moves b setting h (moves ++ (move ∷ [])) s
          ≡ onward (moving b setting h move) (onward (walk_to b setting h move.at) (walk_with_moves b setting h moves s)))
          → onward (walk_with_moves b setting h (moves ++ (move ∷ []))) m
          ≡ onward (moving b setting h move) (onward (walk_to b setting h move.at) (onward (walk_with_moves b setting h moves) m))
      go (Ok s) later = later s
      go (Err k) later = refl

  -- moves at their named moments are those of the walk with its moves
  pub stand_walked : (s last : State) (moves : List Move) → MovesStand b setting h s moves last → walk_with_moves b setting h moves s ≡ Ok last
  unfolding walk_with_moves
  stand_walked s last moves (none s') = refl
  stand_walked s last moves (one s' next last' move rest stands later) =
      ap (λ (m : Moved). onward (walk_with_moves b setting h rest) (onward (moving b setting h move) m)) stands.walked
      ∙ ap (onward (walk_with_moves b setting h rest)) stands.moved
      ∙ stand_walked next last rest later

  pub one_more_stands : (s from next : State) (moves : List Move) (move : Move) → MovesStand b setting h s moves from → MoveStands b setting h from move next
      → MovesStand b setting h s (moves ++ (move ∷ [])) next
  one_more_stands s from next moves move (none s') stands = one from next next move [] stands (none next)
  one_more_stands s from next moves move (one s' then last' first rest here later) stands =
      one s then next first (rest ++ (move ∷ [])) here (one_more_stands then from next rest move later stands)

  -- a move made at the state of the walk
  pub stands_there : (s before next : State) (centre : ℕ) → walk_to b setting h before.moment s ≡ Ok before → move_answer b setting before centre ≡ Ok next
      → MoveStands b setting h s (record { at = before.moment; centre = centre }) next
  stands_there s before next centre walked moved =
      let keeps = move_keeps b setting before centre next moved in
      record { before = before; walked = walked; at = refl; moved = moved; moment = keeps.0; centre = keeps.1 }

  -- ---- legs

  leg_stands : (s next : State) (l : Leg) → MayFly b setting h s l.target l.calls → (after b setting h l.target s l.calls).moment ≡ l.target
      → move_answer b setting (after b setting h l.target s l.calls) l.centre ≡ Ok next → MoveStands b setting h s (move_after l) next
  leg_stands s next l may at moved =
      let before = after b setting h l.target s l.calls in
      let keeps = move_keeps b setting before l.centre next moved in
      record { before = before; walked = arrive l.target s l.calls may at; at = at; moved = moved; moment = keeps.0 ∙ at; centre = keeps.1 }

  -- the moves of legs that were flown are at the targets of the legs
  pub flown_stand : (s last : State) (legs : List Leg) → Flown b setting h s legs last → MovesStand b setting h s (moves_of legs) last
  flown_stand s last legs (no_leg s') = none s'
  flown_stand s last legs (leg s' next last' l rest may at moved later) =
      one s next last (move_after l) (moves_of rest) (leg_stands s next l may at moved) (flown_stand next last rest later)

  all_hold : (target : ℕ) (s : State) (calls : List Call) → MayFly b setting h s target calls
      → AllHold (step b setting h) s h target 0 calls (journey b setting h target s calls)
  all_hold target s [] may = tt
  all_hold target s (call ∷ calls) may = portions b setting h target s (call ∷ calls) may

  -- demand 3 with moves
  pub legs_hold : (injection from : State) (before : List Leg) (target : ℕ) (calls : List Call) → Flown b setting h injection before from
      → MayFly b setting h from target calls → LegHolds b setting h injection before target calls
  legs_hold injection from before target calls flown may =
      let stand = flown_stand injection from before flown in
      record { start = from; walked = stand_walked injection from (moves_of before) stand; moves = stand; holds = all_hold target from calls may }

  -- and without moves, as it was: one leg
  pub one_leg : (injection : State) (target : ℕ) (calls : List Call) → start_checks b setting injection h target ≡ Ok tt → LegHolds b setting h injection [] target calls
  one_leg injection target calls checks = legs_hold injection injection [] target calls (no_leg injection) (fly calls)
    where
      fly : (calls : List Call) → MayFly b setting h injection target calls
      fly [] = tt
      fly (call ∷ calls) = checks

  -- a move that is refused
  pub refused_move : (injection from : State) (before : List Leg) (l : Leg) (k : Refusal) → Flown b setting h injection before from
      → MayFly b setting h from l.target l.calls → (after b setting h l.target from l.calls).moment ≡ l.target
      → move_answer b setting (after b setting h l.target from l.calls) l.centre ≡ Err k → MoveRefused b setting h injection before l k
  refused_move injection from before l k flown may at refused =
      let walked = stand_walked injection from (moves_of before) (flown_stand injection from before flown) in
      let there = arrive l.target from l.calls may at in
      record {
        start = from;
        walked = walked;
        there = there;
        at = at;
        off =
            one_more (moves_of before) (move_after l) injection
            ∙ ap (λ (m : Moved). onward (moving b setting h (move_after l)) (onward (walk_to b setting h l.target) m)) walked
            ∙ ap (onward (moving b setting h (move_after l))) there
            ∙ refused;
      }
