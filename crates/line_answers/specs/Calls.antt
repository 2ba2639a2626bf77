-- What `ask` answers to a line, by the book that it has: one definition of the line and the book.
use Rattle.std.specs.Prelude.{ℕ, ◌+◌, List, [], ◌∷◌, ◌++◌}
use Rattle.base.specs.declared.Refusal.{Refusal}
use Rattle.calendar.specs.Answers.{date_answer, day_answer}
use Rattle.hour.specs.Hour.{hour_answer, sidereal_answer}
use Rattle.root.specs.Root.{root_answer}
use Rattle.sine.specs.Sine.{sine_cosine_answer}
use Rattle.book.specs.Position.{position_answer}
use Rattle.state.specs.declared.Setting.{Setting}
use Rattle.state.specs.declared.State.{State}
use Rattle.gravity.specs.Acceleration.{acceleration_answer}
use Rattle.gravity_stored.specs.Injection.{injection_answer, launched}
use Rattle.run.specs.Run.{run_answer}
use Rattle.run.specs.declared.RunAnswer.{RunAnswer}
use Rattle.centre.specs.Move.{move_answer}
use Rattle.earth_fixed.specs.Fixed.{fixed_answer}
use Rattle.launch.specs.Sphere.{sphere_answer}
use Rattle.conic.specs.Conic.{conic_answer}
use Rattle.line_form.specs.Call.{Call, These, Unreadable, call_of}
use Rattle.line_values.specs.Values.{number, nth_float, narrow, vector_from, injection_from, state_from, unkept_from, old_setting, setting_from, guesses_from, sphere_from}
use Rattle.line_types.specs.declared.Answer.{Answer}
use Rattle.line_types.specs.declared.Answer.TheVariants as answer

-- ---- the kinds of a field (line_form)

-- a decimal
abbrev pub D : ℕ
D = 68

-- one of 32 bits
abbrev pub S : ℕ
S = 83

-- one that may carry a minus sign
abbrev pub N : ℕ
N = 78

-- a float
abbrev pub F : ℕ
F = 70

-- SETTING = C1 .. C6 DUT J A K RULE
abbrev pub setting_kinds : List ℕ
setting_kinds = F ∷ F ∷ F ∷ F ∷ F ∷ F ∷ S ∷ F ∷ F ∷ F ∷ D ∷ []

-- STATE = MOMENT CENTRE X Y Z VX VY VZ AX AY AZ
abbrev pub state_kinds : List ℕ
state_kinds = D ∷ D ∷ F ∷ F ∷ F ∷ F ∷ F ∷ F ∷ F ∷ F ∷ F ∷ []

-- G2 .. G6
abbrev pub guess_kinds : List ℕ
guess_kinds = D ∷ D ∷ D ∷ D ∷ D ∷ []

-- ---- the calls

-- A call that `ask` knows: its name, the kinds of its fields, and its answer to their numbers. RULES.md has the form of each line.
pub record Question : Type 0 where
  pub name : List ℕ
  pub kinds : List ℕ
  pub answer : List ℕ → Answer Refusal

-- H TARGET BUDGET G2 .. G6 from a field on: the run from a state
abbrev pub run_from : List ℕ → Setting → State → List ℕ → ℕ → RunAnswer Refusal
run_from book setting state v i =
    run_answer book setting state (narrow (number v i)) (number v (i + 1)) (narrow (number v (i + 2))) (guesses_from v (i + 3))

-- "root": root X
abbrev pub root_call : Question
root_call =
    record {
      name = 114 ∷ 111 ∷ 111 ∷ 116 ∷ [];
      kinds = F ∷ [];
      answer = λ v. answer.Root (root_answer (nth_float v 0));
    }

-- "sincos": sincos PARTS
abbrev pub sincos_call : Question
sincos_call =
    record {
      name = 115 ∷ 105 ∷ 110 ∷ 99 ∷ 111 ∷ 115 ∷ [];
      kinds = D ∷ [];
      answer = λ v. answer.SineCosine (sine_cosine_answer (number v 0));
    }

-- "hour": hour MOMENT DUT
abbrev pub hour_call : Question
hour_call =
    record {
      name = 104 ∷ 111 ∷ 117 ∷ 114 ∷ [];
      kinds = D ∷ S ∷ [];
      answer = λ v. answer.Hour (hour_answer (number v 0) (narrow (number v 1)));
    }

-- "sidereal": sidereal RULE MOMENT DUT
abbrev pub sidereal_call : Question
sidereal_call =
    record {
      name = 115 ∷ 105 ∷ 100 ∷ 101 ∷ 114 ∷ 101 ∷ 97 ∷ 108 ∷ [];
      kinds = D ∷ D ∷ S ∷ [];
      answer = λ v. answer.Hour (sidereal_answer (number v 0) (number v 1) (narrow (number v 2)));
    }

-- "date": date DAY
abbrev pub date_call : Question
date_call =
    record {
      name = 100 ∷ 97 ∷ 116 ∷ 101 ∷ [];
      kinds = D ∷ [];
      answer = λ v. answer.Date (date_answer (number v 0));
    }

-- "day": day YEAR MONTH DAY
abbrev pub day_call : Question
day_call =
    record {
      name = 100 ∷ 97 ∷ 121 ∷ [];
      kinds = D ∷ D ∷ D ∷ [];
      answer = λ v. answer.Day (day_answer (number v 0) (number v 1) (number v 2));
    }

-- "fixed": fixed DUT MOMENT X Y Z VX VY VZ
abbrev pub fixed_call : Question
fixed_call =
    record {
      name = 102 ∷ 105 ∷ 120 ∷ 101 ∷ 100 ∷ [];
      kinds = S ∷ D ∷ F ∷ F ∷ F ∷ F ∷ F ∷ F ∷ [];
      answer = λ v. answer.Fixed (fixed_answer 0 (narrow (number v 0)) (unkept_from v (number v 1) 2));
    }

-- "turn": turn RULE DUT STATE
abbrev pub turn_call : Question
turn_call =
    record {
      name = 116 ∷ 117 ∷ 114 ∷ 110 ∷ [];
      kinds = D ∷ S ∷ state_kinds;
      answer = λ v. answer.Fixed (fixed_answer (number v 0) (narrow (number v 1)) (state_from v 2));
    }

-- "sphere": sphere RULE DUT MOMENT RADIUS LAT LON SPEED PATH AZ
abbrev pub sphere_call : Question
sphere_call =
    record {
      name = 115 ∷ 112 ∷ 104 ∷ 101 ∷ 114 ∷ 101 ∷ [];
      kinds = D ∷ S ∷ D ∷ F ∷ N ∷ D ∷ F ∷ N ∷ D ∷ [];
      answer = λ v. answer.Launched (sphere_answer (sphere_from v) (number v 0) (number v 2) (narrow (number v 1)));
    }

-- "conic": conic M X Y Z VX VY VZ
abbrev pub conic_call : Question
conic_call =
    record {
      name = 99 ∷ 111 ∷ 110 ∷ 105 ∷ 99 ∷ [];
      kinds = F ∷ F ∷ F ∷ F ∷ F ∷ F ∷ F ∷ [];
      answer = λ v. answer.Conic (conic_answer (nth_float v 0) (unkept_from v 0 1));
    }

-- "orbit": orbit M STATE
abbrev pub orbit_call : Question
orbit_call =
    record {
      name = 111 ∷ 114 ∷ 98 ∷ 105 ∷ 116 ∷ [];
      kinds = F ∷ state_kinds;
      answer = λ v. answer.Conic (conic_answer (nth_float v 0) (state_from v 1));
    }

-- "body": body NUMBER MOMENT
abbrev pub body_call : List ℕ → Question
body_call book =
    record {
      name = 98 ∷ 111 ∷ 100 ∷ 121 ∷ [];
      kinds = D ∷ D ∷ [];
      answer = λ v. answer.Position (position_answer book (number v 0) (number v 1));
    }

-- "accel": accel C1 .. C6 DUT MOMENT X Y Z
abbrev pub accel_call : List ℕ → Question
accel_call book =
    record {
      name = 97 ∷ 99 ∷ 99 ∷ 101 ∷ 108 ∷ [];
      kinds = F ∷ F ∷ F ∷ F ∷ F ∷ F ∷ S ∷ D ∷ F ∷ F ∷ F ∷ [];
      answer = λ v. answer.Acceleration (acceleration_answer book (old_setting v) 1 (number v 7) (vector_from v 8));
    }

-- "run": run C1 .. C6 DUT MOMENT X Y Z VX VY VZ H TARGET BUDGET G2 .. G6
abbrev pub run_call : List ℕ → Question
run_call book =
    record {
      name = 114 ∷ 117 ∷ 110 ∷ [];
      kinds = F ∷ F ∷ F ∷ F ∷ F ∷ F ∷ S ∷ D ∷ F ∷ F ∷ F ∷ F ∷ F ∷ F ∷ S ∷ D ∷ S ∷ guess_kinds;
      answer = λ v. answer.Run (run_from book (old_setting v) (launched book (old_setting v) (injection_from v (number v 7) 1 8)) v 14);
    }

-- "pull": pull SETTING MOMENT CENTRE X Y Z
abbrev pub pull_call : List ℕ → Question
pull_call book =
    record {
      name = 112 ∷ 117 ∷ 108 ∷ 108 ∷ [];
      kinds = setting_kinds ++ (D ∷ D ∷ F ∷ F ∷ F ∷ []);
      answer = λ v. answer.Acceleration (acceleration_answer book (setting_from v) (number v 12) (number v 11) (vector_from v 13));
    }

-- "inject": inject SETTING MOMENT CENTRE X Y Z VX VY VZ
abbrev pub inject_call : List ℕ → Question
inject_call book =
    record {
      name = 105 ∷ 110 ∷ 106 ∷ 101 ∷ 99 ∷ 116 ∷ [];
      kinds = setting_kinds ++ (D ∷ D ∷ F ∷ F ∷ F ∷ F ∷ F ∷ F ∷ []);
      answer = λ v. answer.Injected (injection_answer book (setting_from v) (injection_from v (number v 11) (number v 12) 13));
    }

-- "move": move SETTING STATE NEW
abbrev pub move_call : List ℕ → Question
move_call book =
    record {
      name = 109 ∷ 111 ∷ 118 ∷ 101 ∷ [];
      kinds = setting_kinds ++ (state_kinds ++ (D ∷ []));
      answer = λ v. answer.Moved (move_answer book (setting_from v) (state_from v 11) (number v 22));
    }

-- "fly": fly SETTING STATE H TARGET BUDGET G2 .. G6
abbrev pub fly_call : List ℕ → Question
fly_call book =
    record {
      name = 102 ∷ 108 ∷ 121 ∷ [];
      kinds = setting_kinds ++ (state_kinds ++ (S ∷ D ∷ S ∷ guess_kinds));
      answer = λ v. answer.Flown (run_from book (setting_from v) (state_from v 11) v 22);
    }

-- ---- the answer

-- the answer to the numbers of a call; a line that is no such call goes to the later ones
abbrev pub or_else : Call → (List ℕ → Answer Refusal) → Answer Refusal → Answer Refusal
or_else (These v) answered later = answered v
or_else Unreadable answered later = later

-- the answer of the first that the line is a call of, or UNREADABLE
unfoldable pub answer_of : List Question → List ℕ → Answer Refusal
answer_of [] line = answer.Unreadable
answer_of (q ∷ qs) line = or_else (call_of line q.name q.kinds) q.answer (answer_of qs line)

unfoldable pub questions : List ℕ → List Question
questions book =
    root_call
    ∷ sincos_call
    ∷ hour_call
    ∷ sidereal_call
    ∷ date_call
    ∷ day_call
    ∷ fixed_call
    ∷ turn_call
    ∷ sphere_call
    ∷ conic_call
    ∷ orbit_call
    ∷ body_call book
    ∷ accel_call book
    ∷ run_call book
    ∷ pull_call book
    ∷ inject_call book
    ∷ move_call book
    ∷ fly_call book
    ∷ []

abbrev pub answer_to : List ℕ → List ℕ → Answer Refusal
answer_to book line = answer_of (questions book) line
