-- How an answer of `ask` is spelled: its words and numbers, in their order, as one line.
use Rattle.calendar.specs.declared.Calendar.{Calendar}
use Rattle.state.specs.declared.Vector.{Vector}
use Rattle.state.specs.declared.Injection.{Injection}
use Rattle.earth_fixed.specs.declared.EarthFixed.{EarthFixed}
use Rattle.conic.specs.declared.CentredConic.{CentredConic}
use Rattle.book.specs.declared.Motion.{Motion}
use Rattle.sine.specs.declared.SineCosine.{SineCosine}
use Rattle.std.specs.Prelude.{ℕ, List, [], ◌∷◌, ◌++◌, Result, Ok, Err, Float}
use Rattle.state.specs.declared.State.{State}
use Rattle.gravity.specs.declared.Guesses.{Guesses}
use Rattle.run.specs.declared.Outcome.{Outcome}
use Rattle.run.specs.declared.Outcome.TheVariants as outcome
use Rattle.run.specs.declared.RunAnswer.{RunAnswer}
use Rattle.conic.specs.declared.Conic.{Conic}
use Rattle.conic.specs.declared.Conic.TheVariants.{Ellipse, Hyperbola}
use Rattle.line_form.specs.Spelled.{Item, word, whole, real, refused_items}
use Rattle.line_types.specs.declared.Answer.{Answer}
use Rattle.line_types.specs.declared.Answer.TheVariants as answer

-- "ELLIPSE"
abbrev pub ellipse_word : List ℕ
ellipse_word = 69 ∷ 76 ∷ 76 ∷ 73 ∷ 80 ∷ 83 ∷ 69 ∷ []

-- "HYPERBOLA"
abbrev pub hyperbola_word : List ℕ
hyperbola_word = 72 ∷ 89 ∷ 80 ∷ 69 ∷ 82 ∷ 66 ∷ 79 ∷ 76 ∷ 65 ∷ []

-- "ARRIVED"
abbrev pub arrived_word : List ℕ
arrived_word = 65 ∷ 82 ∷ 82 ∷ 73 ∷ 86 ∷ 69 ∷ 68 ∷ []

-- "GOING"
abbrev pub going_word : List ℕ
going_word = 71 ∷ 79 ∷ 73 ∷ 78 ∷ 71 ∷ []

-- "UNREADABLE"
abbrev pub unreadable_word : List ℕ
unreadable_word = 85 ∷ 78 ∷ 82 ∷ 69 ∷ 65 ∷ 68 ∷ 65 ∷ 66 ∷ 76 ∷ 69 ∷ []

-- the items of an answer, or "REFUSED" and the number told of its refusal
abbrev pub or_refused : {A R : Type 0} → (R → ℕ) → (A → List Item) → Result A R → List Item
or_refused told items (Ok value) = items value
or_refused told items (Err k) = refused_items (told k)

abbrev pub root_items : Float → List Item
root_items y = real y ∷ []

abbrev pub sine_items : SineCosine → List Item
sine_items of = real of.sine ∷ real of.cosine ∷ []

-- an hour, or a day
abbrev pub number_items : ℕ → List Item
number_items n = whole n ∷ []

abbrev pub date_items : Calendar → List Item
date_items d = whole d.year ∷ whole d.month ∷ whole d.day ∷ []

abbrev pub fixed_items : EarthFixed → List Item
fixed_items f = real f.x ∷ real f.y ∷ real f.z ∷ real f.vx ∷ real f.vy ∷ real f.vz ∷ []

abbrev pub launched_items : Injection → List Item
launched_items i = whole i.moment ∷ real i.x ∷ real i.y ∷ real i.z ∷ real i.vx ∷ real i.vy ∷ real i.vz ∷ []

-- the kind, the centre and the five figures
abbrev pub figure_items : ℕ → Conic → List Item
figure_items centre (Ellipse a e p q far) = word ellipse_word ∷ whole centre ∷ real a ∷ real e ∷ real p ∷ real q ∷ real far ∷ []
figure_items centre (Hyperbola a e p q v) = word hyperbola_word ∷ whole centre ∷ real a ∷ real e ∷ real p ∷ real q ∷ real v ∷ []

abbrev pub conic_items : CentredConic → List Item
conic_items c = figure_items c.centre c.conic

abbrev pub position_items : Motion → List Item
position_items m =
    real m.place.x ∷ real m.place.y ∷ real m.place.z ∷ real m.velocity.x ∷ real m.velocity.y ∷ real m.velocity.z ∷ []

abbrev pub acceleration_items : Vector → List Item
acceleration_items a = real a.x ∷ real a.y ∷ real a.z ∷ []

-- X Y Z VX VY VZ
abbrev pub coordinate_items : State → List Item
coordinate_items s = real s.x ∷ real s.y ∷ real s.z ∷ real s.vx ∷ real s.vy ∷ real s.vz ∷ []

-- STATE = MOMENT CENTRE X Y Z VX VY VZ AX AY AZ
abbrev pub state_items : State → List Item
state_items s = whole s.moment ∷ whole s.centre ∷ (coordinate_items s ++ (real s.ax ∷ real s.ay ∷ real s.az ∷ []))

-- G2 .. G6
abbrev pub guess_items : Guesses → List Item
guess_items g = whole g.moon ∷ whole g.sun ∷ whole g.venus ∷ whole g.mars ∷ whole g.jupiter ∷ []

abbrev pub outcome_items : {R : Type 0} → (R → ℕ) → Outcome R → List Item
outcome_items told outcome.Arrived = word arrived_word ∷ []
outcome_items told outcome.Going = word going_word ∷ []
outcome_items told (outcome.Refused k) = refused_items (told k)

-- of the old run: the outcome, STEPS, MOMENT X Y Z VX VY VZ, and G2 .. G6
abbrev pub run_items : {R : Type 0} → (R → ℕ) → RunAnswer R → List Item
run_items told r = outcome_items told r.outcome ++ (whole r.steps ∷ whole r.state.moment ∷ (coordinate_items r.state ++ guess_items r.guesses))

-- of fly: the outcome, STEPS, STATE, and G2 .. G6
abbrev pub flown_items : {R : Type 0} → (R → ℕ) → RunAnswer R → List Item
flown_items told r = outcome_items told r.outcome ++ (whole r.steps ∷ (state_items r.state ++ guess_items r.guesses))

abbrev pub answer_items : {R : Type 0} → (R → ℕ) → Answer R → List Item
answer_items told (answer.Root a) = or_refused told root_items a
answer_items told (answer.SineCosine a) = or_refused told sine_items a
answer_items told (answer.Hour a) = or_refused told number_items a
answer_items told (answer.Date a) = or_refused told date_items a
answer_items told (answer.Day a) = or_refused told number_items a
answer_items told (answer.Fixed a) = or_refused told fixed_items a
answer_items told (answer.Launched a) = or_refused told launched_items a
answer_items told (answer.Conic a) = or_refused told conic_items a
answer_items told (answer.Position a) = or_refused told position_items a
answer_items told (answer.Acceleration a) = or_refused told acceleration_items a
answer_items told (answer.Injected a) = or_refused told state_items a
answer_items told (answer.Moved a) = or_refused told state_items a
answer_items told (answer.Run a) = run_items told a
answer_items told (answer.Flown a) = flown_items told a
answer_items told answer.Unreadable = word unreadable_word ∷ []
