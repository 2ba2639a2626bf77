-- Any two results that the promise of a function of launch_turns allows are equal. Assumes nothing.
use mathlib.Core.Path.{refl}
use Rattle.launch_turns.specs.Turns.{horizontal, place_on, relative, returned}
use Rattle.base.proofs.OneAnswer.{OneAnswer, one_answer}
use Rattle.launch_turns.specs.contracts.horizontal_velocity as horizontal_velocity
use Rattle.launch_turns.specs.contracts.place_on as place_on
use Rattle.launch_turns.specs.contracts.relative_velocity as relative_velocity
use Rattle.launch_turns.specs.contracts.returned_state as returned_state

pub horizontal_velocity_answers_once : OneAnswer horizontal_velocity.ended (λ M 𝓤 𝓛. horizontal_velocity.clauses 𝓛)
horizontal_velocity_answers_once =
    one_answer (λ κs inputs. horizontal inputs.0 inputs.1.0 inputs.1.1.0) (λ M 𝓤 𝓛 mem run κs inputs g r after. refl)

pub place_on_answers_once : OneAnswer place_on.ended (λ M 𝓤 𝓛. place_on.clauses 𝓛)
place_on_answers_once =
    one_answer (λ κs inputs. place_on inputs.0 inputs.1.0 inputs.1.1.0) (λ M 𝓤 𝓛 mem run κs inputs g r after. refl)

pub relative_velocity_answers_once : OneAnswer relative_velocity.ended (λ M 𝓤 𝓛. relative_velocity.clauses 𝓛)
relative_velocity_answers_once =
    one_answer (λ κs inputs. relative inputs.0 inputs.1.0 inputs.1.1.0) (λ M 𝓤 𝓛 mem run κs inputs g r after. refl)

pub returned_state_answers_once : OneAnswer returned_state.ended (λ M 𝓤 𝓛. returned_state.clauses 𝓛)
returned_state_answers_once =
    one_answer (λ κs inputs. returned inputs.0 (record { table = inputs.1.0; w = inputs.1.1.0 }) inputs.1.1.1.0 inputs.1.1.1.1.0) (λ M 𝓤 𝓛 mem run κs inputs g r after. refl)
