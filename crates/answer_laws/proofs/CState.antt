-- Any two results that the promise of a function of c_state allows are equal. Assumes nothing.
use mathlib.Core.Path.{refl}
use Rattle.c_state.specs.Groups.{coordinates_in, injection_of, setting_of, start_in, state_of, unkept_of, vector_in, vector_of, whole_in}
use Rattle.base.proofs.OneAnswer.{OneAnswer, one_answer}
use Rattle.c_state.specs.contracts.coordinates_in as coordinates_in
use Rattle.c_state.specs.contracts.injection_of as injection_of
use Rattle.c_state.specs.contracts.setting_of as setting_of
use Rattle.c_state.specs.contracts.start_in as start_in
use Rattle.c_state.specs.contracts.state_of as state_of
use Rattle.c_state.specs.contracts.unkept_of as unkept_of
use Rattle.c_state.specs.contracts.vector_in as vector_in
use Rattle.c_state.specs.contracts.vector_of as vector_of
use Rattle.c_state.specs.contracts.whole_in as whole_in

pub injection_of_answers_once : OneAnswer injection_of.ended (λ M 𝓤 𝓛. injection_of.clauses 𝓛)
injection_of_answers_once =
    one_answer (λ κs inputs. injection_of inputs.0 inputs.1.0 inputs.1.1.0) (λ M 𝓤 𝓛 mem run κs inputs g r after. refl)

pub setting_of_answers_once : OneAnswer setting_of.ended (λ M 𝓤 𝓛. setting_of.clauses 𝓛)
setting_of_answers_once =
    one_answer (λ κs inputs. setting_of inputs.0 inputs.1.0 inputs.1.1.0 inputs.1.1.1.0) (λ M 𝓤 𝓛 mem run κs inputs g r after. refl)

pub state_of_answers_once : OneAnswer state_of.ended (λ M 𝓤 𝓛. state_of.clauses 𝓛)
state_of_answers_once =
    one_answer (λ κs inputs. state_of inputs.0 inputs.1.0 inputs.1.1.0) (λ M 𝓤 𝓛 mem run κs inputs g r after. refl)

pub unkept_of_answers_once : OneAnswer unkept_of.ended (λ M 𝓤 𝓛. unkept_of.clauses 𝓛)
unkept_of_answers_once =
    one_answer (λ κs inputs. unkept_of inputs.0 inputs.1.0 inputs.1.1.0) (λ M 𝓤 𝓛 mem run κs inputs g r after. refl)

pub vector_of_answers_once : OneAnswer vector_of.ended (λ M 𝓤 𝓛. vector_of.clauses 𝓛)
vector_of_answers_once =
    one_answer (λ κs inputs. vector_of inputs.0) (λ M 𝓤 𝓛 mem run κs inputs g r after. refl)

pub vector_in_answers_once : OneAnswer vector_in.ended (λ M 𝓤 𝓛. vector_in.clauses 𝓛)
vector_in_answers_once =
    one_answer (λ κs inputs. vector_in inputs.0) (λ M 𝓤 𝓛 mem run κs inputs g r after. refl)

pub start_in_answers_once : OneAnswer start_in.ended (λ M 𝓤 𝓛. start_in.clauses 𝓛)
start_in_answers_once =
    one_answer (λ κs inputs. start_in inputs.0) (λ M 𝓤 𝓛 mem run κs inputs g r after. refl)

pub coordinates_in_answers_once : OneAnswer coordinates_in.ended (λ M 𝓤 𝓛. coordinates_in.clauses 𝓛)
coordinates_in_answers_once =
    one_answer (λ κs inputs. coordinates_in inputs.0) (λ M 𝓤 𝓛 mem run κs inputs g r after. refl)

pub whole_in_answers_once : OneAnswer whole_in.ended (λ M 𝓤 𝓛. whole_in.clauses 𝓛)
whole_in_answers_once =
    one_answer (λ κs inputs. whole_in inputs.0) (λ M 𝓤 𝓛 mem run κs inputs g r after. refl)
