-- Any two results that the promise of a function of state allows are equal. Assumes nothing.
use mathlib.Core.Path.{refl}
use Rattle.state.specs.State.{acceleration, carrying, centre_allowed, coefficient_of, finite_injection, finite_state, finite_vector, n, position, same_vector}
use Rattle.state.specs.State.{setting_allowed, starting_position, used, velocity}
use Rattle.base.proofs.OneAnswer.{OneAnswer, one_answer}
use Rattle.state.specs.contracts.acceleration_of as acceleration_of
use Rattle.state.specs.contracts.carrying as carrying
use Rattle.state.specs.contracts.centre_is_allowed as centre_is_allowed
use Rattle.state.specs.contracts.coefficient_of as coefficient_of
use Rattle.state.specs.contracts.injection_is_finite as injection_is_finite
use Rattle.state.specs.contracts.position_of as position_of
use Rattle.state.specs.contracts.setting_is_allowed as setting_is_allowed
use Rattle.state.specs.contracts.square as square
use Rattle.state.specs.contracts.starting_position as starting_position
use Rattle.state.specs.contracts.state_is_finite as state_is_finite
use Rattle.state.specs.contracts.sun_shines as sun_shines
use Rattle.state.specs.contracts.vector_is_finite as vector_is_finite
use Rattle.state.specs.contracts.vectors_agree as vectors_agree
use Rattle.state.specs.contracts.velocity_of as velocity_of

pub acceleration_of_answers_once : OneAnswer acceleration_of.ended (λ M 𝓤 𝓛. acceleration_of.clauses 𝓛)
acceleration_of_answers_once =
    one_answer (λ κs inputs. acceleration inputs.0) (λ M 𝓤 𝓛 mem run κs inputs g r after. refl)

pub carrying_answers_once : OneAnswer carrying.ended (λ M 𝓤 𝓛. carrying.clauses 𝓛)
carrying_answers_once =
    one_answer (λ κs inputs. carrying inputs.0 inputs.1.0) (λ M 𝓤 𝓛 mem run κs inputs g r after. refl)

pub centre_is_allowed_answers_once : OneAnswer centre_is_allowed.ended (λ M 𝓤 𝓛. centre_is_allowed.clauses 𝓛)
centre_is_allowed_answers_once =
    one_answer (λ κs inputs. centre_allowed inputs.0 inputs.1.0) (λ M 𝓤 𝓛 mem run κs inputs g r after. refl)

pub coefficient_of_answers_once : OneAnswer coefficient_of.ended (λ M 𝓤 𝓛. coefficient_of.clauses 𝓛)
coefficient_of_answers_once =
    one_answer (λ κs inputs. coefficient_of inputs.0 inputs.1.0) (λ M 𝓤 𝓛 mem run κs inputs g r after. refl)

pub injection_is_finite_answers_once : OneAnswer injection_is_finite.ended (λ M 𝓤 𝓛. injection_is_finite.clauses 𝓛)
injection_is_finite_answers_once =
    one_answer (λ κs inputs. finite_injection inputs.0) (λ M 𝓤 𝓛 mem run κs inputs g r after. refl)

pub position_of_answers_once : OneAnswer position_of.ended (λ M 𝓤 𝓛. position_of.clauses 𝓛)
position_of_answers_once =
    one_answer (λ κs inputs. position inputs.0) (λ M 𝓤 𝓛 mem run κs inputs g r after. refl)

pub setting_is_allowed_answers_once : OneAnswer setting_is_allowed.ended (λ M 𝓤 𝓛. setting_is_allowed.clauses 𝓛)
setting_is_allowed_answers_once =
    one_answer (λ κs inputs. setting_allowed inputs.0) (λ M 𝓤 𝓛 mem run κs inputs g r after. refl)

pub square_answers_once : OneAnswer square.ended (λ M 𝓤 𝓛. square.clauses 𝓛)
square_answers_once =
    one_answer (λ κs inputs. n inputs.0) (λ M 𝓤 𝓛 mem run κs inputs g r after. refl)

pub starting_position_answers_once : OneAnswer starting_position.ended (λ M 𝓤 𝓛. starting_position.clauses 𝓛)
starting_position_answers_once =
    one_answer (λ κs inputs. starting_position inputs.0) (λ M 𝓤 𝓛 mem run κs inputs g r after. refl)

pub state_is_finite_answers_once : OneAnswer state_is_finite.ended (λ M 𝓤 𝓛. state_is_finite.clauses 𝓛)
state_is_finite_answers_once =
    one_answer (λ κs inputs. finite_state inputs.0) (λ M 𝓤 𝓛 mem run κs inputs g r after. refl)

pub sun_shines_answers_once : OneAnswer sun_shines.ended (λ M 𝓤 𝓛. sun_shines.clauses 𝓛)
sun_shines_answers_once =
    one_answer (λ κs inputs. used inputs.0.k) (λ M 𝓤 𝓛 mem run κs inputs g r after. refl)

pub vector_is_finite_answers_once : OneAnswer vector_is_finite.ended (λ M 𝓤 𝓛. vector_is_finite.clauses 𝓛)
vector_is_finite_answers_once =
    one_answer (λ κs inputs. finite_vector inputs.0) (λ M 𝓤 𝓛 mem run κs inputs g r after. refl)

pub vectors_agree_answers_once : OneAnswer vectors_agree.ended (λ M 𝓤 𝓛. vectors_agree.clauses 𝓛)
vectors_agree_answers_once =
    one_answer (λ κs inputs. same_vector inputs.0 inputs.1.0) (λ M 𝓤 𝓛 mem run κs inputs g r after. refl)

pub velocity_of_answers_once : OneAnswer velocity_of.ended (λ M 𝓤 𝓛. velocity_of.clauses 𝓛)
velocity_of_answers_once =
    one_answer (λ κs inputs. velocity inputs.0) (λ M 𝓤 𝓛 mem run κs inputs g r after. refl)
