-- Any two results that the promise of a function of state_tests allows are equal. Assumes nothing.
use mathlib.Core.Path.{refl}
use Rattle.state_tests.specs.Allowed.{coefficient_allowed, earth_allowed, is_body, looked_up, same_bits}
use Rattle.base.proofs.OneAnswer.{OneAnswer, one_answer}
use Rattle.state_tests.specs.contracts.bits_agree as bits_agree
use Rattle.state_tests.specs.contracts.coefficient_is_allowed as coefficient_is_allowed
use Rattle.state_tests.specs.contracts.earth_is_allowed as earth_is_allowed
use Rattle.state_tests.specs.contracts.is_body as is_body
use Rattle.state_tests.specs.contracts.is_looked_up as is_looked_up

pub bits_agree_answers_once : OneAnswer bits_agree.ended (λ M 𝓤 𝓛. bits_agree.clauses 𝓛)
bits_agree_answers_once =
    one_answer (λ κs inputs. same_bits inputs.0 inputs.1.0) (λ M 𝓤 𝓛 mem run κs inputs g r after. refl)

pub coefficient_is_allowed_answers_once : OneAnswer coefficient_is_allowed.ended (λ M 𝓤 𝓛. coefficient_is_allowed.clauses 𝓛)
coefficient_is_allowed_answers_once =
    one_answer (λ κs inputs. coefficient_allowed inputs.0) (λ M 𝓤 𝓛 mem run κs inputs g r after. refl)

pub earth_is_allowed_answers_once : OneAnswer earth_is_allowed.ended (λ M 𝓤 𝓛. earth_is_allowed.clauses 𝓛)
earth_is_allowed_answers_once =
    one_answer (λ κs inputs. earth_allowed inputs.0) (λ M 𝓤 𝓛 mem run κs inputs g r after. refl)

pub is_body_answers_once : OneAnswer is_body.ended (λ M 𝓤 𝓛. is_body.clauses 𝓛)
is_body_answers_once =
    one_answer (λ κs inputs. is_body inputs.0) (λ M 𝓤 𝓛 mem run κs inputs g r after. refl)

pub is_looked_up_answers_once : OneAnswer is_looked_up.ended (λ M 𝓤 𝓛. is_looked_up.clauses 𝓛)
is_looked_up_answers_once =
    one_answer (λ κs inputs. looked_up inputs.0 inputs.1.0) (λ M 𝓤 𝓛 mem run κs inputs g r after. refl)
