-- Any two results that the promise of a function of base allows are equal. Assumes nothing.
use lib.Ieee.Scale.{finite}
use mathlib.Core.Path.{refl}
use Rattle.base.specs.Checks.{require}
use Rattle.base.specs.Refusals.{number_of, refusal_of}
use Rattle.base.proofs.OneAnswer.{OneAnswer, one_answer}
use Rattle.base.specs.contracts.is_finite as is_finite
use Rattle.base.specs.contracts.require as require_call
use Rattle.base.specs.contracts.Refusal.number as number
use Rattle.base.specs.contracts.Refusal.from_number as from_number

pub is_finite_answers_once : OneAnswer is_finite.ended (λ M 𝓤 𝓛. is_finite.clauses 𝓛)
is_finite_answers_once =
    one_answer (λ κs inputs. finite inputs.0) (λ M 𝓤 𝓛 mem run κs inputs g r after. refl)

pub require_answers_once : OneAnswer require_call.ended (λ M 𝓤 𝓛. require_call.clauses 𝓛)
require_answers_once =
    one_answer (λ κs inputs. require inputs.0 inputs.1.0) (λ M 𝓤 𝓛 mem run κs inputs g r after. refl)

pub number_answers_once : OneAnswer number.ended (λ M 𝓤 𝓛. number.clauses 𝓛)
number_answers_once =
    one_answer (λ κs inputs. number_of inputs.0) (λ M 𝓤 𝓛 mem run κs inputs g r after. refl)

pub from_number_answers_once : OneAnswer from_number.ended (λ M 𝓤 𝓛. from_number.clauses 𝓛)
from_number_answers_once =
    one_answer (λ κs inputs. refusal_of inputs.0) (λ M 𝓤 𝓛 mem run κs inputs g r after. refl)
