-- Any two results that the promise of a function of step_sums allows are equal. Assumes nothing.
use mathlib.Core.Path.{refl}
use Rattle.step_sums.specs.Slopes.{along, half, sixth, step_h, weighed}
use Rattle.base.proofs.OneAnswer.{OneAnswer, one_answer}
use Rattle.step_sums.specs.contracts.half_of as half_of
use Rattle.step_sums.specs.contracts.seconds as seconds
use Rattle.step_sums.specs.contracts.sixth_of as sixth_of
use Rattle.step_sums.specs.contracts.toward as toward
use Rattle.step_sums.specs.contracts.weigh_all as weigh_all

pub half_of_answers_once : OneAnswer half_of.ended (λ M 𝓤 𝓛. half_of.clauses 𝓛)
half_of_answers_once =
    one_answer (λ κs inputs. half inputs.0) (λ M 𝓤 𝓛 mem run κs inputs g r after. refl)

pub seconds_answers_once : OneAnswer seconds.ended (λ M 𝓤 𝓛. seconds.clauses 𝓛)
seconds_answers_once =
    one_answer (λ κs inputs. step_h inputs.0) (λ M 𝓤 𝓛 mem run κs inputs g r after. refl)

pub sixth_of_answers_once : OneAnswer sixth_of.ended (λ M 𝓤 𝓛. sixth_of.clauses 𝓛)
sixth_of_answers_once =
    one_answer (λ κs inputs. sixth inputs.0) (λ M 𝓤 𝓛 mem run κs inputs g r after. refl)

pub toward_answers_once : OneAnswer toward.ended (λ M 𝓤 𝓛. toward.clauses 𝓛)
toward_answers_once =
    one_answer (λ κs inputs. along inputs.0 inputs.1.0 inputs.1.1.0) (λ M 𝓤 𝓛 mem run κs inputs g r after. refl)

pub weigh_all_answers_once : OneAnswer weigh_all.ended (λ M 𝓤 𝓛. weigh_all.clauses 𝓛)
weigh_all_answers_once =
    one_answer (λ κs inputs. weighed inputs.0 inputs.1.0 inputs.1.1.0 inputs.1.1.1.0) (λ M 𝓤 𝓛 mem run κs inputs g r after. refl)
