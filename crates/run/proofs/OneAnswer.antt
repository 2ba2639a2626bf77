-- Any two results that the promise of a call of the motion allows are equal. Assumes nothing.
use mathlib.Core.Path.{refl}
use Rattle.base.proofs.OneAnswer.{OneAnswer, one_answer}
use Rattle.run.specs.Run.{run_answer, single_step_answer}
use Rattle.run.specs.contracts.run as run
use Rattle.run.specs.contracts.single_step as single_step

pub run_answers_once : OneAnswer run.ended (λ M 𝓤 𝓛. run.clauses 𝓛)
run_answers_once =
    one_answer
    (λ κs inputs.
    run_answer inputs.0.now inputs.1.0 inputs.1.1.0 inputs.1.1.1.0 inputs.1.1.1.1.0 inputs.1.1.1.1.1.0 inputs.1.1.1.1.1.1.0)
    (λ M 𝓤 𝓛 mem run'' κs inputs g r after. refl)

pub single_step_answers_once : OneAnswer single_step.ended (λ M 𝓤 𝓛. single_step.clauses 𝓛)
single_step_answers_once =
    one_answer (λ κs inputs. single_step_answer inputs.0.now inputs.1.0 inputs.1.1.0 inputs.1.1.1.0 inputs.1.1.1.1.0)
    (λ M 𝓤 𝓛 mem run'' κs inputs g r after. refl)
