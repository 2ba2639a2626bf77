-- Any two results that the promise of `frame_motion` allows are equal. Assumes nothing.
use mathlib.Core.Path.{refl}
use Rattle.base.proofs.OneAnswer.{OneAnswer, one_answer}
use Rattle.pane_motion.specs.Motion.{motion_at}
use Rattle.pane_motion.specs.contracts.frame_motion as motion_call

pub motion_answers_once : OneAnswer motion_call.ended (λ M 𝓤 𝓛. motion_call.clauses 𝓛)
motion_answers_once = one_answer (λ κs inputs. motion_at inputs.0 inputs.1.0) (λ M 𝓤 𝓛 mem run κs inputs g r after. refl)
