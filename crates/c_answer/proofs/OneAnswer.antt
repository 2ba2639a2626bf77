-- Any two outcomes that the promise of `hand_out` allows are equal, at every type: the returned number and the caller's memory, together.
-- Assumes nothing.
use mathlib.Core.Path.{refl}
use denote.RattleType.{RattleType}
use mir.Syntax.{Dict}
use Rattle.std.specs.declared.clone.Clone.{Ghosts}
use Rattle.base.proofs.OneAnswer.{Tell, OneOutcome, one_outcome}
use Rattle.c_answer.specs.Handed.{Handed, handed, answered}
use Rattle.c_answer.specs.contracts.hand_out as hand_out

abbrev tell_hand_out : (T : RattleType) (g : Ghosts T.Denot) (d : Dict) → Tell (hand_out.ended T g d) (λ κs. Handed T.Denot)
tell_hand_out T g d κs r after = handed r after.1.0.now

pub hand_out_answers_once : (T : RattleType) (g : Ghosts T.Denot) (d : Dict) → OneOutcome (hand_out.ended T g d) (λ M 𝓤 𝓛. hand_out.clauses T g d 𝓛) (λ κs. Handed T.Denot) (tell_hand_out T g d)
hand_out_answers_once T g d =
    one_outcome (λ κs. Handed T.Denot) (tell_hand_out T g d) (λ κs inputs. answered inputs.1.0.now inputs.0) (λ M 𝓤 𝓛 mem run κs inputs g' r after. refl)
