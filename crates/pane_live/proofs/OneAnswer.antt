-- Any two results that the promise of a call of the pane allows are equal. Assumes nothing.
use Rattle.std.proofs.Common.{refl}
use denote.RattleType.{RattleType}
use mir.Syntax.{Dict}
use Rattle.std.specs.declared.clone.Clone.{Ghosts}
use Rattle.base.proofs.OneAnswer.{OneAnswer, one_answer}
use Rattle.pane_live.specs.Pane.{take, feed, frame_at}
use Rattle.pane_live.specs.contracts.take as take_call
use Rattle.pane_live.specs.contracts.feed as feed_call
use Rattle.pane_live.specs.contracts.frame as frame_call

pub take_answers_once : OneAnswer take_call.ended (λ M 𝓤 𝓛. take_call.clauses 𝓛)
take_answers_once = one_answer (λ κs inputs. take inputs.0 inputs.1.0) (λ M 𝓤 𝓛 mem run κs inputs g r after. refl)

pub feed_answers_once : (R : RattleType) (g : Ghosts R.Denot) (d : Dict) → OneAnswer (feed_call.ended R g d) (λ M 𝓤 𝓛. feed_call.clauses R g d 𝓛)
feed_answers_once R g d = one_answer (λ κs inputs. feed inputs.0 inputs.1.0) (λ M 𝓤 𝓛 mem run κs inputs g' r after. refl)

pub frame_answers_once : OneAnswer frame_call.ended (λ M 𝓤 𝓛. frame_call.clauses 𝓛)
frame_answers_once = one_answer (λ κs inputs. frame_at inputs.0 inputs.1.0) (λ M 𝓤 𝓛 mem run κs inputs g r after. refl)
