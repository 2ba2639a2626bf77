-- Any two results that the promise of a function of pane_live allows are equal. Assumes nothing.
use mathlib.Core.Path.{refl}
use denote.RattleType.{RattleType}
use mir.Syntax.{Dict}
use Rattle.std.specs.declared.clone.Clone.{Ghosts}
use Rattle.pane_live.specs.Pane.{after, clear}
use Rattle.base.proofs.OneAnswer.{OneAnswer, one_answer}
use Rattle.pane_live.specs.contracts.after as after
use Rattle.pane_live.specs.contracts.clear as clear

pub after_answers_once : (R : RattleType) (g : Ghosts R.Denot) (d : Dict) → OneAnswer (after.ended R g d) (λ M 𝓤 𝓛. after.clauses R g d 𝓛)
after_answers_once R g d =
    one_answer (λ κs inputs. after inputs.0 inputs.1.0) (λ M 𝓤 𝓛 mem run κs inputs g' r after. refl)

pub clear_answers_once : OneAnswer clear.ended (λ M 𝓤 𝓛. clear.clauses 𝓛)
clear_answers_once =
    one_answer (λ κs inputs. clear) (λ M 𝓤 𝓛 mem run κs inputs g r after. refl)
