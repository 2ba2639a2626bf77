-- Any two results that the promise of a function of gravity_bodies allows are equal, whatever a refusal is held as. Assumes nothing.
use mathlib.Core.Path.{refl}
use denote.RattleType.{RattleType}
use mir.Syntax.{Dict}
use Rattle.std.specs.declared.clone.Clone.{Ghosts}
use Rattle.gravity_bodies.specs.Looked.{besides, blank, place_in, all_found}
use Rattle.base.proofs.OneAnswer.{OneAnswer, one_answer}
use Rattle.gravity_bodies.specs.contracts.beside as beside
use Rattle.gravity_bodies.specs.contracts.blank_sight as blank_sight
use Rattle.gravity_bodies.specs.contracts.centre_place as centre_place
use Rattle.gravity_bodies.specs.contracts.all_found as all_found

pub beside_answers_once : (R : RattleType) (g : Ghosts R.Denot) (d : Dict) → OneAnswer (beside.ended R g d) (λ M 𝓤 𝓛. beside.clauses R g d 𝓛)
beside_answers_once R g d =
    one_answer (λ κs inputs. besides inputs.0 inputs.1.0 inputs.1.1.0) (λ M 𝓤 𝓛 mem run κs inputs g' r after. refl)

pub blank_sight_answers_once : (R : RattleType) (g : Ghosts R.Denot) (d : Dict) → OneAnswer (blank_sight.ended R g d) (λ M 𝓤 𝓛. blank_sight.clauses R g d 𝓛)
blank_sight_answers_once R g d =
    one_answer (λ κs inputs. blank inputs.0 inputs.1.0) (λ M 𝓤 𝓛 mem run κs inputs g' r after. refl)

pub centre_place_answers_once : (R : RattleType) (g : Ghosts R.Denot) (d : Dict) → OneAnswer (centre_place.ended R g d) (λ M 𝓤 𝓛. centre_place.clauses R g d 𝓛)
centre_place_answers_once R g d =
    one_answer (λ κs inputs. place_in inputs.1.0 inputs.0) (λ M 𝓤 𝓛 mem run κs inputs g' r after. refl)

pub all_found_answers_once : (R : RattleType) (g : Ghosts R.Denot) (d : Dict) → OneAnswer (all_found.ended R g d) (λ M 𝓤 𝓛. all_found.clauses R g d 𝓛)
all_found_answers_once R g d =
    one_answer (λ κs inputs. all_found inputs.0) (λ M 𝓤 𝓛 mem run κs inputs g' r after. refl)
