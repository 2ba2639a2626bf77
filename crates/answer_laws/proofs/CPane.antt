-- Any two results that the promise of a function of c_pane allows are equal; of `keep`, the returned number and all the memory that it may
-- write, together. Assumes nothing.
use mathlib.Core.Path.{refl}
use denote.RattleType.{RattleType}
use mir.Syntax.{Dict}
use Rattle.std.specs.declared.clone.Clone as clone
use Rattle.base.specs.declared.Reason.{Ghosts}
use Rattle.base.proofs.OneAnswer.{OneAnswer, one_answer, Tell, OneOutcome, one_outcome}
use Rattle.pane_live.specs.Pane.{frame_at}
use Rattle.c_answer.specs.Handed.{Handed, handed}
use Rattle.c_pane.specs.Lent.{Kept, kept_in, pane_of, numbers_in, places_in, fed_with, left_by}
use Rattle.c_pane.specs.contracts.feed as feed
use Rattle.c_pane.specs.contracts.keep as keep
use Rattle.c_pane.specs.contracts.numbers_in as numbers_in
use Rattle.c_pane.specs.contracts.pane_of as pane_of
use Rattle.c_pane.specs.contracts.places_in as places_in
use Rattle.c_pane.specs.contracts.shown_at as shown_at

pub feed_answers_once : OneAnswer feed.ended (λ M 𝓤 𝓛. feed.clauses 𝓛)
feed_answers_once =
    one_answer (λ κs inputs. fed_with inputs.0 inputs.1.0 inputs.1.1.0) (λ M 𝓤 𝓛 mem run κs inputs g r after. refl)

abbrev tell_keep : (R : RattleType) (g : Ghosts R.Denot) (d : Dict) (copied : clone.Ghosts R.Denot) (d' : Dict) → Tell (keep.ended R g d copied d') (λ κs. Handed Kept)
tell_keep R g d copied d' κs r after = handed r (kept_in after.1.0.now after.1.1.0.now)

pub keep_answers_once : (R : RattleType) (g : Ghosts R.Denot) (d : Dict) (copied : clone.Ghosts R.Denot) (d' : Dict) → OneOutcome (keep.ended R g d copied d') (λ M 𝓤 𝓛. keep.clauses R g d copied d' 𝓛) (λ κs. Handed Kept) (tell_keep R g d copied d')
keep_answers_once R g d copied d' =
    one_outcome (λ κs. Handed Kept) (tell_keep R g d copied d')
    (λ κs inputs. left_by g.told (kept_in inputs.1.0.now inputs.1.1.0.now) inputs.0)
    (λ M 𝓤 𝓛 mem run κs inputs g' r after. refl)

pub numbers_in_answers_once : OneAnswer numbers_in.ended (λ M 𝓤 𝓛. numbers_in.clauses 𝓛)
numbers_in_answers_once =
    one_answer (λ κs inputs. numbers_in inputs.0) (λ M 𝓤 𝓛 mem run κs inputs g r after. refl)

pub pane_of_answers_once : OneAnswer pane_of.ended (λ M 𝓤 𝓛. pane_of.clauses 𝓛)
pane_of_answers_once =
    one_answer (λ κs inputs. pane_of inputs.0.now inputs.1.0.now) (λ M 𝓤 𝓛 mem run κs inputs g r after. refl)

pub places_in_answers_once : OneAnswer places_in.ended (λ M 𝓤 𝓛. places_in.clauses 𝓛)
places_in_answers_once =
    one_answer (λ κs inputs. places_in inputs.0) (λ M 𝓤 𝓛 mem run κs inputs g r after. refl)

pub shown_at_answers_once : OneAnswer shown_at.ended (λ M 𝓤 𝓛. shown_at.clauses 𝓛)
shown_at_answers_once =
    one_answer
    (λ κs inputs. frame_at (pane_of inputs.0.now inputs.1.0.now) inputs.1.1.0)
    (λ M 𝓤 𝓛 mem run κs inputs g r after. refl)
