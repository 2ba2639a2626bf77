-- `gravity::acceleration` meets its contract. Assumes nothing.
use mathlib.Core.Path.{sym, ◌∙◌}
use Rattle.state_checks.proofs.Passed.{passed}
use Rattle.gravity.proofs.acceleration.Goals as goal

pub rule-requires : goal.rule-requires
rule-requires c = let p = passed _ _ _ _ _ (sym c.common_checks.ensures ∙ c.in_ok-common_checks.was) in
    (p.book, sym c.centre_is_allowed-centred.ensures ∙ p.centre)
