-- `compare_report::same::line_length` meets its contract: the place of the first line feed. Assumes nothing.
use borrow.Author.Rules.{rules}
use borrow.Author.Tests.{tests}
use mathlib.Core.Path.{◌≡◌, ◌∙◌}
use lib.Dec.{eqb}
use Rattle.std.specs.List.{position}
use Rattle.std.proofs.lemmas.Iterator.{YieldsList-from_slice}
use Rattle.std.proofs.lemmas.Iterator.Search.{position_from_yields_List}
use Rattle.compare_report.proofs.Alike.{feed_position}
use Rattle.compare_report.proofs.same.line_length.Goals as goal

pub returns : goal.returns
returns c =
    let e : c.position.result ≡ position (λ x. eqb x 10) c.args.block.now =
    position_from_yields_List (λ x. eqb x 10) _ _ c.position.result c.position.ensures.ran (YieldsList-from_slice c.args.block.now cc) (λ x b q k. search (rules, tests)) in
    c.unwrap_or.ensures ∙ rw e (feed_position c.args.block.now)
