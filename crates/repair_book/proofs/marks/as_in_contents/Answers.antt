-- `repair_book::marks::as_in_contents` meets its contract: each number is below the next. Assumes nothing.
use borrow.Author.Rules.{rules}
use borrow.Author.Tests.{tests}
use Rattle.base.specs.Choice.{◌<?◌}
use Rattle.std.proofs.lemmas.List.Sorted.{answers_always}
use Rattle.repair_book.proofs.Rising.{rising}
use Rattle.repair_book.proofs.marks.as_in_contents.Goals as goal

pub returns : goal.returns
returns c = rising _ _ (c.is_sorted_by.ensures.cases (λ x y. x <? y) (answers_always _ _ _ (λ f a r q k. search (rules, tests))))
