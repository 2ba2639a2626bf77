-- `book_series::inner::argument_at` meets its contract: the numerator is small with either sign, so each cast is exact. Assumes nothing.
use Rattle.book_series.specs.Series.{argument}
use Rattle.book_series.proofs.Numerator.{span_back, numerator_back, worked_out, as_written}
use Rattle.book_series.proofs.inner.argument_at.Goals as goal

pub returns : goal.returns
unfolding argument
returns c = rw (worked_out c.requires, numerator_back c.requires, span_back c.requires, as_written c.requires)
