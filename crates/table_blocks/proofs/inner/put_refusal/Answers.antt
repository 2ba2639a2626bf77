-- `table_blocks::inner::put_refusal` meets its contract. Assumes nothing.
use Rattle.text_write.proofs.Writing.{nothing}
use Rattle.table_blocks.specs.Table.{refusal_text}
use Rattle.table_blocks.proofs.inner.put_refusal.Goals as goal

pub returns-in-Some : goal.returns-in-Some
unfolding refusal_text
returns-in-Some c = rw c.in-Some.is c.put_refused.ensures

pub returns-in-None : goal.returns-in-None
unfolding refusal_text
returns-in-None c = rw c.in-None.is (nothing _ _)
