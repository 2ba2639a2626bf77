-- `hour::sidereal` meets its contract: at each `return` the tests that led there pick the definition's case. Assumes nothing.
use borrow.Author.Rules.{rules}
use borrow.Author.Tests.{le-ltb, lt-ltb, le-leb, lt-leb}
use Rattle.hour.proofs.sidereal.Goals as goal

pub returns-then-dut-gt-LONGEST_DUT : goal.returns-then-dut-gt-LONGEST_DUT
returns-then-dut-gt-LONGEST_DUT c = simp (lt-leb _ _ c.if-dut-gt-LONGEST_DUT.true)

pub returns-then-rule-gt-LAST_RULE : goal.returns-then-rule-gt-LAST_RULE
returns-then-rule-gt-LAST_RULE c = simp (le-leb _ _ c.if-dut-gt-LONGEST_DUT.false, lt-leb _ _ c.if-rule-gt-LAST_RULE.true)

pub returns-then-moment-ge-END_OF_TIME : goal.returns-then-moment-ge-END_OF_TIME
returns-then-moment-ge-END_OF_TIME c = simp (le-leb _ _ c.if-dut-gt-LONGEST_DUT.false, le-leb _ _ c.if-rule-gt-LAST_RULE.false, le-ltb _ _ c.if-moment-ge-END_OF_TIME.true)

pub angle_by-requires : goal.angle_by-requires
angle_by-requires c = search rules

pub returns-then-lag-moment : goal.returns-then-lag-moment
returns-then-lag-moment c = simp (
  le-leb _ _ c.if-dut-gt-LONGEST_DUT.false,
  le-leb _ _ c.if-rule-gt-LAST_RULE.false,
  lt-ltb _ _ c.if-moment-ge-END_OF_TIME.false,
  le-ltb _ _ c.if-lag-moment.true,
  c.angle_by.ensures,
)

pub returns : goal.returns
returns c = simp
    (le-leb _ _ c.if-dut-gt-LONGEST_DUT.false, le-leb _ _ c.if-rule-gt-LAST_RULE.false, lt-ltb _ _ c.if-moment-ge-END_OF_TIME.false, lt-ltb _ _ c.if-lag-moment.false)
