-- `doubles::range::clamp` meets its contract, by the test that held. Assumes nothing.
use Rattle.doubles.specs.Range.{clamp_to}
use Rattle.doubles.proofs.range.clamp.Goals as goal

pub returns-then-x-low : goal.returns-then-x-low
unfolding clamp_to
returns-then-x-low c = rw c.if-x-low.true

pub returns-then-x-high : goal.returns-then-x-high
unfolding clamp_to
returns-then-x-high c = rw (c.if-x-low.false, c.if-x-high.true)

pub returns-else-x-high : goal.returns-else-x-high
unfolding clamp_to
returns-else-x-high c = rw (c.if-x-low.false, c.if-x-high.false)
