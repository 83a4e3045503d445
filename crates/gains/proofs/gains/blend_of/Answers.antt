-- `gains::gains::blend_of` meets its contract: one of the definition's cases in each branch. Assumes nothing.
use lib.Ieee.{of_bits, round, of_int}
use Rattle.gains.specs.Gains.{blend_of}
use Rattle.gains.proofs.gains.blend_of.Goals as goal

pub returns-then-mean-radius : goal.returns-then-mean-radius
unfolding blend_of of_bits round of_int
returns-then-mean-radius c = rw c.if-mean-radius.true

pub returns-then-radius : goal.returns-then-radius
unfolding blend_of of_bits round of_int
returns-then-radius c =
    rw (c.sine.ensures, c.cosine.ensures, c.clamp-a.ensures, c.if-mean-radius.false, c.if-radius.true)

pub returns : goal.returns
unfolding blend_of of_bits round of_int
returns c = rw (c.if-mean-radius.false, c.if-radius.false)
