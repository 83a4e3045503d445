-- `gains::diffuse::lambda` meets its contract: the literals are the definition's numbers. Assumes nothing.
use mathlib.Core.Path.{sym}
use lib.Ieee.{of_bits, round, of_int}
use Rattle.gains.proofs.diffuse.Cases.{lambda_near, lambda_far}
use Rattle.gains.proofs.diffuse.lambda.Goals as goal

pub returns-then-near-radius : goal.returns-then-near-radius
unfolding of_bits round of_int
returns-then-near-radius c = sym (lambda_near _ _ c.if-near-radius.true)

pub returns-else-near-radius : goal.returns-else-near-radius
unfolding of_bits round of_int
returns-else-near-radius c = sym (lambda_far _ _ c.if-near-radius.false)
