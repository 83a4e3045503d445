-- A number from 0 to 5/4 is finite.
use mathlib.Core.Path.{◌∙◌}
use lib.Ieee.{of_bits, round}
use Rattle.cache.proofs.Later.{gain_is}
use Rattle.cache.proofs.later_questions.is_gain.Goals as goal

pub returns : goal.returns
unfolding of_bits round
returns c = c.is_between.ensures ∙ gain_is c.args.g
