-- A number from 0 to 1 is finite.
use mathlib.Core.Path.{◌∙◌}
use lib.Ieee.{of_bits}
use Rattle.extent.proofs.radius.Ranges.{component_is}
use Rattle.extent.proofs.radius.is_component.Goals as goal

pub returns : goal.returns
unfolding of_bits
returns c = c.is_between.ensures ∙ component_is c.args.v
