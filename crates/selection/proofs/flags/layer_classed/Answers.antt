use lib.Ieee.{eq, ne, of_bits}
use Rattle.selection.proofs.flags.layer_classed.Goals as goal

pub returns-then-z : goal.returns-then-z
unfolding ne eq of_bits
returns-then-z c = rw c.if-z.true

pub returns-else-z : goal.returns-else-z
unfolding ne eq of_bits
returns-else-z c = rw c.if-z.false c.all_classed.ensures
