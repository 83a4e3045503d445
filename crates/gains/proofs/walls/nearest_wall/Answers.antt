-- `gains::walls::nearest_wall` meets its contract. Assumes nothing.
use lib.Ieee.{of_bits}
use Rattle.gains.specs.Walls.{nearest_wall}
use Rattle.gains.proofs.walls.nearest_wall.Goals as goal

pub returns-then-deep : goal.returns-then-deep
unfolding of_bits nearest_wall
returns-then-deep c = rw (c.nearer.ensures, c.nearer-w.ensures, c.nearer-on_x.ensures, c.nearer-on_y.ensures, c.if-deep.true)

pub returns-else-deep : goal.returns-else-deep
unfolding of_bits nearest_wall
returns-else-deep c = rw (c.nearer-w.ensures, c.nearer-on_x.ensures, c.nearer-on_y.ensures, c.if-deep.false)
