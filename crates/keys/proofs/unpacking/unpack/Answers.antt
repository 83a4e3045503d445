-- The parts are those of the layout in the key.
use Rattle.keys.specs.InKey.{layout_in}
use Rattle.keys.proofs.unpacking.unpack.Goals as goal

pub returns : goal.returns
unfolding layout_in
returns c = rw (c.entries_in-4.ensures, c.entries_in-3.ensures, c.entries_in-2.ensures, c.entries_in.ensures)
