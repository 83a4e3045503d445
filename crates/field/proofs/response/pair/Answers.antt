-- `field::response::pair` meets its contract: the literals are the definition's numbers. Assumes nothing.
use lib.Ieee.{of_bits, round, of_int}
use Rattle.field.specs.Responses.{two_at}
use Rattle.field.proofs.response.pair.Goals as goal

pub returns : goal.returns
unfolding two_at of_bits round of_int
returns c = rw (c.cosine.ensures, c.sine.ensures)
