-- `extent::radius::read_extent` meets its contract: the mean is a double. Assumes nothing.
use mathlib.Core.Path.{sym, ◌∙◌}
use Rattle.doubles.proofs.Floors.{casts}
use native.Mathlib.Omega.{arith}
use lib.Ieee.{of_bits, of_int, round}
use Rattle.layout.proofs.RefusalLaws.{ok_says}
use Rattle.extent.proofs.radius.Ranges.{mean_le}
use Rattle.extent.proofs.radius.read_extent.Goals as goal

pub int_to_float-mean : goal.int_to_float-mean
int_to_float-mean c =
    casts _ (omega (arith, c.mean_of-mean.ensures, mean_le c.args.e))

pub returns : goal.returns
unfolding of_bits of_int round
returns c =
    let q = (ok_says _ (tt {0}) _ (sym c.extent_no.ensures ∙ c.in_ok-extent_no.was)).0 in
    rw (c.extent_radius.ensures, c.mean_of-mean.ensures, q)
