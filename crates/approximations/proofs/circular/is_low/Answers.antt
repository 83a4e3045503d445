-- `circular::is_low` meets its contract. Assumes nothing.
use Rattle.std.proofs.Common.{ap}
use lib.Ieee.{le}
use Rattle.approximations.proofs.circular.Series.{half_h_is}
use Rattle.approximations.proofs.circular.is_low.Goals as goal

pub returns : goal.returns
returns c = ap (le c.args.a) half_h_is
