-- `cases::cases_hold` meets its contract: the table is computed. Assumes nothing.
use mathlib.Core.Path.{refl}
use lib.Ieee.{add, sub, mul, div, sum, lt, le, eq, of_int, round, to_signed, to_bits, of_bits}
use Rattle.cases.specs.Cases.{cases}
use Rattle.cases.proofs.cases_hold.Goals as goal

pub returns : goal.returns
unfolding cases add sub mul div sum lt le eq of_int round to_signed to_bits of_bits
returns c = refl
