-- `circular::complement` meets its contract. Assumes nothing.
use Rattle.std.proofs.Common.{ap}
use lib.Ieee.{Float}
use Rattle.doubles.specs.Arithmetic.{◌⊕◌, ◌⊖◌}
use Rattle.approximations.specs.Circular.{L}
use Rattle.approximations.proofs.circular.Series.{H_is}
use Rattle.approximations.proofs.circular.complement.Goals as goal

pub returns : goal.returns
returns c = ap (λ (h : Float). h ⊖ c.args.a ⊕ L) H_is
