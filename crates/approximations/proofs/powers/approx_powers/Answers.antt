-- `approximations::powers::approx_powers` meets its contract: one pass after the other. Assumes nothing.
use Rattle.std.proofs.lemmas.Simd.{map-map}
use Rattle.approximations.proofs.powers.approx_powers.Goals as goal

pub returns : goal.returns
returns c = rw (c.approx_exp2_each.ensures, c.logs.ensures) (map-map _ _ _)
