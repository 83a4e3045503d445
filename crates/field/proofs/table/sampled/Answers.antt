-- The sum of the powers of the products that count.
use Prim.Native.Nat.{ℕ}
use lib.Ieee.{nan}
use lib.ListN.{get_or}
use Rattle.field.proofs.SampledSums.{sum_powers}
use Rattle.field.proofs.table.sampled.Goals as goal

pub returns : goal.returns
returns g c =
    let a = c.args in
    rw (c.sum_of.ensures, c.approx_powers.ensures, c.products-n.ensures.1)
    (sum_powers (λ (s : ℕ). get_or a.kernels.now s nan) (λ (s : ℕ). get_or a.column.now s nan) a.exponent g.row.SAMPLES)
