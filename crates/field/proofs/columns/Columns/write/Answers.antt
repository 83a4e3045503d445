-- After k turns the numbers of the first k channels are written.
use mathlib.Core.Path.{◌∙◌}
use Prim.Native.Nat.{ℕ, ◌<◌}
use native.Mathlib.Omega.{arith}
use lib.Ieee.{nan}
use lib.ListN.{length, get_or, length-set}
use Rattle.field.proofs.Patching.{set_below, set_below_as}
use Rattle.field.proofs.SameColumns.{first_number}
use Rattle.field.proofs.columns.Columns.write.Invariants.{number}
use Rattle.field.proofs.columns.Columns.write.Goals as goal
use Rattle.field.proofs.columns.Columns.write.Goals.{then-j-k, else-j-k}

pub loop-k-preserved : goal.loop-k-preserved
loop-k-preserved g c =
    let a = c.args in
    let x = a.self.now in
    let l = c.loop-k in
    let f = number a.kernels.now x.columns g.row.SAMPLES a.exponent in
    let within : l.k < length l.row = omega (arith, c.loop-k-test.true, l.invariant.1) in
    elim c.if-j-k.branch [
      | then-j-k w ↦
          let e = first_number x.columns g.row.SAMPLES x.n l.k x.firsts (λ (s : ℕ). get_or a.kernels.now s nan) a.exponent x.doubles x.found c.loop-k-test.true w.if-j-k.true in
          rw w.row-is (set_below_as f l.row l.k _ within (l.invariant.0 (get_or x.firsts l.k 0) w.if-j-k.true ∙ e) l.invariant.0, simp length-set l.invariant.1)
      | else-j-k w ↦ rw (w.row-is, w.sampled.ensures) (set_below f l.row l.k within l.invariant.0, simp length-set l.invariant.1)
    ]
