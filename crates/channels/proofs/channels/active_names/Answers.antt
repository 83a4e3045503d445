use mathlib.Core.Path.{sym, ◌∙◌}
use native.Mathlib.Omega.{arith}
use lib.ListN.{take, length-take}
use Rattle.channels.proofs.Written.{written_more, written_same}
use Rattle.channels.proofs.channels.active_names.Goals as goal
use Rattle.channels.proofs.channels.active_names.Goals.{then-is_active, else-is_active}

pub loop-c-preserved : goal.loop-c-preserved
loop-c-preserved c =
    let v = c.loop-c in
    let used = take c.covered.result c.args.l.channels in
    let most = length-take c.covered.result c.args.l.channels in
    elim c.if-is_active.branch [
      | then-is_active w ↦ rw (w.out-is, w.n-is) (omega arith, written_more used v.c-index _ _ _ v.invariant.1 c.loop-c-test.true (sym c.is_active.ensures ∙ w.if-is_active.true) (omega arith))
      | else-is_active w ↦ rw (w.out-is, w.n-is) (omega arith, written_same used v.c-index _ _ _ v.invariant.1 c.loop-c-test.true (sym c.is_active.ensures ∙ w.if-is_active.false))
    ]
