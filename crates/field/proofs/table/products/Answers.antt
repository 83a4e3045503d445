-- After s turns the products of the first s samples that count stand in front.
use native.Mathlib.Omega.{arith}
use borrow.Author.Rules.{rules}
use lib.Ieee.{of_bits}
use lib.ListN.{length-set}
use Rattle.field.proofs.SampledSums.{products_none, products_more, products_same}
use Rattle.field.proofs.table.products.Invariants.{number}
use Rattle.field.proofs.table.products.Goals as goal
use Rattle.field.proofs.table.products.Goals.{then-kernel-product, else-kernel-product}

pub loop-s-init : goal.loop-s-init
loop-s-init g c = (search rules, search rules, products_none (number c.args.kernels.now) (number c.args.column.now) c.args.y.now)

pub loop-s-preserved : goal.loop-s-preserved
unfolding of_bits
loop-s-preserved g c =
    let a = c.args in
    let K = number a.kernels.now in
    let R = number a.column.now in
    let i = c.loop-s.invariant in
    elim c.if-kernel-product.branch [
      | then-kernel-product w ↦ (rw w.m-is (omega arith), rw w.y-is (simp length-set i.1), rw (w.y-is, w.m-is) (products_more K R c.loop-s.s c.loop-s.m c.loop-s.y (omega (arith, i.0, i.1, c.loop-s-test.true)) i.2 w.if-kernel-product.true))
      | else-kernel-product w ↦ (rw w.m-is (omega arith), rw w.y-is i.1, rw (w.y-is, w.m-is) (products_same K R c.loop-s.s c.loop-s.m c.loop-s.y i.2 w.if-kernel-product.false))
    ]
