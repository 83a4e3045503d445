-- Each row lies in the place, and the two rows are those of `knot_XY`.
use mathlib.Core.Bool.{false}
use Prim.Native.Nat.{ℕ, ◌<◌}
use borrow.Author.Rules.{rules}
use borrow.Author.Tests.{tests}
use lib.Ieee.{nan}
use Rattle.extent.specs.Kernel.{kernel_of}
use Rattle.lists.proofs.FromFn.{from_fn_at}
use Rattle.field.specs.Knots.{steps}
use Rattle.field.proofs.table.KnotRows.{knot_XY}
use Rattle.field.proofs.table.knot_xy.Goals as goal

pub returns : goal.returns
returns c =
    let a = c.args in
    let n = a.x.now.n in
    let made = from_fn_at _ _ (λ (s : ℕ). kernel_of (steps 19 s) c.step-centre.result c.radius_knot-radius.result false) (λ i y q k. search (rules, tests)) _ nan 20 c.from_fn-kernels.ensures.items in
    let ks = λ (s : ℕ) (h : s < 20). rw (c.step-centre.ensures, c.radius_knot-radius.ensures) at (made s h) in
    let ps = λ (k : ℕ) (h : k < n). rw (c.shaping_exponent-exponent.ensures, c.radius_knot-radius.ensures) at (c.write.ensures k h) in
    let qs = λ (k : ℕ) (h : k < n). rw (c.shaping_exponent-exponent.ensures, c.radius_knot-radius.ensures) at (c.write-2.ensures k (rw c.requires.1 h)) in
    knot_XY n a.knot a.x.now.columns a.y.now.columns c.from_fn-kernels.result a.place.now _ _ c.requires.0 c.requires.2 ks c.write.auto.row c.write-2.auto.row ps qs
