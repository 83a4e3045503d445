-- The row lies in the place, and it is that of `knot_Z`.
use mathlib.Core.Bool.{true}
use Prim.Native.Nat.{ℕ, ◌<◌}
use borrow.Author.Rules.{rules}
use borrow.Author.Tests.{tests}
use lib.Ieee.{nan}
use Rattle.extent.specs.Kernel.{kernel_of}
use Rattle.lists.proofs.FromFn.{from_fn_at}
use Rattle.field.specs.Knots.{steps}
use Rattle.field.proofs.table.KnotRows.{knot_Z}
use Rattle.field.proofs.table.knot_z.Goals as goal

pub returns : goal.returns
returns c =
    let a = c.args in
    let n = a.z.now.n in
    let made = from_fn_at _ _ (λ (s : ℕ). kernel_of (steps 7 s) c.step-centre.result c.radius_knot-radius.result true) (λ i y q k. search (rules, tests)) _ nan 8 c.from_fn-kernels.ensures.items in
    let ks = λ (s : ℕ) (h : s < 8). rw (c.step-centre.ensures, c.radius_knot-radius.ensures) at (made s h) in
    let ps = λ (k : ℕ) (h : k < n). rw (c.shaping_exponent.ensures, c.radius_knot-radius.ensures) at (c.write.ensures k h) in
    knot_Z n a.knot a.z.now.columns c.from_fn-kernels.result a.place.now _ c.requires.0 c.requires.1 ks c.write.auto.row ps
