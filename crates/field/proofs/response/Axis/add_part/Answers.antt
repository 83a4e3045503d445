-- The places left, added to what stands, make the whole.
use Prim.Native.Nat.{◌+◌}
use mathlib.Core.Path.{sym, ◌∙◌}
use native.Mathlib.Omega.{arith}
use lib.ListN.{get_or}
use Rattle.field.proofs.response.Slices.{slice_past, added_more, added_none}
use Rattle.field.proofs.response.Axis.add_part.Goals as goal

pub loop-a-preserved : goal.loop-a-preserved
loop-a-preserved c =
    let x = c.args.self.now in
    added_more c.args.w x.at.now c.loop-a.a (get_or x.parts.now (c.args.i + 1) 0) c.loop-a.row _ c.loop-a-test.true (x.parted.ends (c.args.i + 1) (omega (arith, c.requires))) c.loop-a.invariant

pub returns : goal.returns
returns c =
    let x = c.args.self.now in
    sym (added_none c.args.w c.loop-a.row) ∙ (rw (slice_past c.loop-a.a (get_or x.parts.now (c.args.i + 1) 0) x.at.now c.loop-a-test.false) at c.loop-a.invariant)
