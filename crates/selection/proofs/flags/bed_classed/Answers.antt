-- Whether the layers that are left have classes is whether all have.
use mathlib.Core.Path.{ap}
use mathlib.Core.Bool.{not}
use native.Mathlib.Omega.{arith}
use borrow.Author.Rules.{rules}
use Rattle.selection.proofs.KeyLayers.{depth_few, used_few, classed_none, classed_step, classed_not, classed_done, classed_answer}
use Rattle.selection.proofs.flags.bed_classed.Invariants.{by}
use Rattle.selection.proofs.flags.bed_classed.Goals as goal

pub shared_ref_as_front-any_outside_five : goal.shared_ref_as_front-any_outside_five
shared_ref_as_front-any_outside_five c = omega (arith, used_few c.args.key.now (search rules) c.requires)

pub loop-i-init : goal.loop-i-init
loop-i-init c =
    let a = c.args in
    (depth_few a.key.now (search rules) c.requires, classed_none a.key.now (by a.state.horizontal) (not c.any_outside_five-five.result))

pub returns-then-not-layer_classed : goal.returns-then-not-layer_classed
returns-then-not-layer_classed c =
    let a = c.args in
    let v = c.loop-i in
    let s = by a.state.horizontal in
    let n = classed_not a.key.now s c.layer_starts-starts.result c.layer_starts-starts.ensures.value (not c.any_outside_five-five.result) _ v.i _ c.loop-i-test.true c.of_bits.ensures c.layer_classed.ensures (search rules) c.requires c.if-not-layer_classed.true in
    classed_answer a.key.now s (search rules) c.requires _ _ _ v.i v.invariant.1 c.is_no_constraints.ensures c.if-is_no_constraints.false (ap not c.any_outside_five-five.ensures) n

pub loop-i-preserved : goal.loop-i-preserved
loop-i-preserved c =
    let a = c.args in
    let v = c.loop-i in
    (v.invariant.0, classed_step a.key.now (by a.state.horizontal) c.layer_starts-starts.result c.layer_starts-starts.ensures.value (not c.any_outside_five-five.result) _ v.i _ c.loop-i-test.true c.of_bits.ensures c.layer_classed.ensures v.invariant.1 c.if-not-layer_classed.false)

pub returns : goal.returns
returns c =
    let a = c.args in
    let v = c.loop-i in
    let s = by a.state.horizontal in
    let n = classed_done a.key.now s (search rules) c.requires (not c.any_outside_five-five.result) v.i c.loop-i-test.false in
    classed_answer a.key.now s (search rules) c.requires _ _ _ v.i v.invariant.1 c.is_no_constraints.ensures c.if-is_no_constraints.false (ap not c.any_outside_five-five.ensures) n
