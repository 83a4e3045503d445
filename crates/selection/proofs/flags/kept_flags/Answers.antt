-- The flags of the first i layers are written.
use mathlib.Core.Path.{refl, ap, ◌∙◌}
use mathlib.Core.Bool.{not}
use native.Mathlib.Omega.{arith}
use borrow.Author.Rules.{rules}
use borrow.Rule.Slice.PartMut.{same_len_mid}
use Rattle.selection.proofs.KeyLayers.{depth_few, used_few, flags_none, flags_more, flags_done}
use Rattle.selection.proofs.flags.kept_flags.Goals as goal

pub shared_ref_as_front-names : goal.shared_ref_as_front-names
shared_ref_as_front-names c = omega (arith, used_few c.args.key.now (search rules) c.requires)

pub loop-i-init : goal.loop-i-init
loop-i-init c = let key = c.args.key.now in (depth_few key (search rules) c.requires, refl, flags_none key c.args.state)

pub loop-i-preserved : goal.loop-i-preserved
loop-i-preserved c =
    let v = c.loop-i in
    let a = c.args in
    let f = flags_more a.key.now a.state c.layer_starts-starts.result c.layer_starts-starts.ensures.value v.kept _ v.i _ _ _ _ c.loop-i-test.true v.invariant.2 (c.layer_starts-starts.ensures.rise v.i (omega (arith, v.invariant.0, c.loop-i-test.true))) c.flag_layer.ensures c.rule_of-rule.ensures c.of_bits.ensures c.is_22_2-has_flc.ensures (ap not c.any_outside_five-five.ensures) in
    (v.invariant.0, same_len_mid _ _ _ _ c.flag_layer.auto.kept ∙ v.invariant.1, f)

pub returns : goal.returns
returns c =
    let v = c.loop-i in
    flags_done c.args.key.now c.args.state (search rules) c.requires v.kept v.i v.invariant.2 c.loop-i-test.false
