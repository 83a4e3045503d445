-- Part by part.
use mathlib.Core.Path.{◌∙◌}
use native.Mathlib.Nat.{zero-add}
use borrow.Author.Rules.{rules}
use Rattle.kept_anchors.proofs.KeptKey.{packed}
use Rattle.kept_anchors.proofs.kept.pack_kept.Goals as goal

pub returns : goal.returns
returns c =
    let t = c.args in
    packed t.key.now (search rules) t.kept.now (search rules) _ _ _ _ _ _ _ _ _ _ _
    c.covered_layers-depth.ensures (c.reach-rows.ensures ∙ rw zero-add) c.count_parts-anchors.ensures.end
    c.count_parts-anchors.ensures.counts c.count_parts-anchors.ensures.any c.count_parts.ensures.counts c.count_parts.ensures.any
    c.sift-left.ensures.key_after c.sift-left.ensures.number c.sift.ensures.key_after c.sift-2.ensures.key_after
