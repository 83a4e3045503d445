-- `gains::diffuse::diffuse` meets its contract, by the weight. Assumes nothing.
use mathlib.Core.Path.{◌≡◌, ◌∙◌}
use native.Mathlib.Omega.{arith}
use borrow.Author.Rules.{rules}
use lib.Ieee.{nan, of_bits, ne}
use lib.ListN.{get_or}
use Rattle.std.proofs.lemmas.Bool.{not-true, not-false}
use Rattle.doubles.specs.Arithmetic.{◌⊗◌}
use Rattle.gains.specs.Steps.Rows.{rows_of}
use Rattle.gains.proofs.diffuse.Channels.{channels_of, channels_same}
use Rattle.gains.proofs.diffuse.Ends.{weight_is}
use Rattle.gains.proofs.diffuse.Field.{far_at, near_at}
use Rattle.gains.proofs.diffuse.diffuse.Goals as goal

pub returns-then-weight : goal.returns-then-weight
unfolding of_bits ne
returns-then-weight c =
    let a = c.args in
    let p = a.p.now in
    let s = c.respond in
    let w = weight_is a.c p.deep a.radius _ _ _ c.nearest_wall-wall.ensures c.distance_of.ensures c.lambda-weight.ensures in
    c.near_wall.ensures
    ∙ channels_same _ _ _ _ (c.change_each.ensures.length ∙ c.requires) (λ k h.
    let each = c.change_each.ensures.each k (omega arith) in
    let inside : get_or c.change_each.new.values k nan ≡ get_or s.new.out.x k nan ⊗ get_or s.new.out.y k nan ⊗ get_or s.new.out.z k nan = search rules in
    near_at (rows_of p k) p.deep a.c a.radius _ _ _ _ (s.ensures.x k h) (s.ensures.y k h) (s.ensures.z k h) w c.nearest_wall-wall.result _ _ c.nearest_wall-wall.ensures inside (c.end_at.ensures.product k h) (not-true _ c.if-weight.true))

pub returns-else-weight : goal.returns-else-weight
unfolding of_bits ne
returns-else-weight c =
    let a = c.args in
    let p = a.p.now in
    let s = c.respond in
    let w = weight_is a.c p.deep a.radius _ _ _ c.nearest_wall-wall.ensures c.distance_of.ensures c.lambda-weight.ensures in
    channels_of _ p.n c.change_each.new.values (c.change_each.ensures.length ∙ c.requires) (λ k h.
    let each = c.change_each.ensures.each k (omega arith) in
    let inside : get_or c.change_each.new.values k nan ≡ get_or s.new.out.x k nan ⊗ get_or s.new.out.y k nan ⊗ get_or s.new.out.z k nan = search rules in
    inside
    ∙ far_at (rows_of p k) p.deep a.c a.radius _ _ _ _ (s.ensures.x k h) (s.ensures.y k h) (s.ensures.z k h) w (not-false _ c.if-weight.false))
