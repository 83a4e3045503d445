-- `gains::diffuse::near_wall` meets its contract, step by step. Assumes nothing.
use mathlib.Core.Path.{◌≡◌, ◌∙◌}
use mathlib.Core.List.{◌++◌}
use native.Mathlib.Omega.{arith}
use borrow.Author.Rules.{rules}
use lib.Ieee.{nan, of_bits, round}
use lib.ListN.{length, drop, replicate, get_or, get_or-append}
use lib.Seq.{length-take-le}
use Rattle.doubles.specs.Arithmetic.{◌⊕◌, ◌⊗◌, dec, zero64}
use Rattle.extent.specs.Kernel.{shaped_of}
use Rattle.gains.proofs.diffuse.Channels.{channels_same}
use Rattle.gains.proofs.diffuse.Steps.{compensated_at}
use Rattle.gains.proofs.diffuse.near_wall.Goals as goal

pub returns : goal.returns
unfolding of_bits round
returns c =
    let out = c.args.out.now in
    let w = c.args.end.now in
    let ends = c.change_each.new.values in
    let rest = drop (length out) (replicate 24 zero64) in
    let many : length ends ≡ length out = c.change_each.ensures.length ∙ length-take-le (length out) (replicate 24 zero64) (omega arith) in
    c.unshape.ensures
    ∙ channels_same _ _ _ _ c.change_each-2.ensures.length (λ k h.
    let each = c.change_each.ensures.each k (omega arith) in
    let each-2 = c.change_each-2.ensures.each k h in
    let end : get_or ends k nan ≡ shaped_of (w.kernel ⊗ get_or w.numbers.now k nan) c.shaping_exponent-exponent.result = search rules in
    let field : get_or c.change_each-2.new.values k nan ≡ dec 31640625 8 ⊗ (get_or out k nan ⊕ c.args.weight ⊗ (get_or (ends ++ rest) k nan ⊗ get_or w.a.now k nan ⊗ get_or w.b.now k nan)) = search rules in
    compensated_at w.kernel (get_or w.numbers.now k nan) (get_or (ends ++ rest) k nan) (get_or out k nan) (get_or w.a.now k nan) (get_or w.b.now k nan) c.args.weight (get_or c.change_each-2.new.values k nan) c.shaping_exponent-exponent.result c.args.radius
    (get_or-append ends rest nan k (omega arith) ∙ end) field c.shaping_exponent-exponent.ensures)
