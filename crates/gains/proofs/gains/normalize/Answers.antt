-- `gains::gains::normalize` meets its contract: each branch is a case of the definition. Assumes nothing.
use Rattle.std.proofs.Common.{◌∙◌, refl, rules}
use lib.Ieee.{of_bits}
use Rattle.std.proofs.lemmas.Simd.{splat_is_map}
use Rattle.doubles.specs.Arithmetic.{◌⊘◌, zero64}
use Rattle.gains.proofs.gains.Normal.{normalized_yes, normalized_no}
use Rattle.gains.proofs.gains.normalize.Goals as goal

pub returns-then-is_finite-sum : goal.returns-then-is_finite-sum
unfolding of_bits
returns-then-is_finite-sum c =
    let v = c.args.v.now in
    let r = c.sqrt-root.result in
    c.change_each.ensures.mapped (λ x. x ⊘ r) (λ k x y p. search rules)
    ∙ normalized_yes v _ _ c.sum_squares-sum.ensures c.is_finite.ensures r c.if-is_finite-sum.true c.sqrt-root.ensures.value

pub returns-else-is_finite-sum : goal.returns-else-is_finite-sum
unfolding of_bits
returns-else-is_finite-sum c =
    let v = c.args.v.now in
    c.fill.ensures.after (λ y p. search rules)
    ∙ splat_is_map v _ zero64 refl
    ∙ normalized_no v _ _ c.sum_squares-sum.ensures c.is_finite.ensures c.if-is_finite-sum.false
