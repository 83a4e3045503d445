-- `gains::gains::sum_squares` meets its contract: one turn of the fold adds one square. Assumes nothing.
use Rattle.std.proofs.Common.{◌∙◌, Float, rules}
use Rattle.std.proofs.lemmas.Iterator.{YieldsList-from_slice}
use Rattle.std.proofs.lemmas.Iterator.Consumers.{fold_from_yields_List}
use lib.Ieee.{binary64, of_bits}
use Rattle.doubles.specs.Arithmetic.{◌⊕◌, ◌⊗◌, zero64}
use Rattle.gains.proofs.gains.Front.{squares_folded}
use Rattle.gains.proofs.gains.sum_squares.Goals as goal

pub returns : goal.returns
unfolding of_bits
returns c =
    let v = c.args.v.now in
    fold_from_yields_List _ (λ (s x : Float). s ⊕ x ⊗ x) zero64 c.fold.result c.fold.ensures.ran (YieldsList-from_slice v cc) (λ a x b q k. search rules)
    ∙ squares_folded binary64 zero64 v
