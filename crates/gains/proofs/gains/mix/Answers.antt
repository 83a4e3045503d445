-- `gains::gains::mix` meets its contract: each arm is a case of the definition. Assumes nothing.
use mathlib.Core.Path.{ap, ◌∙◌}
use borrow.Author.Rules.{rules}
use lib.Ieee.{Float, of_bits, round}
use Rattle.doubles.specs.Arithmetic.{◌⊕◌, ◌⊗◌, dec}
use Rattle.gains.specs.Gains.{normalized_of}
use Rattle.gains.proofs.gains.Front.{zipped}
use Rattle.gains.proofs.gains.Normal.{blended_point, blended_both, blended_field}
use Rattle.gains.proofs.gains.mix.Goals as goal
use Rattle.gains.proofs.gains.mix.Goals.{in-Both, in-Field}

pub returns-in-Point : goal.returns-in-Point
returns-in-Point c = c.copy_from_slice.ensures.after ∙ blended_point _ c.args.points.now c.args.gains.now c.in-Point.is

pub returns : goal.returns
unfolding of_bits round
returns c =
    let p = c.args.points.now in
    let d = c.args.gains.now in
    c.normalize.ensures
    ∙ elim c.match-blend.branch [
      | in-Both w ↦
          let a = w.in-Both.a in
          let b = w.in-Both.b in
          let f = λ (y x : Float). a ⊗ y ⊕ b ⊗ x in
          ap normalized_of (w.gains-is ∙ zipped f p d w.change_each.new.values c.requires w.change_each.ensures.length (λ k h. let each = w.change_each.ensures.each k h in search rules))
          ∙ blended_both _ p d a b w.in-Both.is
      | in-Field w ↦
          ap normalized_of (w.gains-is ∙ w.change_each-in-Field.ensures.mapped (λ x. dec 5 1 ⊗ x) (λ k x y q. search rules))
          ∙ blended_field _ p d w.in-Field.is
    ]
