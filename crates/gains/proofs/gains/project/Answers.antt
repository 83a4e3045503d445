-- `gains::gains::project` meets its contract: the point gains where they alone go out, else the field mixed with them. Assumes nothing.
use Prim.Native.Nat.{ℕ}
use mathlib.Core.Path.{◌≡◌, sym, ap, ◌∙◌}
use mathlib.Core.Bool.{true≢false}
use mathlib.Core.List.{List, ◌++◌}
use lib.Ieee.{Float}
use lib.ListN.{take, drop}
use Rattle.layout.specs.declared.Centre.{Centre}
use Rattle.gains.specs.declared.Blend.{Blend}
use Rattle.gains.specs.Lookup.{channels}
use Rattle.gains.specs.Diffuse.{diffuse_of}
use Rattle.gains.specs.Gains.{normalized_of, blended, rows_in}
use Rattle.gains.proofs.gains.Normal.{blended_point}
use Rattle.gains.proofs.gains.Outcome.{field_of, projected_yes, projected_no}
use Rattle.gains.proofs.gains.project.Goals as goal
use Rattle.gains.proofs.gains.project.Goals.{in-Point, in_default, then-not-matches, else-not-matches}

pub returns-then-not-is_projectable-clause-gains_after : goal.returns-then-not-is_projectable-clause-gains_after
returns-then-not-is_projectable-clause-gains_after c =
    let a = c.args in
    projected_no a.store.now a.p a.n a.deep a.reading.mean a.reading.radius a.c a.points.now a.gains.now (sym c.is_projectable.ensures ∙ c.if-not-is_projectable.true)

pub returns-clause-gains_after : goal.returns-clause-gains_after
returns-clause-gains_after c =
    let a = c.args in
    let n = a.n in
    let g = a.gains.now in
    let w = c.blend_of-blend.result in
    let ps = take n a.points.now in
    let field = field_of a.store.now a.p n a.deep a.reading.radius a.c in
    let mixed : blended w ps c.if-not-matches.out ≡ blended w ps field =
    elim c.if-not-matches.branch [
      | then-not-matches v ↦
          let f = λ (x : Centre). channels n (λ (k : ℕ). diffuse_of (rows_in a.store.now a.p n k) a.deep x a.reading.radius) in
          ap (blended w ps) (v.out-is ∙ v.normalize.ensures ∙ ap normalized_of (v.diffuse.ensures ∙ ap f v.clamped.ensures))
      | else-not-matches v ↦
          elim c.match-matches.branch [
            | in-Point u ↦ sym (blended_point w ps c.if-not-matches.out u.in-Point.is) ∙ blended_point w ps field u.in-Point.is
            | in_default u ↦ absurd (true≢false (sym v.if-not-matches.false ∙ u.matches-is))
          ]
    ] in
    ap (λ (xs : List Float). xs ++ drop n g) (c.mix.ensures ∙ mixed ∙ ap (λ (b : Blend). blended b ps field) c.blend_of-blend.ensures)
    ∙ projected_yes a.store.now a.p n a.deep a.reading.mean a.reading.radius a.c a.points.now g (sym c.is_projectable.ensures ∙ c.if-not-is_projectable.false)
