-- The pairs that `zip` yields are those of the samples.
use mathlib.Core.Path.{◌≡◌, refl, ◌∙◌}
use Prim.Native.Nat.{ℕ}
use native.Mathlib.Omega.{arith}
use borrow.Author.Rules.{rules}
use borrow.Author.Tests.{tests}
use lib.Dec.{eqb}
use lib.Ieee.{Float, nan, binary64, to_bits}
use Rattle.std.proofs.lemmas.Iterator.{YieldsList-from_slice, YieldsList-from_zip}
use Rattle.std.proofs.lemmas.Iterator.Search.{all_from_yields_List}
use Rattle.field.specs.Steps.Columns.{pattern_at}
use Rattle.field.proofs.SameColumns.{all_pairs}
use Rattle.field.proofs.columns.same_column.Goals as goal

pub returns : goal.returns
returns c =
    let a = c.args in
    let p = λ (z : Float × Float). eqb (to_bits binary64 z.0) (to_bits binary64 z.1) in
    let q = λ (s : ℕ). eqb (pattern_at a.a.now s) (pattern_at a.b.now s) in
    all_from_yields_List p c.all.new.self _ c.all.result c.all.ensures.ran (YieldsList-from_zip {s = c.zip.result} (YieldsList-from_slice a.a.now (search rules)) (YieldsList-from_slice a.b.now (search rules))) (λ x b q k. search (rules, tests))
    ∙ all_pairs p q nan 0 a.a.now a.b.now (omega arith) (λ k j e m. let h : k ≡ j = omega (arith, e) in rw h refl)
