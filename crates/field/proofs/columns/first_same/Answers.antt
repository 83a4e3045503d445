-- The place found among the columns before is what `find` finds in the range.
use mathlib.Core.Path.{◌≡◌, refl, ap, ◌∙◌}
use mathlib.Core.List.{List, []}
use Prim.Native.Nat.{ℕ}
use native.Mathlib.Omega.{arith}
use borrow.Author.Rules.{rules}
use borrow.Author.Tests.{tests}
use lib.Ieee.{Float}
use lib.ListN.{length, take, get_or}
use lib.Seq.{length-take-le, get_or-take}
use Rattle.std.specs.Prelude.{Option, unwrap_or}
use Rattle.std.specs.List.{find, range_with_len}
use Rattle.std.proofs.lemmas.Iterator.{YieldsList-from_slice}
use Rattle.std.proofs.lemmas.Iterator.Search.{position_from_yields_List}
use Rattle.std.proofs.lemmas.Iterator.Adapters.{position_from-zero}
use Rattle.field.specs.Steps.Columns.{same_column, same_channels}
use Rattle.field.proofs.SameColumns.{position_in}
use Rattle.field.proofs.columns.first_same.Goals as goal

pub returns : goal.returns
returns g c =
    let a = c.args in
    let p = λ (x : List Float). same_column g.row.SAMPLES x (get_or a.columns.now a.k []) in
    let q = λ (j : ℕ). same_channels g.row.SAMPLES a.columns.now j a.k in
    let front = take a.k a.columns.now in
    let long : length front ≡ a.k = length-take-le a.k a.columns.now (omega arith) in
    let e = position_from_yields_List p _ _ c.position.result c.position.ensures.ran (YieldsList-from_slice front (search rules)) (λ x b q k. search (rules, tests)) in
    c.unwrap_or.ensures
    ∙ ap (λ (o : Option ℕ). unwrap_or o a.k)
    (e ∙ position_from-zero p front ∙ position_in p q [] 0 front (λ k j e m. let h : k ≡ j = omega (arith, e) in rw (h, get_or-take a.k a.columns.now j [] (omega (arith, m, long))) refl) ∙ ap (λ (n : ℕ). find q (range_with_len 0 n)) long)
