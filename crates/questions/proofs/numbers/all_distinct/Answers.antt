-- Each is compared with those before it.
use mathlib.Core.Path.{◌∙◌}
use borrow.Author.Rules.{rules}
use lib.ListN.{take}
use Rattle.std.proofs.lemmas.Iterator.{YieldsList-from_slice}
use Rattle.std.proofs.lemmas.Iterator.Consumers.{YieldsList-from_enumerate}
use Rattle.std.proofs.lemmas.Iterator.Search.{all_from_yields_List}
use Rattle.lists.proofs.Places.{elem_any}
use Rattle.questions.proofs.Distinct.{is_new, all_new}
use Rattle.questions.proofs.numbers.all_distinct.Goals as goal

pub returns : goal.returns
returns c =
    let v = c.args.v.now in
    all_from_yields_List (is_new v) _ _ c.all.result c.all.ensures.ran
    (YieldsList-from_enumerate (YieldsList-from_slice v (rw c.enumerate.ensures.source c.iter.ensures.rest)) c.enumerate.ensures.count)
    (λ x b q k. search (rules, elem_any (x.1.now) (take x.0 v)))
    ∙ all_new v
