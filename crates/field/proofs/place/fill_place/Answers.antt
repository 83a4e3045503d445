-- What it tests is the opposite of `fillable`.
use mathlib.Core.Path.{sym, ap, ◌∙◌}
use borrow.Author.Rules.{rules}
use lib.ListN.{length}
use Rattle.layout.specs.declared.Layout.{Layout}
use Rattle.lists.proofs.Loops.{long}
use Rattle.layout.specs.Questions.{first_no, layout_questions}
use Rattle.layout.proofs.Sizes.{Sized}
use Rattle.layout.proofs.QuestionsAccepted.{accepted}
use Rattle.keys.specs.InKey.{layout_in}
use Rattle.field.proofs.place.Refusal.{test_is, none_refuses, long_enough, among_eight}
use Rattle.field.proofs.place.fill_place.Goals as goal

pub fill-requires : goal.fill-requires
fill-requires c =
    let a = c.args in
    let q = first_no (layout_questions (layout_in a.key.now)) in
    let n = length a.store.now in
    let left = sym (test_is _ _ q n a.p c.is_err.ensures.value c.first_no.ensures) ∙ c.if-is_err-store.false in
    let l = c.unpack.result in
    let z : Sized l = search (rules, long) in
    let no = ap (λ (x : Layout). first_no (layout_questions x)) c.unpack.ensures ∙ none_refuses q n a.p left in
    (long_enough q n a.p left, among_eight q n a.p left, accepted l z.channels z.layers z.rows z.anchors no)
