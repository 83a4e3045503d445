-- Each answer is found after a "yes" to those before it. What the yes of each says is told anew: each goal has a context of its own, and the lemmas of Answered take what they say.
use Prim.Native.Nat.{ℕ, ◌+◌}
use mathlib.Core.Bool.{true}
use mathlib.Core.Path.{◌≡◌, sym, ◌∙◌}
use borrow.Author.Rules.{rules}
use lib.ListN.{take, get_or}
use Rattle.std.specs.Prelude.{Some, None, slice_range}
use lib.Dec.{eqb}
use Rattle.layout.specs.Questions.{from_to}
use Rattle.std.specs.List.{list_any}
use Rattle.questions.specs.Steps.KeyNames.{good_names, all_active_names}
use Rattle.questions.specs.Steps.KeyOrder.{all_ordered}
use Rattle.layout.proofs.RefusalLaws.{ask_ok}
use Rattle.questions.specs.Steps.KeyCounts.{counted}
use Rattle.questions.proofs.Answered.{channels_out, names_bad, layers_out, none_active, rows_out, anchors_out, few, not_ordered, last_asked}
use Rattle.questions.proofs.first.first_no.Goals as goal

pub returns-in_err-ask : goal.returns-in_err-ask
returns-in_err-ask c =
    let key = c.args.key.now in
    let e = channels_out key (search rules) (search rules) in
    search (rules, e)

pub returns-in_err-channels : goal.returns-in_err-channels
returns-in_err-channels c =
    let key = c.args.key.now in
    let sizes : from_to 1 24 (get_or key 152 0) ≡ true = ask_ok (tt {0}) _ _ _ (sym c.ask.ensures ∙ c.in_ok-ask.was) in
    let e = names_bad key (search rules) sizes (search rules) in
    search (rules, e)

pub returns-in_err-ask-2 : goal.returns-in_err-ask-2
returns-in_err-ask-2 c =
    let key = c.args.key.now in
    let sizes : from_to 1 24 (get_or key 152 0) ≡ true = ask_ok (tt {0}) _ _ _ (sym c.ask.ensures ∙ c.in_ok-ask.was) in
    let names : good_names (take (get_or key 152 0) key) ≡ true = search rules in
    let e = layers_out key (search rules) sizes names (search rules) in
    search (rules, e)

pub returns-in_err-ask-3 : goal.returns-in_err-ask-3
returns-in_err-ask-3 c =
    let key = c.args.key.now in
    let sizes : from_to 1 24 (get_or key 152 0) ≡ true = ask_ok (tt {0}) _ _ _ (sym c.ask.ensures ∙ c.in_ok-ask.was) in
    let names : good_names (take (get_or key 152 0) key) ≡ true = search rules in
    let depths : from_to 1 4 (get_or key 153 0) ≡ true = ask_ok (tt {0}) _ _ _ (sym c.ask-2.ensures ∙ c.in_ok-ask-2.was) in
    let e = none_active key (search rules) sizes names depths (search rules) in
    search (rules, e)

pub returns-in_err-rows : goal.returns-in_err-rows
returns-in_err-rows c =
    let key = c.args.key.now in
    let sizes : from_to 1 24 (get_or key 152 0) ≡ true = ask_ok (tt {0}) _ _ _ (sym c.ask.ensures ∙ c.in_ok-ask.was) in
    let names : good_names (take (get_or key 152 0) key) ≡ true = search rules in
    let depths : from_to 1 4 (get_or key 153 0) ≡ true = ask_ok (tt {0}) _ _ _ (sym c.ask-2.ensures ∙ c.in_ok-ask-2.was) in
    let some : list_any (λ (f : ℕ). eqb f 1) (slice_range key 24 (24 + get_or key 152 0)) ≡ true = search rules in
    let none : counted 6 (slice_range key 48 (48 + get_or key 153 0)) ≡ None = search rules in
    let e = rows_out key (search rules) sizes names depths some none in
    search (rules, e)

pub returns-in_err-anchors : goal.returns-in_err-anchors
returns-in_err-anchors c =
    let key = c.args.key.now in
    let sizes : from_to 1 24 (get_or key 152 0) ≡ true = ask_ok (tt {0}) _ _ _ (sym c.ask.ensures ∙ c.in_ok-ask.was) in
    let names : good_names (take (get_or key 152 0) key) ≡ true = search rules in
    let depths : from_to 1 4 (get_or key 153 0) ≡ true = ask_ok (tt {0}) _ _ _ (sym c.ask-2.ensures ∙ c.in_ok-ask-2.was) in
    let some : list_any (λ (f : ℕ). eqb f 1) (slice_range key 24 (24 + get_or key 152 0)) ≡ true = search rules in
    let r : counted 6 (slice_range key 48 (48 + get_or key 153 0)) ≡ Some c.in_ok-rows.rows = search rules in
    let none : counted 24 (slice_range key 52 (52 + c.in_ok-rows.rows)) ≡ None = search rules in
    let e = anchors_out key (search rules) sizes names depths some _ r none in
    search (rules, e)

pub all_ordered-requires-clause-totals : goal.all_ordered-requires-clause-totals
all_ordered-requires-clause-totals c =
    let key = c.args.key.now in
    let sizes : from_to 1 24 (get_or key 152 0) ≡ true = ask_ok (tt {0}) _ _ _ (sym c.ask.ensures ∙ c.in_ok-ask.was) in
    let names : good_names (take (get_or key 152 0) key) ≡ true = search rules in
    let depths : from_to 1 4 (get_or key 153 0) ≡ true = ask_ok (tt {0}) _ _ _ (sym c.ask-2.ensures ∙ c.in_ok-ask-2.was) in
    let some : list_any (λ (f : ℕ). eqb f 1) (slice_range key 24 (24 + get_or key 152 0)) ≡ true = search rules in
    let r : counted 6 (slice_range key 48 (48 + get_or key 153 0)) ≡ Some c.in_ok-rows.rows = search rules in
    let a : counted 24 (slice_range key 52 (52 + c.in_ok-rows.rows)) ≡ Some c.in_ok-anchors.anchors = search rules in
    few key (search rules) sizes names depths some _ r _ a

pub returns-in_err-ask-4 : goal.returns-in_err-ask-4
returns-in_err-ask-4 c =
    let key = c.args.key.now in
    let sizes : from_to 1 24 (get_or key 152 0) ≡ true = ask_ok (tt {0}) _ _ _ (sym c.ask.ensures ∙ c.in_ok-ask.was) in
    let names : good_names (take (get_or key 152 0) key) ≡ true = search rules in
    let depths : from_to 1 4 (get_or key 153 0) ≡ true = ask_ok (tt {0}) _ _ _ (sym c.ask-2.ensures ∙ c.in_ok-ask-2.was) in
    let some : list_any (λ (f : ℕ). eqb f 1) (slice_range key 24 (24 + get_or key 152 0)) ≡ true = search rules in
    let r : counted 6 (slice_range key 48 (48 + get_or key 153 0)) ≡ Some c.in_ok-rows.rows = search rules in
    let a : counted 24 (slice_range key 52 (52 + c.in_ok-rows.rows)) ≡ Some c.in_ok-anchors.anchors = search rules in
    let e = not_ordered key (search rules) sizes names depths some _ r _ a (search rules) in
    search (rules, e)

pub returns : goal.returns
returns c =
    let key = c.args.key.now in
    let sizes : from_to 1 24 (get_or key 152 0) ≡ true = ask_ok (tt {0}) _ _ _ (sym c.ask.ensures ∙ c.in_ok-ask.was) in
    let names : good_names (take (get_or key 152 0) key) ≡ true = search rules in
    let depths : from_to 1 4 (get_or key 153 0) ≡ true = ask_ok (tt {0}) _ _ _ (sym c.ask-2.ensures ∙ c.in_ok-ask-2.was) in
    let some : list_any (λ (f : ℕ). eqb f 1) (slice_range key 24 (24 + get_or key 152 0)) ≡ true = search rules in
    let r : counted 6 (slice_range key 48 (48 + get_or key 153 0)) ≡ Some c.in_ok-rows.rows = search rules in
    let a : counted 24 (slice_range key 52 (52 + c.in_ok-rows.rows)) ≡ Some c.in_ok-anchors.anchors = search rules in
    let order : all_ordered key (get_or key 153 0) c.in_ok-rows.rows ≡ true = search rules in
    let last : c.are_active.result ≡ all_active_names (take (get_or key 152 0) key) (slice_range key 24 (24 + get_or key 152 0)) (slice_range key 76 (76 + c.in_ok-anchors.anchors)) = search rules in
    c.ask-5.ensures ∙ last_asked key (search rules) sizes names depths some _ r _ a order c.are_active.result last
