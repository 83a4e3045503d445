-- `extent::radius::extent_no` meets its contract: each question is asked after a yes to those before it. Assumes nothing.
use mathlib.Core.Path.{sym, ◌∙◌}
use Rattle.std.proofs.lemmas.Result.{err_from_is_err_and}
use Rattle.extent.specs.Extent.{question7, question18}
use Rattle.layout.proofs.RefusalLaws.{ask_ok, ask_err}
use Rattle.extent.proofs.Readings.{extent_7, extent_18, extent_19}
use Rattle.extent.proofs.radius.extent_no.Goals as goal

pub returns-in_err-ask : goal.returns-in_err-ask
returns-in_err-ask c =
    let e = c.args.e in
    let p = err_from_is_err_and c.from_residual.result c.from_residual.ensures.1 in
    let h = ask_err (tt {0}) (question7 e) _ _ (sym (rw c.is_component.ensures at c.ask.ensures) ∙ c.in_err-ask.was) in
    let k = extent_7 (tt {0}) e h.0 in
    cc

pub returns-in_err-ask-2 : goal.returns-in_err-ask-2
returns-in_err-ask-2 c =
    let e = c.args.e in
    let x = ask_ok (tt {0}) (question7 e) _ _ (sym (rw c.is_component.ensures at c.ask.ensures) ∙ c.in_ok-ask.was) in
    let p = err_from_is_err_and c.from_residual-in_err-ask-2.result c.from_residual-in_err-ask-2.ensures.1 in
    let h = ask_err (tt {0}) (question18 e) _ _ (sym (rw c.is_component-2.ensures at c.ask-2.ensures) ∙ c.in_err-ask-2.was) in
    let k = extent_18 (tt {0}) e x h.0 in
    cc

pub returns : goal.returns
returns c =
    let e = c.args.e in
    let x = ask_ok (tt {0}) (question7 e) _ _ (sym (rw c.is_component.ensures at c.ask.ensures) ∙ c.in_ok-ask.was) in
    let y = ask_ok (tt {0}) (question18 e) _ _ (sym (rw c.is_component-2.ensures at c.ask-2.ensures) ∙ c.in_ok-ask-2.was) in
    rw c.is_component-3.ensures at c.ask-3.ensures ∙ extent_19 (tt {0}) e x y
