-- By what the extent and the flags are read as, and by what the selection answers.
use mathlib.Core.Path.{sym, ap, ◌∙◌}
use Rattle.std.specs.Prelude.{Ok, Err}
use Rattle.std.proofs.lemmas.Result.{err_from_is_err_and}
use Rattle.layout.proofs.RefusalLaws.{ok_says}
use Rattle.extent.specs.declared.Reading.{Reading}
use Rattle.region.specs.declared.RegionSemanticState.{RegionSemanticState}
use Rattle.extent.specs.Extent.{reading_of}
use Rattle.selector.specs.Call.{state_by}
use Rattle.selector.specs.Steps.{asked_no}
use Rattle.selector.proofs.Planned.{layout_refused, asked_refused, selection_refused, selection_made}
use Rattle.selector.proofs.planning.plan.Goals as goal

pub returns-in_err-first_no-in-Err : goal.returns-in_err-first_no-in-Err
returns-in_err-first_no-in-Err c =
    let a = c.args in
    let p = err_from_is_err_and c.from_residual-in_err-first_no-in-Err.result c.from_residual-in_err-first_no-in-Err.ensures.1 in
    let h = layout_refused a.key.now a.e a.flags (tt {0}) (tt {0}) (tt {0}) _ (sym c.first_no.ensures ∙ c.in_err-first_no-in-Err.was) in
    record { value = p.1 ∙ ap Err p.2 ∙ h.0; key = h.1 }

pub returns-in_ok-first_no-in-Err : goal.returns-in_ok-first_no-in-Err
returns-in_ok-first_no-in-Err c =
    let a = c.args in
    let h = asked_refused a.key.now a.e a.flags (tt {0}) _ (reading_of a.e, state_by a.flags) c.in-Err.no (sym c.first_no.ensures ∙ c.in_ok-first_no-in-Err.was) (sym c.asked.ensures ∙ c.in-Err.is) in
    record { value = h.0; key = h.1 }

-- the extent and the flags are read, with no no among their questions
pub returns-in_err-derive_selected_layout-in-Ok : goal.returns-in_err-derive_selected_layout-in-Ok
returns-in_err-derive_selected_layout-in-Ok c =
    let a = c.args in
    let w = ok_says (asked_no a.e a.flags) (reading_of a.e, state_by a.flags) _ (sym c.asked.ensures ∙ c.in-Ok.is) in
    let s = ap (λ (p : Reading × RegionSemanticState). p.1) w.1 in
    let p = err_from_is_err_and c.from_residual.result c.from_residual.ensures.1 in
    let d = c.derive_selected_layout.ensures in
    let h = selection_refused a.key.now a.e a.flags (tt {0}) (tt {0}) w.0 c.in-Ok.state s _ (sym d.value ∙ c.in_err-derive_selected_layout-in-Ok.was) _ d.key in
    record { value = p.1 ∙ ap Err p.2 ∙ h.0; key = h.1 }

pub returns-in_ok-derive_selected_layout-in-Ok : goal.returns-in_ok-derive_selected_layout-in-Ok
returns-in_ok-derive_selected_layout-in-Ok c =
    let a = c.args in
    let w = ok_says (asked_no a.e a.flags) (reading_of a.e, state_by a.flags) _ (sym c.asked.ensures ∙ c.in-Ok.is) in
    let r = ap (λ (p : Reading × RegionSemanticState). p.0) w.1 in
    let s = ap (λ (p : Reading × RegionSemanticState). p.1) w.1 in
    let d = c.derive_selected_layout.ensures in
    let h = selection_made a.key.now a.e a.flags (tt {0}) _ w.0 c.in-Ok.state s (sym d.value ∙ c.in_ok-derive_selected_layout-in-Ok.was) _ d.key in
    record { value = ap Ok r ∙ h.0; key = h.1 }
