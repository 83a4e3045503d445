-- A no of the extent is told before one of the flags.
use mathlib.Core.Path.{sym, ap, ◌∙◌}
use Rattle.std.specs.Prelude.{Err}
use Rattle.std.proofs.lemmas.Result.{err_from_is_err_and}
use Rattle.extent.specs.Extent.{reading_of}
use Rattle.selector.specs.Call.{state_by}
use Rattle.selector.proofs.Planned.{zones_answer, asked_zones}
use Rattle.selector.proofs.planning.asked.Goals as goal

pub returns-in_err-state : goal.returns-in_err-state
returns-in_err-state c =
    let e = c.args.e in
    let flags = c.args.flags in
    let p = err_from_is_err_and c.from_residual-in_err-state.result c.from_residual-in_err-state.ensures.1 in
    let z = zones_answer flags _ c.from_decoded_zones.ensures.value c.from_decoded_zones.ensures.result_value in
    p.1 ∙ ap Err p.2 ∙ sym (asked_zones e flags (reading_of e) _ (state_by flags) (reading_of e, state_by flags) _ (sym c.read_extent.ensures ∙ c.in_ok-reading.was) (sym z ∙ c.in_err-state.was))
