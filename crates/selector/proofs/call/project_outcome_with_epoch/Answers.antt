-- Packed, planned, and answered by the planned key. What the types of the arguments say is what owning them tells.
use borrow.Author.Rules.{rules}
use Rattle.selector.specs.Call.{Typed}
use Rattle.selector.specs.Steps.{call_by, found_by}
use Rattle.selector.proofs.Owned.{call_owned}
use Rattle.selector.proofs.Selected.{plan_refuses, plan_yes, plan_serves}
use Rattle.selector.proofs.call.project_outcome_with_epoch.Goals as goal

pub invariant_of-room : goal.invariant_of-room
invariant_of-room c =
    let call = call_by c.args.l c.args.epoch c.args.e c.args.flags c.args.c c.args.points.now c.args.gains.now in
    let typed : Typed call = call_owned call _ _ c.well_formed.1.1.1.0 c.well_formed.1.1.1.1.1.1.1.0 in
    record {
      long = search rules;
      counted = c.active_count.ensures;
      accepted =
          plan_yes call typed (found_by c.args.keys.now c.args.r c.args.store.now) _ c.pack.ensures _ c.plan.ensures.value c.in-Ok.reading c.in-Ok.is _ c.plan.ensures.key;
    }

pub returns-in-Err : goal.returns-in-Err
returns-in-Err c =
    let call = call_by c.args.l c.args.epoch c.args.e c.args.flags c.args.c c.args.points.now c.args.gains.now in
    let typed : Typed call = call_owned call _ _ c.well_formed.1.1.1.0 c.well_formed.1.1.1.1.1.1.1.0 in
    let h = plan_refuses call typed (found_by c.args.keys.now c.args.r c.args.store.now) _ c.pack.ensures _ c.plan.ensures.value _ _ c.in-Err.is c.refused.ensures in
    record {
      value = h.0;
      keys = h.1.0;
      store = h.1.1.0;
      gains = h.1.1.1;
      typed = typed;
    }

pub returns-in-Ok : goal.returns-in-Ok
returns-in-Ok c =
    let call = call_by c.args.l c.args.epoch c.args.e c.args.flags c.args.c c.args.points.now c.args.gains.now in
    let typed : Typed call = call_owned call _ _ c.well_formed.1.1.1.0 c.well_formed.1.1.1.1.1.1.1.0 in
    let h = plan_serves call typed (found_by c.args.keys.now c.args.r c.args.store.now) _ c.pack.ensures _ c.plan.ensures.value c.in-Ok.reading c.in-Ok.is _ c.plan.ensures.key _ _ _ _ c.answer_by_key.ensures in
    record {
      value = h.0;
      keys = h.1.0;
      store = h.1.1.0;
      gains = h.1.1.1;
      typed = typed;
    }
