-- By questions 11 to 14, and then by the mean.
use mathlib.Core.Path.{sym, ◌∙◌}
use Rattle.layout.proofs.RefusalLaws.{ok_says}
use Rattle.cache.proofs.Later.{later_gives}
use Rattle.selector.proofs.Answers.{accepted_leaves, later_asked, later_refused, later_unused, later_keyed}
use Rattle.selector.proofs.call.answer_by_key.Goals as goal

pub returns-in-Err : goal.returns-in-Err
returns-in-Err c =
    let a = c.args in
    let q = later_asked a.keys.now a.r a.store.now a.w.room.key.now a.w.reading a.w.centre a.w.points.now a.gains.now (tt {0}) _ _ a.w.room.counted c.later_no.ensures in
    later_refused a.keys.now a.r a.store.now a.w.room.key.now a.w.reading a.w.centre a.w.points.now a.gains.now (tt {0}) _ q c.in-Err.no c.in-Err.is _ c.refused.ensures

pub returns-then-w-eq0 : goal.returns-then-w-eq0
returns-then-w-eq0 c =
    let a = c.args in
    let q = later_asked a.keys.now a.r a.store.now a.w.room.key.now a.w.reading a.w.centre a.w.points.now a.gains.now (tt {0}) _ _ a.w.room.counted c.later_no.ensures in
    later_unused a.keys.now a.r a.store.now a.w.room.key.now a.w.reading a.w.centre a.w.points.now a.gains.now (tt {0}) _ q _ c.in_default.is c.if-w-eq0.true _ _
    (accepted_leaves a.keys.now a.r a.store.now a.w.room.key.now a.w.reading a.w.centre a.w.points.now a.gains.now _ _ _ _ c.accepted.ensures.reply c.accepted.ensures.gains)

pub keyed-requires : goal.keyed-requires
keyed-requires c =
    let a = c.args in
    (later_gives a.w.centre a.w.points.now _ _ _ a.r (ok_says _ (tt {0}) _ (sym c.later_no.ensures ∙ c.in_default.is)).0).2

pub returns : goal.returns
returns c =
    let a = c.args in
    let q = later_asked a.keys.now a.r a.store.now a.w.room.key.now a.w.reading a.w.centre a.w.points.now a.gains.now (tt {0}) _ _ a.w.room.counted c.later_no.ensures in
    later_keyed a.keys.now a.r a.store.now a.w.room.key.now a.w.reading a.w.centre a.w.points.now a.gains.now (tt {0}) _ q _ c.in_default.is c.if-w-eq0.false _ _ _ _ c.keyed.ensures
