-- One more entry is written, and in the end each name has one.
use mathlib.Core.Path.{sym, ◌∙◌}
use native.Mathlib.Omega.{arith}
use Rattle.questions.proofs.Indexed.{walked_more}
use Rattle.questions.proofs.names.Channels.new.Goals as goal

pub loop-i-preserved : goal.loop-i-preserved
loop-i-preserved c =
    let v = c.loop-i.invariant in
    let s = c.in-Some.ensures.steps in
    (walked_more _ _ _ _ v.0 _ _ s.1.0 c.in-Some.i c.entry-e.result (omega (arith, s.1.1, v.1)) c.entry-e.ensures (omega (arith, c.entry-e.ensures)) (sym c.is_name.ensures ∙ c.if-not-is_name.false), s.0 ∙ v.1)
