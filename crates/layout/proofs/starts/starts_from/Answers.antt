-- The first i + 1 starts are written, and s is the last of them.
use mathlib.Core.Path.{refl}
use Rattle.layout.proofs.StartsFrom.{start_none, start_more}
use Rattle.layout.proofs.starts.starts_from.Goals as goal

pub loop-i-init : goal.loop-i-init
loop-i-init g c = start_none c.args.counts.now _ c.requires

pub loop-i-preserved : goal.loop-i-preserved
loop-i-preserved g c = start_more _ _ _ _ _ _ c.loop-i.invariant c.loop-i-test.true refl c.next_start-s.ensures
