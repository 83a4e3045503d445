-- `circular::alternating_series` meets its contract: r is the series of the entries that the loop has left behind. Assumes nothing.
use Rattle.std.proofs.Common.{◌-◌, length}
use lib.Ieee.{of_bits}
use Rattle.doubles.proofs.Floors.{casts}
use Rattle.approximations.proofs.circular.Series.{series_last, series_step, step_exact, series_all, entry_exact}
use Rattle.approximations.proofs.circular.alternating_series.Goals as goal

pub int_to_float-r : goal.int_to_float-r
int_to_float-r c =
    let ks = c.args.factorials.now in
    casts _ (entry_exact ks c.requires.factorials_exact (length ks - 1))

pub loop-f-init : goal.loop-f-init
unfolding of_bits
loop-f-init c =
    series_last c.args.y c.args.factorials.now _ c.requires.factorials_nonzero
    (rw (c.into_iter-f-iterator.ensures.into_iter_gives, c.rev-f-items.ensures.source) c.iter.ensures.rest)

pub int_to_float-r-in-loop-f : goal.int_to_float-r-in-loop-f
int_to_float-r-in-loop-f c = casts _ (step_exact _ _ _ _ _ _ c.loop-f.invariant c.in-Some.ensures.steps c.requires.factorials_exact)

pub loop-f-preserved : goal.loop-f-preserved
unfolding of_bits
loop-f-preserved c = series_step _ _ _ _ _ _ c.loop-f.invariant c.in-Some.ensures.steps

pub returns : goal.returns
returns c = series_all _ _ _ _ c.loop-f.invariant c.in-None.ensures.steps.0
