-- `doubles::whole::floor` meets its contract: near zero, but not at it, by `floor_near`, and else by std's floor. Assumes nothing.
use Rattle.std.proofs.Common.{T, true, false, pos, sym, subst, ◌∙◌}
use Rattle.std.proofs.lemmas.Float.{T_from_true, T_from_false, le_of_lt as lt_le}
use lib.Ieee.{fin, lt, ne, neg, of_bits}
use lib.Ieee.Fits.{and_l, and_r}
use Rattle.doubles.proofs.Floors.{std_floor, floor_zero}
use Rattle.doubles.proofs.NearestWhole.{floor_same, differs_not}
use Rattle.doubles.proofs.whole.floor.Goals as goal

pub returns-then-x : goal.returns-then-x
unfolding of_bits
returns-then-x c = floor_zero c.args.x (subst T (sym c.well_formed.0.1) tt) (T_from_true _ c.if-x.true)

pub returns-then-x-2 : goal.returns-then-x-2
unfolding neg of_bits ne
returns-then-x-2 c =
    let x = c.args.x in
    let above = lt (fin true 1 (pos 51)) x in
    let below = lt x (fin false 1 (pos 51)) in
    let between = T_from_true _ c.if-x-2.true in
    let from = lt_le (fin true 1 (pos 51)) x (and_l above below between) in
    let to = and_r above below between in
    c.floor_near.ensures.near from to ∙ floor_same x from to (differs_not x (T_from_false _ c.if-x.false))

pub returns-else-x-2 : goal.returns-else-x-2
returns-else-x-2 c = c.floor.ensures ∙ std_floor c.args.x
