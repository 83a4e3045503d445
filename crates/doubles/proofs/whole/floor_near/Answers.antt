-- `doubles::whole::floor_near` meets its contract, by `proofs/NearestWhole.antt`. Assumes nothing.
use lib.Ieee.{of_bits}
use Rattle.std.proofs.lemmas.Float.{T_from_true, T_from_false}
use Rattle.doubles.proofs.NearestWhole.{floor_less, floor_itself, near_less, near_same}
use Rattle.doubles.proofs.whole.floor_near.Goals as goal

pub returns-then-n-x : goal.returns-then-n-x
unfolding of_bits
returns-then-n-x c =
    let x = c.args.x in
    let h = T_from_true _ c.if-n-x.true in
    record {
      value = floor_less x h;
      near = λ p q. near_less x p q h;
    }

pub returns-else-n-x : goal.returns-else-n-x
unfolding of_bits
returns-else-n-x c =
    let x = c.args.x in
    let h = T_from_false _ c.if-n-x.false in
    record {
      value = floor_itself x h;
      near = λ p q. near_same x p q h;
    }
