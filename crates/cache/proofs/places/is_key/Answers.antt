-- No bit differs so far, and the rests are equal, exactly where the whole is.
use mathlib.Core.Path.{◌≡◌}
use native.Mathlib.Omega.{arith}
use borrow.Author.Rules.{rules}
use lib.ListN.{length}
use Rattle.cache.proofs.KeyCompare.{compared_none, compared_more, compared_done}
use Rattle.cache.proofs.places.is_key.Goals as goal

pub loop-i-init : goal.loop-i-init
loop-i-init c =
    let k : length c.args.keys.now ≡ 1248 = search rules in
    compared_none _ _ _ (omega arith) (search rules)

pub loop-i-preserved : goal.loop-i-preserved
loop-i-preserved c =
    let v = c.loop-i in
    compared_more _ _ _ v.differ v.i v.invariant (omega arith)

pub returns : goal.returns
returns c = compared_done _ _ _ _ _ c.loop-i.invariant (omega arith)
