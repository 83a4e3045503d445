-- The starts of one layer more.
use mathlib.Core.Path.{refl}
use native.Mathlib.Omega.{arith}
use borrow.Author.Rules.{rules}
use Prim.Native.Nat.{◌≤◌}
use Rattle.selection.proofs.KeyStarts as starts
use Rattle.selection.proofs.KeyStarts.{walk_none, walk_more, walk_done, starts_rise, starts_most}
use Rattle.selection.proofs.starts.layer_starts.Goals as goal

pub loop-i-init : goal.loop-i-init
loop-i-init c = walk_none c.args.key.now (search rules) _ refl refl

-- the rows of layer i: from `row` to `next`, within the 24 places
row_bounds : (c : goal.After-next_start-next) → (c.loop-i.row ≤ c.next_start-next.result) × (c.next_start-next.result ≤ 24)
row_bounds c =
    let v = c.loop-i in
    starts.row_bounds c.args.key.now (search rules) v.starts v.row v.i v.invariant c.loop-i-test.true _ 0 c.next_start-next.ensures

pub overflow_add-row : goal.overflow_add-row
overflow_add-row c = let b = row_bounds c in search rules

pub offset_bounds-key-row : goal.offset_bounds-key-row
offset_bounds-key-row c = let b = row_bounds c in search rules

pub slice_bounds-reach-count : goal.slice_bounds-reach-count
slice_bounds-reach-count c = omega (arith, row_bounds c)

pub slice_bounds-reach-start : goal.slice_bounds-reach-start
slice_bounds-reach-start c = let b = row_bounds c in search rules

pub loop-i-preserved : goal.loop-i-preserved
loop-i-preserved c =
    let v = c.loop-i in
    walk_more c.args.key.now (search rules) v.starts v.row v.i v.invariant c.loop-i-test.true _ _ c.next_start-next.ensures c.reach.ensures

pub returns : goal.returns
returns c =
    let key = c.args.key.now in
    let v = c.loop-i in
    let e = walk_done key (search rules) v.starts v.row v.i v.invariant (omega arith) in
    record { value = e; rise = starts_rise key (search rules) _ e; most = starts_most key (search rules) _ e }
