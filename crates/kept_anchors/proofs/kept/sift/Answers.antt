-- Of the first i entries those that are kept stand in front.
use Prim.Native.Nat.{◌+◌}
use mathlib.Core.Path.{refl, ◌∙◌}
use native.Mathlib.Omega.{arith}
use lib.ListN.{length, get_or}
use borrow.Author.Rules.{rules}
use Rattle.kept_anchors.proofs.Counts.{count_picked}
use Rattle.kept_anchors.proofs.Reached.{part_at, part_long}
use Rattle.kept_anchors.proofs.Sifted.{sifted_none, sifted_keep, sifted_skip, sifted_first, sifted_second, sifted_count, zeros_behind}
use Rattle.kept_anchors.proofs.kept.sift.Goals as goal
use Rattle.kept_anchors.proofs.kept.sift.Goals.{then-keep, else-keep}

pub loop-i-init : goal.loop-i-init
loop-i-init c =
    let s = c.args in
    let n = length s.kept.now in
    let key = s.key.now in
    sifted_none s.a s.b n s.kept.now _ _ _ (omega arith) (part_long s.a n key (omega arith)) (part_long s.b n key (omega arith)) (omega arith) (omega arith)

pub loop-i-preserved : goal.loop-i-preserved
loop-i-preserved c =
    let s = c.args in
    let n = length s.kept.now in
    let v = c.loop-i in
    let x = sifted_first s.a s.b _ _ _ _ _ v.key v.k v.i v.invariant (omega arith) ∙ part_at s.a n s.key.now v.i (omega arith) in
    let y = sifted_second s.a s.b _ _ _ _ _ v.key v.k v.i v.invariant (s.a + v.k) (get_or v.key (s.a + v.i) 0) (omega arith) (omega arith) ∙ part_at s.b n s.key.now v.i (omega arith) in
    elim c.if-keep.branch [
      | then-keep w ↦ sifted_keep s.a s.b _ _ _ _ _ v.key v.k v.i v.invariant _ _ _ _ _ _ w.key-is w.k-is (omega arith) w.if-keep.true refl refl x y
      | else-keep w ↦ sifted_skip s.a s.b _ _ _ _ _ v.key v.k v.i v.invariant _ _ w.key-is w.k-is (omega arith) w.if-keep.false
    ]

pub returns-clause-key_after : goal.returns-clause-key_after
returns-clause-key_after c =
    let v = c.loop-i in
    zeros_behind c.args.a c.args.b _ _ _ _ _ v.key v.k v.i v.invariant c.loop-i-test.false c.fill.new.self c.fill-2.new.self (search rules) (search rules)

pub returns-clause-number : goal.returns-clause-number
returns-clause-number c =
    let s = c.args in
    let v = c.loop-i in
    let n = length s.kept.now in
    sifted_count s.a s.b _ _ _ _ _ v.key v.k v.i v.invariant c.loop-i-test.false
    ∙ count_picked s.kept.now _ (part_long s.a n s.key.now (omega arith))
