-- `gains::knots::Knots::below` meets its contract. Assumes nothing.
use mathlib.Core.Path.{sym}
use native.Mathlib.Nat.{le_refl}
use native.Mathlib.Omega.{arith}
use borrow.Author.Rules.{rules}
use borrow.Author.Tests.{not-true}
use lib.Ieee.{nan, lt}
use Rattle.std.proofs.lemmas.List.Sorted.{IsPartitionPoint-from_clause}
use Rattle.std.proofs.lemmas.List.Sums.{prefix_len_is}
use Rattle.std.proofs.lemmas.Bool.{and_parts}
use Rattle.gains.proofs.lookup.Cases.{below_next}
use Rattle.gains.proofs.lookup.Rising.{of_knots, below_parted}
use Rattle.gains.proofs.knots.Knots.below.Goals as goal

pub returns-then-self-g : goal.returns-then-self-g
returns-then-self-g c =
    let s = c.args.self in
    let p = and_parts _ _ c.if-self-g.true in
    sym (below_next s.at.now (of_knots s) c.args.value c.guess-g.result c.guess-g.ensures p.0 (not-true _ p.1))

pub returns : goal.returns
returns c =
    let s = c.args.self in
    let v = c.args.value in
    let found = c.partition_point in
    let point = IsPartitionPoint-from_clause (λ x. lt x v) _ _ found.ensures.partitioned (below_parted s.at.now v (of_knots s)) (λ a r f k. search rules) in
    sym (prefix_len_is (λ x. lt x v) s.at.now found.result nan found.ensures.bound (λ k l. point.0 k nan (omega arith) l) (λ l. point.1 found.result nan (le_refl found.result) l))
