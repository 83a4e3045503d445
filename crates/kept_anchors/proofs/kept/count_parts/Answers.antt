-- The first i counts are written, and `at` is where the flags of part i begin.
use Prim.Native.Nat.{ℕ, ◌+◌, ◌<◌, min}
use mathlib.Core.Path.{◌≡◌, refl, sym, ap, ◌∙◌}
use mathlib.Core.Bool.{Bool}
use mathlib.Core.List.{List, [], ◌∷◌, ◌++◌, map}
use native.Mathlib.Omega.{arith}
use borrow.Author.Rules.{rules}
use lib.ListN.{length, take, drop, set, get_or, replicate}
use Rattle.std.specs.List.{between, count_by}
use Rattle.std.proofs.iter.runs.Made.{chains}
use Rattle.std.proofs.lemmas.List.{length-take-le, take_all, take_more, map-set}
use Rattle.std.proofs.lemmas.Slice.{between_is}
use Rattle.lists.specs.Lists.{total}
use Rattle.lists.proofs.Filter.{write_more}
use Rattle.kept_anchors.specs.Steps.Kept.{is_positive, counts_of}
use Rattle.kept_anchors.proofs.Counts.{count_set_is}
use Rattle.kept_anchors.proofs.Reached.{counts_long, reached_more, reached_count, left_to_read, counts_written}
use Rattle.kept_anchors.proofs.kept.count_parts.Goals as goal

pub loop-i-preserved : goal.loop-i-preserved
loop-i-preserved c =
    let v = c.loop-i in
    let ns = c.args.lengths.now in
    let bs = c.args.flags.now in
    let cs = counts_of ns bs in
    let n = length ns in
    let w = v.invariant.0 in
    let e = c.next_start-end.ensures in
    let zeros : List ℕ = replicate 24 0 in
    let long : length bs ≡ 24 = search rules in
    let m = counts_long ns bs in
    let front : length (take v.i cs) ≡ v.i = length-take-le v.i cs (omega arith) in
    let read : get_or v.lengths v.i 0 ≡ get_or ns v.i 0 = ap (λ (l : List ℕ). get_or l v.i 0) v.invariant.1 ∙ left_to_read (take v.i cs) ns v.i 0 front (omega arith) in
    let counted : c.count-count.result ≡ count_by (λ (b : Bool). b) (between v.at c.next_start-end.result bs) = search (rules, chains) in
    let x = counted ∙ ap (count_by (λ (b : Bool). b)) (between_is bs v.at c.next_start-end.result) ∙ count_set_is _ ∙ reached_count ns n v.at v.i w bs _ _ long (omega arith) read e in
    let written : (old : List ℕ) → v.i < length old → set (take v.i cs ++ drop v.i old) v.i c.count-count.result ≡ take (v.i + 1) cs ++ drop (v.i + 1) old =
    λ old h. write_more (take v.i cs) old v.i c.count-count.result front h
    ∙ ap (λ (l : List ℕ). l ++ drop (v.i + 1) old) (ap (λ (y : ℕ). take v.i cs ++ (y ∷ [])) x ∙ sym (take_more cs v.i 0 (omega arith))) in (
      reached_more ns n v.at v.i w _ _ (omega arith) read e,
      rw v.invariant.1 (written ns (omega arith)),
      rw v.invariant.2 (sym (map-set is_positive (take v.i cs ++ drop v.i zeros) v.i c.count-count.result) ∙ ap (map is_positive) (written zeros (omega (arith, c.requires.room)))),
    )

pub returns-clause-counts : goal.returns-clause-counts
returns-clause-counts c = counts_written _ _ _ c.loop-i.i (omega arith) c.loop-i.invariant.1
