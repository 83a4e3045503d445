-- The start behind the last row is how many anchors there are.
use Prim.Native.Nat.{min}
use mathlib.Core.List.{map}
use mathlib.Core.Path.{◌≡◌, ◌∙◌}
use borrow.Author.Rules.{rules}
use lib.ListN.{length, length-take}
use Rattle.lists.specs.Lists.{total}
use Rattle.lists.proofs.Loops.{long}
use Rattle.layout.specs.Topology.{row_count, layer_count, used_layers}
use Rattle.layout.proofs.StartsFrom.{starts_used}
use Rattle.layout.proofs.starts.anchor_total.Goals as goal

rows_are : (c : goal.After-row_total) → c.row_total.result ≡ min (total (map layer_count (used_layers c.args.l))) 24
rows_are c =
    let l = c.args.l in
    let e : length l.rows ≡ 24 = search (rules, long) in
    c.row_total.ensures ∙ rw (← e) (length-take _ l.rows)

pub returns : goal.returns
returns c =
    let l = c.args.l in
    rw (c.anchor_starts.ensures, rows_are c) (starts_used row_count 24 (total (map layer_count (used_layers l))) l.rows l.anchors (search (rules, long)) (search (rules, long)))
