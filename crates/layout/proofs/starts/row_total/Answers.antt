-- The start behind the last layer is how many rows there are.
use borrow.Author.Rules.{rules}
use Rattle.lists.proofs.Loops.{long}
use Rattle.layout.specs.Topology.{layer_count}
use Rattle.layout.proofs.StartsFrom.{starts_used}
use Rattle.layout.proofs.starts.row_total.Goals as goal

pub returns : goal.returns
returns c =
    let l = c.args.l in
    rw (c.row_starts.ensures, c.covered_layers.ensures) (starts_used layer_count 4 l.depth l.layers l.rows (search (rules, long)) (search (rules, long)))
