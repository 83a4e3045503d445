-- By whether there is a last layer that has a place.
use mathlib.Core.Path.{◌≡◌}
use mathlib.Core.Bool.{true, false}
use borrow.Author.Rules.{rules}
use Rattle.layout.specs.Build.{has_layer, with_row}
use Rattle.layout.proofs.Layout.with_row.Goals as goal

pub returns-then-not-has_layer : goal.returns-then-not-has_layer
unfolding with_row
returns-then-not-has_layer c = let e : has_layer c.args.self ≡ false = search rules in rw e

pub returns : goal.returns
unfolding with_row
returns c = let e : has_layer c.args.self ≡ true = search rules in rw (e, c.put.ensures, c.row_total.ensures, c.one_more-layer.ensures)
