-- By whether the last layer has a row: then there is a last row.
use mathlib.Core.Path.{◌≡◌}
use mathlib.Core.Bool.{true, false}
use borrow.Author.Rules.{rules}
use Rattle.layout.specs.Build.{has_row, with_anchor}
use Rattle.layout.proofs.Layout.with_anchor.Goals as goal

pub returns-then-not-has_row : goal.returns-then-not-has_row
unfolding with_anchor
returns-then-not-has_row c = let e : has_row c.args.self ≡ false = search rules in rw e

pub returns : goal.returns
unfolding with_anchor
returns c = let e : has_row c.args.self ≡ true = search rules in rw (e, c.put.ensures, c.anchor_total.ensures, c.one_more-row.ensures, c.row_total.ensures)
