-- The counts are those of the rows.
use mathlib.Core.Path.{ap, ◌∙◌}
use borrow.Author.Rules.{rules}
use Rattle.lists.proofs.Arrays.{map_of}
use Rattle.lists.proofs.Loops.{long}
use Rattle.layout.specs.Topology.{row_count}
use Rattle.layout.specs.Steps.Starts.{starts_from}
use Rattle.layout.proofs.starts.anchor_starts.Goals as goal

pub returns : goal.returns
returns c = c.starts_from.ensures ∙ ap (starts_from 0) (map_of row_count (λ p q x y e. search rules) _ _ _ (search (rules, long)) c.map.ensures.items)
