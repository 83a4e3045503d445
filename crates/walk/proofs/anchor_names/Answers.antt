-- The array's map is the list's.
use borrow.Author.Rules.{rules}
use Rattle.lists.proofs.Arrays.{map_of}
use Rattle.lists.proofs.Loops.{long}
use Rattle.layout.specs.Topology.{anchor_name}
use Rattle.walk.proofs.anchor_names.Goals as goal

pub returns : goal.returns
returns c = map_of anchor_name (λ p q x y e. search rules) _ _ _ (search (rules, long)) c.map.ensures.items
