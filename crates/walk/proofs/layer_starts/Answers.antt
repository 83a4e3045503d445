-- Each entry is the start of the anchors of the layer's first row.
use Prim.Native.Nat.{ℕ, suc, ◌≤◌, ◌<◌}
use mathlib.Core.Path.{◌≡◌, ap, ◌∙◌}
use mathlib.Core.List.{List, map}
use native.Mathlib.Omega.{arith}
use borrow.Author.Rules.{rules}
use lib.ListN.{length, get_or, length-map}
use Rattle.std.proofs.lemmas.Grind.{get_or_default_zero}
use Rattle.lists.proofs.Arrays.{map_by, callable_at_each}
use Rattle.lists.proofs.Loops.{long}
use Rattle.layout.specs.declared.Layer.{Layer}
use Rattle.layout.specs.Topology.{layer_count}
use Rattle.layout.specs.Steps.Starts.{starts_from}
use Rattle.layout.proofs.StartsFrom.{starts_length, starts_most}
use Rattle.walk.proofs.layer_starts.Goals as goal

-- ---- five row starts, none above 24
module _ (layers : List Layer) (n : length layers ≡ 4) (starts : List ℕ) (e : starts ≡ starts_from 0 (map layer_count layers)) where
  counts_long : length (map layer_count layers) ≡ 4
  counts_long = rw length-map n

  rows_long : length starts ≡ 5
  rows_long = ap length e ∙ starts_length 0 (map layer_count layers) ∙ ap suc counts_long

  rows_most : (i d : ℕ) → i < length starts → get_or starts i d ≤ 24
  rows_most i d h = rw (get_or_default_zero starts i d h, e) (starts_most (map layer_count layers) i (omega (arith, counts_long, rows_long)))

pub map-requires : goal.map-requires
map-requires c = (search rules, (search rules, (search rules, callable_at_each _ _ _ (λ x q r. search rules) _ (λ i d k. let m = rows_most c.args.l.layers (search (rules, long)) _ c.row_starts.ensures i d k in (λ _ _ _ _ _. omega (arith, m), λ _ _ _ _ _ _. omega (arith, m))))))

pub returns : goal.returns
returns c =
    map_by (λ (r : ℕ). get_or c.anchor_starts-anchors.result r 0) (λ q x y e. search rules) _ _ _ (rows_long c.args.l.layers (search (rules, long)) _ c.row_starts.ensures) c.map.ensures.items
    ∙ rw (c.anchor_starts-anchors.ensures, c.row_starts.ensures)
