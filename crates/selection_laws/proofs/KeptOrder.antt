-- A topology whose coordinates are in order keeps that.
use mathlib.Core.Path.{◌≡◌, refl, ap}
use mathlib.Core.Bool.{Bool}
use mathlib.Core.List.{List, [], ◌∷◌, map}
use lib.Dec.{T}
use lib.Ieee.{Float, lt}
use lib.ListN.{length, drop}
use mir.Facts.{and_yes, yes_and}
use Rattle.lists.specs.Lists.{chain}
use Rattle.std.specs.List.{list_all, filter}
use Rattle.std.proofs.lemmas.Float.{lt_trans}
use Rattle.layout.specs.Topology.{TopologyRow, TopologyLayer, anchor_x}
use Rattle.layout.specs.Questions.{in_room, ordered, ordered_row, ordered_layer, topology_y, topology_z}
use Rattle.selection.specs.Selection.{has_anchors, has_rows}
use Rattle.kept_anchors.specs.Steps.Kept.{picked}
use Rattle.selection.specs.Steps.{picked_rows, anchor_number, picked_layers, without_empty_rows, kept_topology}
use Rattle.kept_anchors.proofs.Picked.{filter_picked, map_picked}
use Rattle.selection_laws.proofs.Sublists.{all_picked, chain_picked}

ordered_picked : (bs : List Bool) (xs : List Float) → T (ordered xs) → T (ordered (picked bs xs))
ordered_picked bs xs h =
    let e = and_yes (list_all in_room xs) (chain lt xs) h in
    yes_and (list_all in_room (picked bs xs)) (chain lt (picked bs xs)) (all_picked in_room bs xs e.0) (chain_picked lt lt_trans bs xs e.1)

-- the coordinates of those that pass a test
ordered_filter : {A : Type 0} (p : A → Bool) (f : A → Float) (xs : List A) → T (ordered (map f xs)) → T (ordered (map f (filter p xs)))
ordered_filter p f xs h =
    rw (filter_picked p xs, map_picked f (map p xs) xs) (ordered_picked (map p xs) (map f xs) h)

all_filter : {A : Type 0} (p q : A → Bool) (xs : List A) → T (list_all q xs) → T (list_all q (filter p xs))
all_filter p q xs h = rw (filter_picked p xs) (all_picked q (map p xs) xs h)

-- ---- the rows of a layer
same_ys : (bs : List Bool) (rs : List TopologyRow) → map topology_y (picked_rows bs rs) ≡ map topology_y rs
same_ys bs [] = refl
same_ys bs (r ∷ rs) = ap (λ (l : List Float). r.y ∷ l) (same_ys (drop (length r.anchors) bs) rs)

rows_ordered : (bs : List Bool) (rs : List TopologyRow) → T (list_all ordered_row rs) → T (list_all ordered_row (picked_rows bs rs))
rows_ordered bs [] h = tt
rows_ordered bs (r ∷ rs) h =
    let e = and_yes (ordered_row r) (list_all ordered_row rs) h in
    yes_and (ordered (map anchor_x (picked bs r.anchors))) (list_all ordered_row (picked_rows (drop (length r.anchors) bs) rs))
    (rw (map_picked anchor_x bs r.anchors) (ordered_picked bs (map anchor_x r.anchors) e.0))
    (rows_ordered (drop (length r.anchors) bs) rs e.1)

layer_ordered : (bs : List Bool) (l : TopologyLayer) → T (ordered_layer l) → T (ordered_layer (without_empty_rows (record { z = l.z; rows = picked_rows bs l.rows })))
layer_ordered bs l h =
    let e = and_yes (ordered (map topology_y l.rows)) (list_all ordered_row l.rows) h in
    let rs = picked_rows bs l.rows in
    yes_and (ordered (map topology_y (filter has_anchors rs))) (list_all ordered_row (filter has_anchors rs))
    (ordered_filter has_anchors topology_y rs (rw (same_ys bs l.rows) e.0))
    (all_filter has_anchors ordered_row rs (rows_ordered bs l.rows e.1))

-- ---- the layers
same_zs : (bs : List Bool) (ls : List TopologyLayer) → map topology_z (map without_empty_rows (picked_layers bs ls)) ≡ map topology_z ls
same_zs bs [] = refl
same_zs bs (l ∷ ls) = ap (λ (t : List Float). l.z ∷ t) (same_zs (drop (anchor_number l.rows) bs) ls)

layers_ordered_lem : (bs : List Bool) (ls : List TopologyLayer) → T (list_all ordered_layer ls) → T (list_all ordered_layer (map without_empty_rows (picked_layers bs ls)))
layers_ordered_lem bs [] h = tt
layers_ordered_lem bs (l ∷ ls) h =
    let e = and_yes (ordered_layer l) (list_all ordered_layer ls) h in
    yes_and (ordered_layer (without_empty_rows (record { z = l.z; rows = picked_rows bs l.rows }))) (list_all ordered_layer (map without_empty_rows (picked_layers (drop (anchor_number l.rows) bs) ls)))
    (layer_ordered bs l e.0) (layers_ordered_lem (drop (anchor_number l.rows) bs) ls e.1)

module _ (bs : List Bool) (ls : List TopologyLayer) where
  pub kept_ordered : T (ordered (map topology_z ls)) → T (ordered (map topology_z (kept_topology bs ls)))
  kept_ordered h = ordered_filter has_rows topology_z (map without_empty_rows (picked_layers bs ls)) (rw (same_zs bs ls) h)

  pub kept_layers : T (list_all ordered_layer ls) → T (list_all ordered_layer (kept_topology bs ls))
  kept_layers h = all_filter has_rows ordered_layer (map without_empty_rows (picked_layers bs ls)) (layers_ordered_lem bs ls h)
