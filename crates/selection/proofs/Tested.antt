-- Flags that are the answers of a test, layer by layer: each layer keeps the anchors that pass its test.
use Prim.Native.Nat.{ℕ, suc}
use mathlib.Core.Path.{◌≡◌, refl, sym, ap, ap₂, ◌∙◌}
use mathlib.Core.Bool.{Bool, cond}
use mathlib.Core.List.{List, [], ◌∷◌, ◌++◌, map, map-append, append_assoc}
use lib.ListN.{length, drop}
use lib.Seq.{drop-drop}
use Rattle.lists.specs.Lists.{flatten}
use Rattle.std.specs.List.{filter}
use Rattle.layout.specs.declared.Anchor.{Anchor}
use Rattle.layout.specs.Topology.{TopologyRow, TopologyLayer}
use Rattle.layout.proofs.TopologyStarts.{topology_anchors}
use Rattle.selection.specs.Selection.{has_anchors, has_rows, passing, passing_from}
use Rattle.kept_anchors.specs.Steps.Kept.{picked}
use Rattle.selection.specs.Steps.{picked_rows, anchor_number, picked_layers, without_empty_rows, kept_topology, row_flags, layer_flags}

module _ (p : Anchor → Bool) where
  picked_answers : (xs : List Anchor) (bs : List Bool) → picked (map p xs ++ bs) xs ≡ filter p xs
  picked_answers [] [] = refl
  picked_answers [] (b ∷ bs) = refl
  picked_answers (x ∷ xs) bs = ap (λ (l : List Anchor). cond (p x) (x ∷ l) l) (picked_answers xs bs)

  drop_answers : (xs : List Anchor) (bs : List Bool) → drop (length xs) (map p xs ++ bs) ≡ bs
  drop_answers [] bs = refl
  drop_answers (x ∷ xs) bs = drop_answers xs bs

  rows_tested : (rs : List TopologyRow) (bs : List Bool) → picked_rows (row_flags p rs ++ bs) rs ≡ map (passing p) rs
  rows_tested [] bs = refl
  rows_tested (r ∷ rs) bs =
      let e = append_assoc (map p r.anchors) (row_flags p rs) bs in
      ap₂ {C = List TopologyRow} (λ (t : List Anchor) (u : List TopologyRow). record { y = r.y; anchors = t } ∷ u)
      (ap (λ (b : List Bool). picked b r.anchors) e ∙ picked_answers r.anchors (row_flags p rs ++ bs))
      (ap (λ (b : List Bool). picked_rows (drop (length r.anchors) b) rs) e ∙ ap (λ (b : List Bool). picked_rows b rs) (drop_answers r.anchors (row_flags p rs ++ bs)) ∙ rows_tested rs bs)

  drop_rows : (rs : List TopologyRow) (bs : List Bool) → drop (anchor_number rs) (row_flags p rs ++ bs) ≡ bs
  drop_rows [] bs = refl
  drop_rows (r ∷ rs) bs =
      sym (drop-drop (anchor_number rs) (length r.anchors) (row_flags p (r ∷ rs) ++ bs))
      ∙ ap (λ (b : List Bool). drop (anchor_number rs) (drop (length r.anchors) b)) (append_assoc (map p r.anchors) (row_flags p rs) bs)
      ∙ ap (drop (anchor_number rs)) (drop_answers r.anchors (row_flags p rs ++ bs))
      ∙ drop_rows rs bs

  -- one flag for each anchor
  pub rows_flags : (rs : List TopologyRow) → row_flags p rs ≡ map p (flatten (map topology_anchors rs))
  rows_flags [] = refl
  rows_flags (r ∷ rs) = ap (λ (t : List Bool). map p r.anchors ++ t) (rows_flags rs) ∙ sym (map-append p r.anchors (flatten (map topology_anchors rs)))

-- each layer with its test, told by its place i and by what it is
module _ (test : ℕ → TopologyLayer → Anchor → Bool) where
  layers_tested : (i : ℕ) (ls : List TopologyLayer) (bs : List Bool) → map without_empty_rows (picked_layers (layer_flags test i ls ++ bs) ls) ≡ passing_from test i ls
  layers_tested i [] bs = refl
  layers_tested i (l ∷ ls) bs =
      let cs = layer_flags test (suc i) ls in
      let e = append_assoc (row_flags (test i l) l.rows) cs bs in
      ap₂ {C = List TopologyLayer} (λ (t : List TopologyRow) (u : List TopologyLayer). record { z = l.z; rows = filter has_anchors t } ∷ u)
      (ap (λ (b : List Bool). picked_rows b l.rows) e ∙ rows_tested (test i l) l.rows (cs ++ bs))
      (ap (λ (b : List Bool). map without_empty_rows (picked_layers (drop (anchor_number l.rows) b) ls)) e
      ∙ ap (λ (b : List Bool). map without_empty_rows (picked_layers b ls)) (drop_rows (test i l) l.rows (cs ++ bs))
      ∙ layers_tested (suc i) ls bs)

  pub kept_tested : (ls : List TopologyLayer) (bs : List Bool) → kept_topology (layer_flags test 0 ls ++ bs) ls ≡ filter has_rows (passing_from test 0 ls)
  kept_tested ls bs = ap (filter has_rows) (layers_tested 0 ls bs)
