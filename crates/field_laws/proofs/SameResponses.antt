-- Topologies that are alike have the same responses on each axis at each finite coordinate. Assumes nothing.
use Prim.Native.Nat.{ℕ, zero, suc, ◌+◌}
use mathlib.Core.Path.{◌≡◌, refl, ap, ap₂, ◌∙◌}
use mathlib.Core.Bool.{Bool}
use mathlib.Core.List.{List, [], ◌∷◌, ◌++◌, map}
use lib.Dec.{T}
use lib.Ieee.{Float}
use lib.Ieee.Scale.{finite}
use lib.ListN.{get_or}
use mir.Facts.{and_yes}
use Rattle.doubles.specs.Arithmetic.{one64, zero64}
use Rattle.lists.specs.Lists.{flatten}
use Rattle.std.specs.List.{list_all}
use Rattle.layout.specs.declared.Anchor.{Anchor}
use Rattle.layout.specs.Topology.{TopologyRow, TopologyLayer, anchor_x}
use Rattle.layout.specs.Questions.{ordered, ordered_row, ordered_layer, topology_y, topology_z}
use Rattle.field.specs.declared.Pick.{Pick}
use Rattle.field.specs.declared.Pick.TheVariants.{One, Two}
use Rattle.field.specs.Knots.{Axis, X, Y, Z}
use Rattle.field.specs.Responses.{Weight, weighted, weights_of, alone, row_anchors, layer_anchors, row_weights_x, layer_weights_x, layer_weights_y, weights_on, added_up, response_on}
use Rattle.doubles.proofs.Alike.{Alike}
use Rattle.field_laws.proofs.SameTopologies.{Each, end, next, each_map, AnchorAlike, RowAlike, LayerAlike, TopologyAlike}
use Rattle.field_laws.proofs.SamePicks.{pick_same, layer_pick_same}

-- ---- lists of parts
module _ {A B : Type 0} {R : A → B → Type 0} where
  each_append : {xs us : List A} {ys vs : List B} → Each R xs ys → Each R us vs → Each R (xs ++ us) (ys ++ vs)
  each_append end e = e
  each_append (next w d) e = next w (each_append d e)

  each_concat : {xss : List (List A)} {yss : List (List B)} → Each (Each R) xss yss → Each R (flatten xss) (flatten yss)
  each_concat end = end
  each_concat (next w e) = each_append w (each_concat e)

  -- part i, and none past the last
  each_part : (i : ℕ) {xss : List (List A)} {yss : List (List B)} → Each (Each R) xss yss → Each R (get_or xss i []) (get_or yss i [])
  each_part i end = end
  each_part zero (next w e) = w
  each_part (suc i) (next w e) = each_part i e

-- what is the same of each that passes a test, is the same of all
each_same : {A B : Type 0} {R : A → A → Type 0} (q : A → Bool) (f : A → List B) → ((x y : A) → R x y → T (q x) → f x ≡ f y) → {xs ys : List A} → Each R xs ys → T (list_all q xs) → flatten (map f xs) ≡ flatten (map f ys)
each_same q f h end t = refl
each_same q f h (next {x = x} {y = y} {xs = xs} w e) t =
    let p = and_yes (q x) (list_all q xs) t in
    ap₂ ◌++◌ (h x y w p.0) (each_same q f h e p.1)

-- ---- the weights of a pick
weighted_same : (w : Float) {xs ys : List Anchor} → Each AnchorAlike xs ys → weighted w xs ≡ weighted w ys
weighted_same w end = refl
weighted_same w (next v e) = ap₂ (λ (n : ℕ) (r : List Weight). record { name = n; weight = w } ∷ r) v.0 (weighted_same w e)

spread_same : (p : Pick) {xss yss : List (List Anchor)} → Each (Each AnchorAlike) xss yss → weights_of p xss ≡ weights_of p yss
spread_same (One i) e = weighted_same one64 (each_part i e)
spread_same (Two i v w) e = ap₂ ◌++◌ (weighted_same v (each_part i e)) (weighted_same w (each_part (i + 1) e))

picked : {p q : Pick} {xss yss : List (List Anchor)} → p ≡ q → Each (Each AnchorAlike) xss yss → weights_of p xss ≡ weights_of q yss
picked {q = q} {xss = xss} g e = ap (λ (r : Pick). weights_of r xss) g ∙ spread_same q e

-- ---- the parts of topologies that are alike
xs_alike : {as' bs : List Anchor} → Each AnchorAlike as' bs → Each Alike (map anchor_x as') (map anchor_x bs)
xs_alike = each_map anchor_x anchor_x (λ x y w. w.1)

ys_alike : {rs ss : List TopologyRow} → Each RowAlike rs ss → Each Alike (map topology_y rs) (map topology_y ss)
ys_alike = each_map topology_y topology_y (λ x y w. w.0)

zs_alike : {ls ms : List TopologyLayer} → TopologyAlike ls ms → Each Alike (map topology_z ls) (map topology_z ms)
zs_alike = each_map topology_z topology_z (λ x y w. w.0)

alone_alike : {as' bs : List Anchor} → Each AnchorAlike as' bs → Each (Each AnchorAlike) (map alone as') (map alone bs)
alone_alike = each_map alone alone (λ x y w. next w end)

rows_alike : {rs ss : List TopologyRow} → Each RowAlike rs ss → Each (Each AnchorAlike) (map row_anchors rs) (map row_anchors ss)
rows_alike = each_map row_anchors row_anchors (λ x y w. w.1)

layers_alike : {ls ms : List TopologyLayer} → TopologyAlike ls ms → Each (Each AnchorAlike) (map layer_anchors ls) (map layer_anchors ms)
layers_alike = each_map layer_anchors layer_anchors (λ x y w. each_concat (rows_alike w.1))

-- ---- the weights
module _ (u : Float) (f : T (finite u)) where
  row_same : (r s : TopologyRow) → RowAlike r s → T (ordered_row r) → row_weights_x u r ≡ row_weights_x u s
  unfolding row_weights_x
  row_same r s w o = picked (pick_same u f (xs_alike w.1) o) (alone_alike w.1)

  layer_same_x : (l m : TopologyLayer) → LayerAlike l m → T (ordered_layer l) → layer_weights_x u l ≡ layer_weights_x u m
  unfolding layer_weights_x
  layer_same_x l m w o = each_same ordered_row (row_weights_x u) row_same w.1 (and_yes (ordered (map topology_y l.rows)) (list_all ordered_row l.rows) o).1

  layer_same_y : (l m : TopologyLayer) → LayerAlike l m → T (ordered_layer l) → layer_weights_y u l ≡ layer_weights_y u m
  unfolding layer_weights_y
  layer_same_y l m w o = picked (pick_same u f (ys_alike w.1) (and_yes (ordered (map topology_y l.rows)) (list_all ordered_row l.rows) o).0) (rows_alike w.1)

  module _ (t v : List TopologyLayer) (w : TopologyAlike t v) (oz : T (ordered (map topology_z t))) (ol : T (list_all ordered_layer t)) where
    weights_same : (a : Axis) → weights_on a t u ≡ weights_on a v u
    unfolding weights_on
    weights_same X = each_same ordered_layer (layer_weights_x u) layer_same_x w ol
    weights_same Y = each_same ordered_layer (layer_weights_y u) layer_same_y w ol
    weights_same Z = picked (layer_pick_same u f (zs_alike w) oz) (layers_alike w)

    pub response_same : (a : Axis) (name : ℕ) → response_on a t u name ≡ response_on a v u name
    unfolding response_on
    response_same a name = ap (added_up zero64 name) (weights_same a)
