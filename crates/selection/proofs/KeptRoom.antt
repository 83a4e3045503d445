-- The layers with just the anchors whose flags are set: their anchors, rows and layers as lists, and how many each keeps.
use Prim.Native.Nat.{ℕ, suc, ◌+◌}
use mathlib.Core.Path.{◌≡◌, refl, sym, ap, ap₂, ◌∙◌}
use mathlib.Core.Bool.{Bool, true, false, cond, not}
use mathlib.Core.List.{List, [], ◌∷◌, ◌++◌, map, map-append}
use native.Mathlib.Numerals.{one-add}
use native.Mathlib.Nat.{zero-add}
use native.Mathlib.Omega.{arith}
use borrow.Author.Tests.{ne_eqb}
use lib.Ieee.{Float}
use lib.ListN.{length, take, drop, length-map}
use lib.Seq.{drop-drop, take-append_seam, drop-append_seam}
use Rattle.lists.specs.Lists.{bit, flatten}
use Rattle.std.specs.List.{filter}
use Rattle.std.proofs.lemmas.List.Elements.{filter-append}
use Rattle.layout.specs.declared.Anchor.{Anchor}
use Rattle.layout.specs.Topology.{TopologyRow, TopologyLayer}
use Rattle.layout.proofs.TopologyStarts.{topology_anchors, topology_rows}
use Rattle.keys.specs.Keys.{rows_of_layer, anchors_of_row}
use Rattle.selection.specs.Selection.{is_empty, has_anchors, has_rows}
use Rattle.kept_anchors.specs.Steps.Kept.{picked, count_set, is_positive, counts_of}
use Rattle.selection.specs.Steps.{picked_rows, anchor_number, picked_layers, without_empty_rows, kept_topology}
use Rattle.kept_anchors.proofs.Picked.{filter_picked, map_picked}

abbrev pub row_anchors : List TopologyRow → List Anchor
row_anchors ws = flatten (map topology_anchors ws)

abbrev pub layer_rows : List TopologyLayer → List TopologyRow
layer_rows ys = flatten (map topology_rows ys)

-- ---- lists
picked_append : {A : Type 0} (bs : List Bool) (xs ys : List A) → picked bs (xs ++ ys) ≡ picked bs xs ++ picked (drop (length xs) bs) ys
picked_append [] [] ys = refl
picked_append [] (x ∷ xs) ys = refl
picked_append (b ∷ bs) [] ys = refl
picked_append {A = A} (true ∷ bs) (x ∷ xs) ys = ap (λ (l : List A). x ∷ l) (picked_append bs xs ys)
picked_append (false ∷ bs) (x ∷ xs) ys = picked_append bs xs ys

picked_count : {A : Type 0} (bs : List Bool) (xs : List A) → length (picked bs xs) ≡ count_set (take (length xs) bs)
picked_count [] [] = refl
picked_count [] (x ∷ xs) = refl
picked_count (b ∷ bs) [] = refl
picked_count (true ∷ bs) (x ∷ xs) = rw one-add (ap suc (picked_count bs xs))
picked_count (false ∷ bs) (x ∷ xs) = rw zero-add (picked_count bs xs)

filter_count : {A : Type 0} (p : A → Bool) (xs : List A) → length (filter p xs) ≡ count_set (map p xs)
filter_count p [] = refl
filter_count p (x ∷ xs) = go (p x) (filter_count p xs)
  where
    go : (b : Bool) → length (filter p xs) ≡ count_set (map p xs) → length (cond b (x ∷ filter p xs) (filter p xs)) ≡ bit b + count_set (map p xs)
    go true e = rw one-add (ap suc e)
    go false e = rw zero-add e

positive : {A : Type 0} (l : List A) → not (is_empty l) ≡ is_positive (length l)
positive [] = refl
positive (a ∷ l) = sym (ap not (ne_eqb (suc (length l)) 0 (λ q. omega (arith, q))))

-- what passes a test that asks whether a count is positive
module _ {A : Type 0} (p : A → Bool) (count : A → ℕ) (same : (x : A) → p x ≡ is_positive (count x)) where
  positives : (xs : List A) → map p xs ≡ map is_positive (map count xs)
  positives [] = refl
  positives (x ∷ xs) = ap₂ (λ (b : Bool) (l : List Bool). b ∷ l) (same x) (positives xs)

  filter_of : {B : Type 0} (f : A → B) (xs : List A) → map f (filter p xs) ≡ picked (map is_positive (map count xs)) (map f xs)
  filter_of f xs = ap (map f) (filter_picked p xs) ∙ map_picked f (map p xs) xs ∙ ap (λ (b : List Bool). picked b (map f xs)) (positives xs)

-- ---- rows
rows_picked_lem : (bs : List Bool) (ws : List TopologyRow) → row_anchors (picked_rows bs ws) ≡ picked bs (row_anchors ws)
rows_picked_lem [] [] = refl
rows_picked_lem (b ∷ bs) [] = refl
rows_picked_lem bs (w ∷ ws) =
    ap (λ (l : List Anchor). picked bs w.anchors ++ l) (rows_picked_lem (drop (length w.anchors) bs) ws)
    ∙ sym (picked_append bs w.anchors (row_anchors ws))

rows_counts : (bs : List Bool) (ws : List TopologyRow) → map anchors_of_row (picked_rows bs ws) ≡ counts_of (map anchors_of_row ws) bs
rows_counts bs [] = refl
rows_counts bs (w ∷ ws) = ap₂ (λ (n : ℕ) (l : List ℕ). n ∷ l) (picked_count bs w.anchors) (rows_counts (drop (length w.anchors) bs) ws)

rows_ys : {B : Type 0} (f : Float → B) (bs : List Bool) (ws : List TopologyRow) → map (λ (w : TopologyRow). f w.y) (picked_rows bs ws) ≡ map (λ (w : TopologyRow). f w.y) ws
rows_ys f bs [] = refl
rows_ys {B} f bs (w ∷ ws) = ap (λ (l : List B). f w.y ∷ l) (rows_ys f (drop (length w.anchors) bs) ws)

rows_long : (bs : List Bool) (ws : List TopologyRow) → length (picked_rows bs ws) ≡ length ws
rows_long bs [] = refl
rows_long bs (w ∷ ws) = ap suc (rows_long (drop (length w.anchors) bs) ws)

-- a row without anchors has none
rows_filled_lem : (ws : List TopologyRow) → row_anchors (filter has_anchors ws) ≡ row_anchors ws
rows_filled_lem [] = refl
rows_filled_lem (w ∷ ws) = go w.y w.anchors (rows_filled_lem ws)
  where
    go : (y : _) (l : List Anchor) → row_anchors (filter has_anchors ws) ≡ row_anchors ws → row_anchors (cond (not (is_empty l)) (record { y = y; anchors = l } ∷ filter has_anchors ws) (filter has_anchors ws)) ≡ l ++ row_anchors ws
    go y [] e = e
    go y (a ∷ l) e = ap (λ (t : List Anchor). a ∷ (l ++ t)) e

picked_rows_append : (bs : List Bool) (ws vs : List TopologyRow) → picked_rows bs (ws ++ vs) ≡ picked_rows bs ws ++ picked_rows (drop (anchor_number ws) bs) vs
picked_rows_append bs [] vs = refl
picked_rows_append bs (w ∷ ws) vs =
    let n = length w.anchors in
    ap {B = List TopologyRow} (λ t. record { y = w.y; anchors = picked bs w.anchors } ∷ t)
    (picked_rows_append (drop n bs) ws vs ∙ ap (λ (b : List Bool). picked_rows (drop n bs) ws ++ picked_rows b vs) (drop-drop (anchor_number ws) n bs))

-- ---- layers
layers_picked_lem : (bs : List Bool) (ys : List TopologyLayer) → layer_rows (picked_layers bs ys) ≡ picked_rows bs (layer_rows ys)
layers_picked_lem bs [] = refl
layers_picked_lem bs (y ∷ ys) =
    ap (λ (t : List TopologyRow). picked_rows bs y.rows ++ t) (layers_picked_lem (drop (anchor_number y.rows) bs) ys)
    ∙ sym (picked_rows_append bs y.rows (layer_rows ys))

layers_rows : (ys : List TopologyLayer) → layer_rows (map without_empty_rows ys) ≡ filter has_anchors (layer_rows ys)
layers_rows [] = refl
layers_rows (y ∷ ys) =
    ap (λ (t : List TopologyRow). filter has_anchors y.rows ++ t) (layers_rows ys)
    ∙ sym (filter-append has_anchors y.rows (layer_rows ys))

layers_filled : (ys : List TopologyLayer) → layer_rows (filter has_rows ys) ≡ layer_rows ys
layers_filled [] = refl
layers_filled (y ∷ ys) = go y.z y.rows (layers_filled ys)
  where
    go : (z : _) (ws : List TopologyRow) → layer_rows (filter has_rows ys) ≡ layer_rows ys → layer_rows (cond (not (is_empty ws)) (record { z = z; rows = ws } ∷ filter has_rows ys) (filter has_rows ys)) ≡ ws ++ layer_rows ys
    go z [] e = e
    go z (w ∷ ws) e = ap (λ (t : List TopologyRow). w ∷ (ws ++ t)) e

layers_zs : {B : Type 0} (f : Float → B) (bs : List Bool) (ys : List TopologyLayer) → map (λ (y : TopologyLayer). f y.z) (map without_empty_rows (picked_layers bs ys)) ≡ map (λ (y : TopologyLayer). f y.z) ys
layers_zs f bs [] = refl
layers_zs {B} f bs (y ∷ ys) = ap (λ (l : List B). f y.z ∷ l) (layers_zs f (drop (anchor_number y.rows) bs) ys)

-- how many rows each layer keeps
layers_counts : (bs : List Bool) (ys : List TopologyLayer) → map rows_of_layer (map without_empty_rows (picked_layers bs ys)) ≡ counts_of (map rows_of_layer ys) (map has_anchors (picked_rows bs (layer_rows ys)))
layers_counts bs [] = refl
layers_counts bs (y ∷ ys) =
    let cs = drop (anchor_number y.rows) bs in
    let us = map has_anchors (picked_rows bs y.rows) in
    let vs = map has_anchors (picked_rows cs (layer_rows ys)) in
    let n : length us ≡ length y.rows = length-map (picked_rows bs y.rows) has_anchors ∙ rows_long bs y.rows in
    let e : map has_anchors (picked_rows bs (y.rows ++ layer_rows ys)) ≡ us ++ vs = ap (map has_anchors) (picked_rows_append bs y.rows (layer_rows ys)) ∙ map-append has_anchors (picked_rows bs y.rows) (picked_rows cs (layer_rows ys)) in
    ap₂ (λ (m : ℕ) (l : List ℕ). m ∷ l)
    (filter_count has_anchors (picked_rows bs y.rows) ∙ ap count_set (sym (ap₂ (λ (k : ℕ) (l : List Bool). take k l) (sym n) e ∙ take-append_seam us vs)))
    (layers_counts cs ys ∙ ap (counts_of (map rows_of_layer ys)) (sym (ap₂ (λ (k : ℕ) (l : List Bool). drop k l) (sym n) e ∙ drop-append_seam us vs)))

-- ---- what is kept
module _ (bs : List Bool) (ys : List TopologyLayer) where
  -- how many anchors each row keeps, and how many rows each layer
  abbrev pub anchors_kept : List ℕ
  anchors_kept = counts_of (map anchors_of_row (layer_rows ys)) bs

  abbrev pub rows_kept : List ℕ
  rows_kept = counts_of (map rows_of_layer ys) (map is_positive anchors_kept)

  pub kept_rows : layer_rows (kept_topology bs ys) ≡ filter has_anchors (picked_rows bs (layer_rows ys))
  kept_rows =
      layers_filled (map without_empty_rows (picked_layers bs ys))
      ∙ layers_rows (picked_layers bs ys)
      ∙ ap (filter has_anchors) (layers_picked_lem bs ys)

  pub kept_anchors_lem : row_anchors (layer_rows (kept_topology bs ys)) ≡ picked bs (row_anchors (layer_rows ys))
  kept_anchors_lem = ap row_anchors kept_rows ∙ rows_filled_lem (picked_rows bs (layer_rows ys)) ∙ rows_picked_lem bs (layer_rows ys)

  pub kept_row_counts : map anchors_of_row (layer_rows (kept_topology bs ys)) ≡ picked (map is_positive anchors_kept) anchors_kept
  kept_row_counts =
      ap (map anchors_of_row) kept_rows
      ∙ filter_of has_anchors anchors_of_row (λ w. positive w.anchors) anchors_of_row (picked_rows bs (layer_rows ys))
      ∙ ap (λ (l : List ℕ). picked (map is_positive l) l) (rows_counts bs (layer_rows ys))

  pub kept_ys : {B : Type 0} (f : Float → B) → map (λ (w : TopologyRow). f w.y) (layer_rows (kept_topology bs ys)) ≡ picked (map is_positive anchors_kept) (map (λ (w : TopologyRow). f w.y) (layer_rows ys))
  kept_ys {B} f =
      ap (map (λ (w : TopologyRow). f w.y)) kept_rows
      ∙ filter_of has_anchors anchors_of_row (λ w. positive w.anchors) (λ (w : TopologyRow). f w.y) (picked_rows bs (layer_rows ys))
      ∙ ap₂ (λ (l : List ℕ) (m : List B). picked (map is_positive l) m) (rows_counts bs (layer_rows ys)) (rows_ys f bs (layer_rows ys))

  layer_counts_lem : map rows_of_layer (map without_empty_rows (picked_layers bs ys)) ≡ rows_kept
  layer_counts_lem =
      layers_counts bs ys
      ∙ ap (counts_of (map rows_of_layer ys)) (positives has_anchors anchors_of_row (λ w. positive w.anchors) (picked_rows bs (layer_rows ys)) ∙ ap (map is_positive) (rows_counts bs (layer_rows ys)))

  pub kept_layer_counts : map rows_of_layer (kept_topology bs ys) ≡ picked (map is_positive rows_kept) rows_kept
  kept_layer_counts =
      filter_of has_rows rows_of_layer (λ y. positive y.rows) rows_of_layer (map without_empty_rows (picked_layers bs ys))
      ∙ ap (λ (l : List ℕ). picked (map is_positive l) l) layer_counts_lem

  pub kept_zs : {B : Type 0} (f : Float → B) → map (λ (y : TopologyLayer). f y.z) (kept_topology bs ys) ≡ picked (map is_positive rows_kept) (map (λ (y : TopologyLayer). f y.z) ys)
  kept_zs {B} f =
      filter_of has_rows rows_of_layer (λ y. positive y.rows) (λ (y : TopologyLayer). f y.z) (map without_empty_rows (picked_layers bs ys))
      ∙ ap₂ (λ (l : List ℕ) (m : List B). picked (map is_positive l) m) layer_counts_lem (layers_zs f bs ys)

  pub kept_number : length (kept_topology bs ys) ≡ length (picked (map is_positive rows_kept) rows_kept)
  kept_number = sym (length-map (kept_topology bs ys) rows_of_layer) ∙ ap length kept_layer_counts
