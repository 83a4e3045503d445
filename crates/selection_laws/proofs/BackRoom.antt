-- A room and the one whose coordinates are read back from their patterns: the same is selected, and the same is asked.
use Prim.Native.Nat.{ℕ, suc}
use mathlib.Core.Path.{◌≡◌, refl, sym, ap, ap₂, ◌∙◌}
use mathlib.Core.Bool.{Bool, true, false, ◌&&◌, ◌||◌, not, cond}
use mathlib.Core.List.{List, [], ◌∷◌, ◌++◌, map, map-append}
use lib.Dec.{T, eqb, leb}
use lib.Ieee.{Float, binary64, fits, to_bits, lt, eq}
use lib.Ieee.Bits.{of_bits-to_bits}
use lib.Ieee.Fits.{add-fits}
use lib.ListN.{length, length-map}
use mir.Facts.{and_yes}
use Rattle.doubles.specs.Arithmetic.{◌⊕◌, zero64}
use Rattle.doubles.proofs.Alike.{blind, lt_same, same_lt}
use Rattle.lists.specs.Lists.{flatten}
use Rattle.std.specs.List.{list_all, filter}
use Rattle.layout.specs.declared.Anchor.{Anchor}
use Rattle.layout.specs.Room.{Room, rows_in, anchors_in}
use Rattle.layout.specs.Topology.{TopologyRow, TopologyLayer, anchor_name}
use Rattle.layout.specs.Questions.{topology_z}
use Rattle.layout.proofs.TopologyCut.{with_x, mapped_row, mapped_layer}
use Rattle.region.specs.declared.RegionSemanticState.{RegionSemanticState}
use Rattle.region.specs.Zones.{is_default, is_include, is_no_constraints}
use Rattle.classes.specs.Classes.{bed_of}
use Rattle.rules.specs.Rules.{is_kept, is_classed}
use Rattle.keys.specs.Keys.{pattern, rows_of_layer, anchors_of_row}
use Rattle.keys.proofs.Back.{back, back_alike}
use Rattle.keys.proofs.RoomBack.{back_room}
use Rattle.selection.specs.Selection.{five_x, is222, stays, has_anchors, has_rows, passing, passing_from, selected_room, question9, question10, classed_row, classed_layer}
use Rattle.selection.specs.Steps.{z_bits, y_bits, x_bits}
use Rattle.selection_laws.proofs.KeyOver.{z_pat, y_pat, x_pat}

-- ---- the lists of a room
bits_back : (x : Float) → to_bits binary64 (back x) ≡ pattern x
bits_back x = ap (to_bits binary64) (of_bits-to_bits binary64 (x ⊕ zero64) (add-fits binary64 x zero64))

map_both : {A B : Type 0} (f : A → A) (g h : A → B) → ((x : A) → g (f x) ≡ h x) → (v : List A) → map g (map f v) ≡ map h v
map_both f g h e [] = refl
map_both {B = B} f g h e (x ∷ v) = ap₂ (λ (y : B) (w : List B). y ∷ w) (e x) (map_both f g h e v)

concat_back : {A B : Type 0} (f : A → A) (g : B → B) (part : A → List B) → ((x : A) → part (f x) ≡ map g (part x)) → (v : List A) → flatten (map part (map f v)) ≡ map g (flatten (map part v))
concat_back f g part h [] = refl
concat_back {B = B} f g part h (x ∷ v) = ap₂ (λ (a b : List B). a ++ b) (h x) (concat_back f g part h v) ∙ sym (map-append g (part x) (flatten (map part v)))

module _ (r : Room) where
  rows_back : rows_in (back_room r) ≡ map (mapped_row back) (rows_in r)
  rows_back = concat_back (mapped_layer back) (mapped_row back) (λ (y : TopologyLayer). y.rows) (λ y. refl) r.layers

  anchors_back : anchors_in (back_room r) ≡ map (with_x back) (anchors_in r)
  anchors_back = ap (λ (v : List TopologyRow). flatten (map (λ (w : TopologyRow). w.anchors) v)) rows_back ∙ concat_back (mapped_row back) (with_x back) (λ (w : TopologyRow). w.anchors) (λ w. refl) (rows_in r)

  pub layers_number : length (back_room r).layers ≡ length r.layers
  layers_number = length-map r.layers (mapped_layer back)

  pub rows_number : length (rows_in (back_room r)) ≡ length (rows_in r)
  rows_number = ap length rows_back ∙ length-map (rows_in r) (mapped_row back)

  pub anchors_number : length (anchors_in (back_room r)) ≡ length (anchors_in r)
  anchors_number = ap length anchors_back ∙ length-map (anchors_in r) (with_x back)

  pub layer_counts_back : map rows_of_layer (back_room r).layers ≡ map rows_of_layer r.layers
  layer_counts_back = map_both (mapped_layer back) rows_of_layer rows_of_layer (λ y. length-map y.rows (mapped_row back)) r.layers

  pub row_counts_back : map anchors_of_row (rows_in (back_room r)) ≡ map anchors_of_row (rows_in r)
  row_counts_back = ap (map anchors_of_row) rows_back ∙ map_both (mapped_row back) anchors_of_row anchors_of_row (λ w. length-map w.anchors (with_x back)) (rows_in r)

  pub names_back : map anchor_name (anchors_in (back_room r)) ≡ map anchor_name (anchors_in r)
  names_back = ap (map anchor_name) anchors_back ∙ map_both (with_x back) anchor_name anchor_name (λ a. refl) (anchors_in r)

  pub zs_back : map z_bits (back_room r).layers ≡ map z_pat r.layers
  zs_back = map_both (mapped_layer back) z_bits z_pat (λ y. bits_back y.z) r.layers

  pub ys_back : map y_bits (rows_in (back_room r)) ≡ map y_pat (rows_in r)
  ys_back = ap (map y_bits) rows_back ∙ map_both (mapped_row back) y_bits y_pat (λ w. bits_back w.y) (rows_in r)

  pub xs_back : map x_bits (anchors_in (back_room r)) ≡ map x_pat (anchors_in r)
  xs_back = ap (map x_bits) anchors_back ∙ map_both (with_x back) x_bits x_pat (λ a. bits_back a.x) (anchors_in r)

-- ---- what is selected
filter_map : {A : Type 0} (f : A → A) (p q : A → Bool) → ((x : A) → p (f x) ≡ q x) → (xs : List A) → filter p (map f xs) ≡ map f (filter q xs)
filter_map f p q h [] = refl
filter_map {A} f p q h (x ∷ xs) = ap₂ (λ (b : Bool) (v : List A). cond b (f x ∷ v) v) (h x) (filter_map f p q h xs) ∙ go (q x)
  where
    go : (b : Bool) → cond b (f x ∷ map f (filter q xs)) (map f (filter q xs)) ≡ map f (cond b (x ∷ filter q xs) (filter q xs))
    go true = refl
    go false = refl

has_anchors_lem : (w : TopologyRow) → has_anchors (mapped_row back w) ≡ has_anchors w
has_anchors_lem w = go w.anchors
  where
    go : (v : List Anchor) → has_anchors (record { y = back w.y; anchors = map (with_x back) v }) ≡ has_anchors (record { y = w.y; anchors = v })
    go [] = refl
    go (a ∷ v) = refl

has_rows_lem : (y : TopologyLayer) → has_rows (mapped_layer back y) ≡ has_rows y
has_rows_lem y = go y.rows
  where
    go : (v : List TopologyRow) → has_rows (record { z = back y.z; rows = map (mapped_row back) v }) ≡ has_rows (record { z = y.z; rows = v })
    go [] = refl
    go (w ∷ v) = refl

eq_same : (x : Float) → T (fits binary64 x) → eq (back x) zero64 ≡ eq x zero64
unfolding eq
eq_same x h = sym (blind (λ (v : Float). eq v zero64) refl x (back x) (back_alike x h))

module _ (s : RegionSemanticState) (r : Room) where
  stays_back : (i : ℕ) (y : TopologyLayer) → T (fits binary64 y.z) → (a : Anchor) → stays s (back_room r) i (mapped_layer back y) (with_x back a) ≡ stays s r i y a
  stays_back i y h a =
      let w = back_alike y.z h in
      ap₂ (λ (above below : Bool). cond (cond (is222 r) above (eqb (length (map (mapped_layer back) r.layers)) 2 && eqb i 1)) (is_include s.top) ((is222 r && below) || is_kept (bed_of s.horizontal a.name (five_x r)))) (sym (same_lt y.z (back y.z) w zero64)) (sym (lt_same y.z (back y.z) w zero64))
      ∙ ap (λ (n : ℕ). cond (cond (is222 r) (lt zero64 y.z) (eqb n 2 && eqb i 1)) (is_include s.top) ((is222 r && lt y.z zero64) || is_kept (bed_of s.horizontal a.name (five_x r)))) (length-map r.layers (mapped_layer back))

  passing_back : (i : ℕ) (y : TopologyLayer) → T (fits binary64 y.z) → (ws : List TopologyRow) → map (passing (stays s (back_room r) i (mapped_layer back y))) (map (mapped_row back) ws) ≡ map (mapped_row back) (map (passing (stays s r i y)) ws)
  passing_back i y h [] = refl
  passing_back i y h (w ∷ ws) =
      ap₂ (λ (v : List Anchor) (vs : List TopologyRow). record { y = back w.y; anchors = v } ∷ vs) (filter_map (with_x back) (stays s (back_room r) i (mapped_layer back y)) (stays s r i y) (stays_back i y h) w.anchors) (passing_back i y h ws)

  from_back : (i : ℕ) (ys : List TopologyLayer) → T (list_all (fits binary64) (map topology_z ys)) → passing_from (stays s (back_room r)) i (map (mapped_layer back) ys) ≡ map (mapped_layer back) (passing_from (stays s r) i ys)
  from_back i [] h = refl
  from_back i (y ∷ ys) h =
      let p = and_yes (fits binary64 y.z) (list_all (fits binary64) (map topology_z ys)) h in
      ap₂ (λ (ws : List TopologyRow) (us : List TopologyLayer). record { z = back y.z; rows = ws } ∷ us)
      (ap (filter has_anchors) (passing_back i y p.0 y.rows) ∙ filter_map (mapped_row back) has_anchors has_anchors has_anchors_lem (map (passing (stays s r i y)) y.rows))
      (from_back (suc i) ys p.1)

  module _ (fit : T (list_all (fits binary64) (map topology_z r.layers))) where
    pub selected_back : selected_room s (back_room r) ≡ back_room (selected_room s r)
    selected_back = go (is_default s)
      where
        go : (b : Bool) → cond b (back_room r) (record { channels = r.channels; layers = filter has_rows (passing_from (stays s (back_room r)) 0 (map (mapped_layer back) r.layers)) }) ≡ back_room (cond b r (record { channels = r.channels; layers = filter has_rows (passing_from (stays s r) 0 r.layers) }))
        go true = refl
        go false = ap (λ (ys : List TopologyLayer). record { channels = r.channels; layers = ys }) (ap (filter has_rows) (from_back 0 r.layers fit) ∙ filter_map (mapped_layer back) has_rows has_rows has_rows_lem (passing_from (stays s r) 0 r.layers))

    -- ---- what is asked
    pub nine_back : question9 s (back_room r) ≡ question9 s r
    nine_back = ap (λ (q : Room). leb 1 (length q.layers)) selected_back ∙ ap (leb 1) (layers_number (selected_room s r))

    all_back : {A : Type 0} (f : A → A) (p q : A → Bool) → ((x : A) → p (f x) ≡ q x) → (v : List A) → list_all p (map f v) ≡ list_all q v
    all_back f p q h [] = refl
    all_back f p q h (x ∷ v) = ap₂ ◌&&◌ (h x) (all_back f p q h v)

    row_back : (w : TopologyRow) → classed_row (five_x r) s (mapped_row back w) ≡ classed_row (five_x r) s w
    row_back w =
        let classed : Anchor → Bool = λ a. is_classed (bed_of s.horizontal a.name (five_x r)) in
        all_back (with_x back) classed classed (λ a. refl) w.anchors

    layers_classed : (ys : List TopologyLayer) → T (list_all (fits binary64) (map topology_z ys)) → list_all (classed_layer (five_x r) s) (map (mapped_layer back) ys) ≡ list_all (classed_layer (five_x r) s) ys
    layers_classed [] h = refl
    layers_classed (y ∷ ys) h =
        let p = and_yes (fits binary64 y.z) (list_all (fits binary64) (map topology_z ys)) h in
        ap₂ ◌&&◌ (ap₂ (λ (a b : Bool). not a || b) (eq_same y.z p.0) (all_back (mapped_row back) (classed_row (five_x r) s) (classed_row (five_x r) s) row_back y.rows)) (layers_classed ys p.1)

    pub ten_back : question10 s (back_room r) ≡ question10 s r
    ten_back = ap (λ (b : Bool). is_no_constraints s.horizontal || b) (layers_classed r.layers fit)
