-- Same rooms have topologies that are alike: as many layers, rows and anchors, the same names, and coordinates that are equal as numbers. And so has a room that a function keeping coordinates alike makes of one. Assumes nothing.
use Prim.Native.Nat.{suc}
use mathlib.Core.Path.{◌≡◌, refl, ap}
use mathlib.Core.Bool.{Bool}
use mathlib.Core.List.{List, [], ◌∷◌, map}
use lib.Dec.{T, eqb, eqb→eq}
use lib.Ieee.{Float, binary64, eq, fits}
use lib.ListN.{length}
use mir.Facts.{and_yes}
use Rattle.lists.specs.Lists.{all_same}
use Rattle.std.specs.List.{list_all}
use Rattle.layout.specs.declared.Anchor.{Anchor}
use Rattle.layout.specs.Topology.{TopologyRow, TopologyLayer}
use Rattle.layout.specs.Room.{Room}
use Rattle.layout.specs.Same.{same_anchor, same_row, same_layer, same_room}
use Rattle.layout.proofs.SameRooms.{row_opens, layer_opens, same_layers}
use Rattle.layout.proofs.SoundRoom.{fits_anchor, fits_row, fits_layer}
use Rattle.layout.proofs.TopologyCut.{with_x, mapped_row, mapped_layer}
use Rattle.doubles.proofs.Alike.{Alike, alike_of}

-- ---- lists as long as each other, related place by place
pub data Each {A B : Type 0} (R : A → B → Type 0) : List A → List B → Type 0 where
  end : Each R [] []
  next : {x : A} {y : B} {xs : List A} {ys : List B} → R x y → Each R xs ys → Each R (x ∷ xs) (y ∷ ys)

module _ {A B : Type 0} {R : A → B → Type 0} where
  pub each_length : {xs : List A} {ys : List B} → Each R xs ys → length xs ≡ length ys
  each_length end = refl
  each_length (next w e) = ap suc (each_length e)

  pub each_map : {C D : Type 0} {S : C → D → Type 0} (f : A → C) (g : B → D) → ((x : A) (y : B) → R x y → S (f x) (g y)) → {xs : List A} {ys : List B} → Each R xs ys → Each S (map f xs) (map g ys)
  each_map f g h end = end
  each_map f g h (next {x = x} {y = y} w e) = next (h x y w) (each_map f g h e)

-- ---- topologies
abbrev pub AnchorAlike : Anchor → Anchor → Type 0
AnchorAlike a b = (a.name ≡ b.name) × Alike a.x b.x

abbrev pub RowAlike : TopologyRow → TopologyRow → Type 0
RowAlike r s = Alike r.y s.y × Each AnchorAlike r.anchors s.anchors

abbrev pub LayerAlike : TopologyLayer → TopologyLayer → Type 0
LayerAlike l m = Alike l.z m.z × Each RowAlike l.rows m.rows

abbrev pub TopologyAlike : List TopologyLayer → List TopologyLayer → Type 0
TopologyAlike = Each LayerAlike

-- ---- entries that are the same, with doubles for coordinates
module _ {A : Type 0} (good : A → Bool) (R : A → A → Type 0) where
  module _ (r : A → A → Bool) (opens : (x y : A) → T (r x y) → T (good x) → T (good y) → R x y) where
    entries_alike : (xs ys : List A) → T (all_same r xs ys) → T (list_all good xs) → T (list_all good ys) → Each R xs ys
    entries_alike [] [] h p q = end
    entries_alike [] (y ∷ ys) h p q = absurd h
    entries_alike (x ∷ xs) [] h p q = absurd h
    entries_alike (x ∷ xs) (y ∷ ys) h p q =
        let e = and_yes (r x y) (all_same r xs ys) h in
        let v = and_yes (good x) (list_all good xs) p in
        let w = and_yes (good y) (list_all good ys) q in
        next (opens x y e.0 v.0 w.0) (entries_alike xs ys e.1 v.1 w.1)

  -- and entries that a function keeps alike
  mapped_alike : (f : A → A) → ((x : A) → T (good x) → R x (f x)) → (xs : List A) → T (list_all good xs) → Each R xs (map f xs)
  mapped_alike f h [] p = end
  mapped_alike f h (x ∷ xs) p = let v = and_yes (good x) (list_all good xs) p in next (h x v.0) (mapped_alike f h xs v.1)

row_fits : (w : TopologyRow) → T (fits_row w) → T (fits binary64 w.y) × T (list_all fits_anchor w.anchors)
row_fits w h = and_yes (fits binary64 w.y) (list_all fits_anchor w.anchors) h

layer_fits : (y : TopologyLayer) → T (fits_layer y) → T (fits binary64 y.z) × T (list_all fits_row y.rows)
layer_fits y h = and_yes (fits binary64 y.z) (list_all fits_row y.rows) h

anchor_alike : (x y : Anchor) → T (same_anchor x y) → T (fits_anchor x) → T (fits_anchor y) → AnchorAlike x y
anchor_alike x y h p q =
    let e = and_yes (eqb x.name y.name) (eq x.x y.x) h in
    (eqb→eq x.name y.name e.0, alike_of x.x y.x p q e.1)

row_alike : (x y : TopologyRow) → T (same_row x y) → T (fits_row x) → T (fits_row y) → RowAlike x y
row_alike x y h p q =
    let e = row_opens x y h in
    let v = row_fits x p in
    let w = row_fits y q in
    (alike_of x.y y.y v.0 w.0 e.0, entries_alike fits_anchor AnchorAlike same_anchor anchor_alike x.anchors y.anchors e.1 v.1 w.1)

layer_alike : (x y : TopologyLayer) → T (same_layer x y) → T (fits_layer x) → T (fits_layer y) → LayerAlike x y
layer_alike x y h p q =
    let e = layer_opens x y h in
    let v = layer_fits x p in
    let w = layer_fits y q in
    (alike_of x.z y.z v.0 w.0 e.0, entries_alike fits_row RowAlike same_row row_alike x.rows y.rows e.1 v.1 w.1)

-- ---- the laws
pub same_topology : (a b : Room) → T (list_all fits_layer a.layers) → T (list_all fits_layer b.layers) → T (same_room a b) → TopologyAlike a.layers b.layers
same_topology a b p q h = entries_alike fits_layer LayerAlike same_layer layer_alike a.layers b.layers (same_layers a b h) p q

module _ (f : Float → Float) (alike : (x : Float) → T (fits binary64 x) → Alike x (f x)) where
  row_mapped : (w : TopologyRow) → T (fits_row w) → RowAlike w (mapped_row f w)
  row_mapped w h =
      let p = row_fits w h in
      (alike w.y p.0, mapped_alike fits_anchor AnchorAlike (with_x f) (λ a q. (refl, alike a.x q)) w.anchors p.1)

  layer_mapped : (y : TopologyLayer) → T (fits_layer y) → LayerAlike y (mapped_layer f y)
  layer_mapped y h =
      let p = layer_fits y h in
      (alike y.z p.0, mapped_alike fits_row RowAlike (mapped_row f) row_mapped y.rows p.1)

  pub mapped_topology : (ys : List TopologyLayer) → T (list_all fits_layer ys) → TopologyAlike ys (map (mapped_layer f) ys)
  mapped_topology = mapped_alike fits_layer LayerAlike (mapped_layer f) layer_mapped
