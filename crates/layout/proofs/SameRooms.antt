-- What same rooms share: the channels, and layers, rows and anchors that are the same place by place.
use Prim.Native.Nat.{ℕ, suc}
use mathlib.Core.Path.{◌≡◌, refl, sym, ap, ◌∙◌}
use mathlib.Core.Bool.{Bool, ◌&&◌, beq}
use mathlib.Core.List.{List, [], ◌∷◌, ◌++◌, map, map-id}
use Rattle.doubles.proofs.Alike.{beq→eq}
use lib.Dec.{T, eqb, eqb→eq}
use lib.Ieee.{eq}
use lib.ListN.{length}
use mir.Facts.{and_yes, yes_and}
use Rattle.lists.specs.Lists.{all_same, flatten}
use Rattle.layout.specs.declared.Channel.{Channel}
use Rattle.layout.specs.Topology.{TopologyRow, TopologyLayer}
use Rattle.layout.specs.Room.{Room, rows_in, anchors_in}
use Rattle.layout.specs.Same.{same_channel, same_anchor, same_row, same_layer, same_room}
use Rattle.layout.proofs.SameLists.{all_same_equal}
use Rattle.layout.proofs.TopologyStarts.{topology_rows, topology_anchors}

-- ---- lists of parts
module _ {A : Type 0} (r : A → A → Bool) where
  pub all_same_length : (xs ys : List A) → T (all_same r xs ys) → length xs ≡ length ys
  all_same_length [] [] h = refl
  all_same_length [] (y ∷ ys) h = absurd h
  all_same_length (x ∷ xs) [] h = absurd h
  all_same_length (x ∷ xs) (y ∷ ys) h = ap suc (all_same_length xs ys (and_yes (r x y) (all_same r xs ys) h).1)

  all_same_append : (k l m n : List A) → T (all_same r k l) → T (all_same r m n) → T (all_same r (k ++ m) (l ++ n))
  all_same_append [] [] m n h w = w
  all_same_append [] (y ∷ l) m n h w = absurd h
  all_same_append (x ∷ k) [] m n h w = absurd h
  all_same_append (x ∷ k) (y ∷ l) m n h w =
      let p = and_yes (r x y) (all_same r k l) h in
      yes_and (r x y) (all_same r (k ++ m) (l ++ n)) p.0 (all_same_append k l m n p.1 w)

  -- where parts are the same, so is what they make together
  module _ {B : Type 0} (s : B → B → Bool) (parts : B → List A) (opens : (x y : B) → T (s x y) → T (all_same r (parts x) (parts y))) where
    all_same_concat : (xs ys : List B) → T (all_same s xs ys) → T (all_same r (flatten (map parts xs)) (flatten (map parts ys)))
    all_same_concat [] [] h = tt
    all_same_concat [] (y ∷ ys) h = absurd h
    all_same_concat (x ∷ xs) [] h = absurd h
    all_same_concat (x ∷ xs) (y ∷ ys) h =
        let p = and_yes (s x y) (all_same s xs ys) h in
        all_same_append (parts x) (parts y) (flatten (map parts xs)) (flatten (map parts ys)) (opens x y p.0) (all_same_concat xs ys p.1)

-- ---- one entry

-- same channels are equal
pub channel_equal : (x y : Channel) → T (same_channel x y) → x ≡ y
channel_equal x y h =
    let p = and_yes (eqb x.name y.name && beq x.enabled y.enabled) (beq x.lfe y.lfe) h in
    let q = and_yes (eqb x.name y.name) (beq x.enabled y.enabled) p.0 in
    let n = eqb→eq x.name y.name q.0 in
    let e = beq→eq x.enabled y.enabled q.1 in
    let f = beq→eq x.lfe y.lfe p.1 in
    ap (λ (v : ℕ). record { name = v; enabled = x.enabled; lfe = x.lfe }) n
    ∙ ap (λ (v : Bool). record { name = y.name; enabled = v; lfe = x.lfe }) e
    ∙ ap (λ (v : Bool). record { name = y.name; enabled = y.enabled; lfe = v }) f

pub row_opens : (x y : TopologyRow) → T (same_row x y) → T (eq x.y y.y) × T (all_same same_anchor x.anchors y.anchors)
row_opens x y h = and_yes (eq x.y y.y) (all_same same_anchor x.anchors y.anchors) h

pub layer_opens : (x y : TopologyLayer) → T (same_layer x y) → T (eq x.z y.z) × T (all_same same_row x.rows y.rows)
layer_opens x y h = and_yes (eq x.z y.z) (all_same same_row x.rows y.rows) h

-- ---- the laws
module _ (a b : Room) where
  pub same_room_lem : T (all_same same_channel a.channels b.channels) → T (all_same same_layer a.layers b.layers) → T (same_room a b)
  unfolding same_room
  same_room_lem h k = yes_and (all_same same_channel a.channels b.channels) (all_same same_layer a.layers b.layers) h k

  module _ (h : T (same_room a b)) where
    opened : T (all_same same_channel a.channels b.channels) × T (all_same same_layer a.layers b.layers)
    unfolding same_room
    opened = and_yes (all_same same_channel a.channels b.channels) (all_same same_layer a.layers b.layers) h

    pub same_channels : a.channels ≡ b.channels
    same_channels = sym (map-id a.channels) ∙ all_same_equal same_channel (λ x. x) channel_equal a.channels b.channels opened.0 ∙ map-id b.channels

    pub same_layers : T (all_same same_layer a.layers b.layers)
    same_layers = opened.1

    pub same_rows : T (all_same same_row (rows_in a) (rows_in b))
    same_rows = all_same_concat same_row same_layer topology_rows (λ x y q. (layer_opens x y q).1) a.layers b.layers same_layers

    pub same_anchors : T (all_same same_anchor (anchors_in a) (anchors_in b))
    same_anchors = all_same_concat same_anchor same_row topology_anchors (λ x y q. (row_opens x y q).1) (rows_in a) (rows_in b) same_rows
