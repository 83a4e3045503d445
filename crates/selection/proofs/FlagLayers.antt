-- The flags of the layers, written layer by layer.
use Prim.Native.Nat.{ℕ, zero, suc, ◌+◌, ◌-◌, ◌<◌, ◌≤◌}
use mathlib.Core.Path.{◌≡◌, refl, sym, ap, ap₂, ◌∙◌}
use mathlib.Core.Bool.{Bool, true, false, not, ◌&&◌, ◌||◌}
use mathlib.Core.List.{List, [], ◌∷◌, ◌++◌, map, map-map, append_assoc, append-nil}
use native.Mathlib.Numerals.{add-one}
use native.Mathlib.Omega.{arith}
use lib.Ieee.{eq}
use lib.ListN.{length, get_or, take, drop, replicate, length-map, length-append, length-take, length-drop, drop_of_length-le}
use lib.Seq.{slice, drop-cons, drop-drop, take_all, take-append_seam, drop-append-add}
use Rattle.doubles.specs.Arithmetic.{zero64}
use Rattle.std.specs.List.{list_all}
use Rattle.lists.proofs.Chunks.{slice_map}
use Rattle.layout.specs.declared.Anchor.{Anchor}
use Rattle.layout.specs.declared.Layout.{Layout}
use Rattle.layout.specs.Room.{room_of}
use Rattle.layout.specs.Topology.{TopologyLayer, topology_of, rows_of, anchor_name}
use Rattle.layout.specs.Steps.Starts.{row_starts, layer_starts, no_layer}
use Rattle.layout.proofs.TopologyLists.{all_concat}
use Rattle.layout.proofs.TopologyStarts.{topology_anchors}
use Rattle.layout.proofs.TopologyFlat.{topology_length, topology_layer}
use Rattle.layout.proofs.Sizes.{Sized}
use Rattle.region.specs.declared.RegionSemanticState.{RegionSemanticState}
use Rattle.rules.specs.declared.rule.Rule.{Rule}
use Rattle.rules.specs.declared.rule.Rule.TheVariants.{Upper, Lower}
use Rattle.rules.specs.Rules.{is_kept}
use Rattle.region.specs.declared.RegionHorizontalState.{RegionHorizontalState}
use Rattle.classes.specs.Classes.{bed_of}
use Rattle.std.specs.Prelude.{cond}
use Rattle.std.proofs.lemmas.List.Folds.{list_all-map}
use Rattle.region.specs.Zones.{is_include, is_no_constraints}
use Rattle.selection.specs.Selection.{five_x, is222, upper, keeps_all, stays, question10, classed_layer}
use Rattle.selection.specs.Steps.{flagged_from, has_class, row_flags, layer_flags, kept_flags}
use Rattle.rules.specs.Steps.{rule_of, stays_by}
use Rattle.selection.proofs.Tested.{rows_flags}
use Rattle.selection.proofs.LayerAnchors.{layer_start_rises, layer_start_most, layer_start_first, layer_anchors_lem}

-- ---- the flags of the first layers
-- what a rule says of each anchor
stays_each : (up include whole five : Bool) (h : RegionHorizontalState) (xs : List Anchor) →
    map (λ (a : Anchor). stays_by (cond up (Upper include) (Lower whole (record { horizontal = h; five = five }))) (anchor_name a)) xs
    ≡ map (λ (a : Anchor). cond up include (whole || is_kept (bed_of h a.name five))) xs
stays_each true include whole five h xs = refl
stays_each false include whole five h xs = refl

-- one layer more
layers_more : (t : ℕ → TopologyLayer → Anchor → Bool) (ys : List TopologyLayer) (i k j : ℕ) (d : TopologyLayer) → j ≡ i + k → k < length ys →
    layer_flags t i (take (suc k) ys) ≡ layer_flags t i (take k ys) ++ row_flags (t j (get_or ys k d)) (get_or ys k d).rows
layers_more t [] i k j d e h = absurd (omega arith)
layers_more t (y ∷ ys) i zero j d e h = append-nil (row_flags (t i y) y.rows) ∙ ap (λ (n : ℕ). row_flags (t n y) y.rows) (omega arith)
layers_more t (y ∷ ys) i (suc k) j d e h =
    ap (λ (r : List Bool). row_flags (t i y) y.rows ++ r) (layers_more t ys (suc i) k j d (omega arith) (omega arith))
    ∙ sym (append_assoc (row_flags (t i y) y.rows) (layer_flags t (suc i) (take k ys)) (row_flags (t j (get_or ys k d)) (get_or ys k d).rows))

-- ---- the loop over the layers of a layout
module _ (l : Layout) (z : Sized l) (few : l.depth ≤ 4) where
  abbrev layer_at : ℕ → TopologyLayer
  layer_at i = record { z = (get_or l.layers i no_layer).z; rows = slice (get_or (row_starts l) i 0) (get_or (row_starts l) (suc i) 0) (rows_of l.rows l.anchors) }

  here : (i : ℕ) → i < l.depth → get_or (topology_of l) i (layer_at i) ≡ layer_at i
  here i h = topology_layer l z.layers z.rows z.anchors few i (layer_at i) h

  many : length (topology_of l) ≡ l.depth
  many = topology_length l z.layers z.rows z.anchors few

  module _ (s : RegionSemanticState) where
    -- the flags of the first i layers
    abbrev before : ℕ → List Bool
    before i = layer_flags (stays s (room_of l)) 0 (take i (topology_of l))

    pub record Layered (out : List Bool) (i : ℕ) : Type 0 where
      pub reached : i ≤ l.depth
      pub sum : length (before i) ≡ get_or (layer_starts l) i 0
      pub whole : out ≡ before i ++ drop (length (before i)) (replicate 24 false)

    pub layered_none : Layered (replicate 24 false) 0
    layered_none = record { reached = omega arith; sum = sym (layer_start_first l z); whole = refl }

    module _ (out : List Bool) (i : ℕ) (w : Layered out i) where
      -- what one turn writes
      before_more : i < l.depth → before (suc i) ≡ before i ++ map (stays s (room_of l) i (layer_at i)) (slice (get_or (layer_starts l) i 0) (get_or (layer_starts l) (suc i) 0) l.anchors)
      before_more h =
          layers_more (stays s (room_of l)) (topology_of l) 0 i i (layer_at i) (omega arith) (omega (arith, many))
          ∙ ap (λ (y : TopologyLayer). before i ++ row_flags (stays s (room_of l) i y) y.rows) (here i h)
          ∙ ap (λ (t : List Bool). before i ++ t) (rows_flags (stays s (room_of l) i (layer_at i)) (layer_at i).rows ∙ ap (map (stays s (room_of l) i (layer_at i))) (layer_anchors_lem l z i (omega arith)))

      pub layered_more : (r : List Bool) (rule : Rule) (flc five : Bool) → i < l.depth →
          r ≡ flagged_from (stays_by rule) (map anchor_name l.anchors) (get_or (layer_starts l) i 0) (get_or (layer_starts l) (i + 1) 0) out →
          rule ≡ rule_of flc five s l.depth i (get_or l.layers i no_layer).z → flc ≡ is222 (room_of l) → five ≡ five_x (room_of l) → Layered r (i + 1)
      layered_more r rule flc five h e er ew ef =
          let er' : rule ≡ rule_of flc five s (length (topology_of l)) i (get_or l.layers i no_layer).z = er ∙ ap (λ (n : ℕ). rule_of flc five s n i (get_or l.layers i no_layer).z) (sym many) in
          let a = get_or (layer_starts l) i 0 in
          let b = get_or (layer_starts l) (suc i) 0 in
          let p = stays s (room_of l) i (layer_at i) in
          let blank = replicate 24 false in
          let rise = layer_start_rises l z i (omega arith) in
          let most = layer_start_most l z (suc i) (omega arith) in
          let m : map (stays_by (rule_of (is222 (room_of l)) (five_x (room_of l)) s (length (topology_of l)) i (get_or l.layers i no_layer).z)) (slice a b (map anchor_name l.anchors)) ≡ map p (slice a b l.anchors) =
          ap (map (stays_by (rule_of (is222 (room_of l)) (five_x (room_of l)) s (length (topology_of l)) i (get_or l.layers i no_layer).z))) (slice_map anchor_name a b l.anchors) ∙ map-map _ anchor_name (slice a b l.anchors)
          ∙ stays_each (upper (room_of l) i (layer_at i)) (is_include s.top) (keeps_all (room_of l) (layer_at i)) (five_x (room_of l)) s.horizontal (slice a b l.anchors) in
          let n : length (map p (slice a b l.anchors)) ≡ b - a =
          length-map (slice a b l.anchors) p ∙ length-drop a (take b l.anchors) ∙ ap (λ (k : ℕ). k - a) (length-take b l.anchors) ∙ omega (arith, z.anchors) in
          let f = before_more h in
          let sum : length (before (suc i)) ≡ b = ap length f ∙ length-append (before i) (map p (slice a b l.anchors)) ∙ omega (arith, w.sum, n, rise) in
          let t : take a out ≡ before i = rw (w.whole, ← w.sum) (take-append_seam (before i) (drop (length (before i)) blank)) in
          let k : b ≡ length (before i) + (b - a) = omega (arith, w.sum, rise) in
          let d : drop b out ≡ drop b blank =
          rw (w.whole, k) (drop-append-add (before i) (drop (length (before i)) blank) (b - a) ∙ drop-drop (b - a) (length (before i)) blank) in
          let q : r ≡ before (suc i) ++ drop (length (before (suc i))) blank =
          rw (er', ew, ef, add-one) at e
          ∙ ap₂ (λ (x : List Bool) (y : List Bool). x ++ y) t (ap₂ (λ (x : List Bool) (y : List Bool). x ++ y) m d)
          ∙ sym (append_assoc (before i) (map p (slice a b l.anchors)) (drop b blank))
          ∙ ap₂ (λ (x : List Bool) (k : ℕ). x ++ drop k blank) (sym f) (sym sum) in
          rw add-one (record { reached = h; sum = sum; whole = q })

      pub layered_done : l.depth ≤ i → out ≡ kept_flags s (room_of l)
      layered_done h =
          let e : take i (topology_of l) ≡ topology_of l = take_all i (topology_of l) (omega (arith, many)) in
          w.whole ∙ ap (λ (t : List TopologyLayer). layer_flags (stays s (room_of l)) 0 t ++ drop (length (layer_flags (stays s (room_of l)) 0 t)) (replicate 24 false)) e

    -- ---- question 10
    layer_test : (five : Bool) (i : ℕ) → i < l.depth →
        classed_layer five s (layer_at i) ≡ (not (eq (layer_at i).z zero64) || list_all (has_class s.horizontal five) (slice (get_or (layer_starts l) i 0) (get_or (layer_starts l) (suc i) 0) (map anchor_name l.anchors)))
    layer_test five i h =
        let p : Anchor → Bool = λ a. has_class s.horizontal five (anchor_name a) in
        ap (λ (b : Bool). not (eq (layer_at i).z zero64) || b)
        (sym (list_all-map (list_all p) topology_anchors (layer_at i).rows)
        ∙ all_concat p (map topology_anchors (layer_at i).rows)
        ∙ ap (list_all p) (layer_anchors_lem l z i (omega arith))
        ∙ sym (list_all-map (has_class s.horizontal five) anchor_name (slice (get_or (layer_starts l) i 0) (get_or (layer_starts l) (suc i) 0) l.anchors))
        ∙ ap (list_all (has_class s.horizontal five)) (sym (slice_map anchor_name (get_or (layer_starts l) i 0) (get_or (layer_starts l) (suc i) 0) l.anchors)))

    -- whether the layers that are left pass
    abbrev pub classed_from : Bool → ℕ → Bool
    classed_from five i = list_all (classed_layer five s) (drop i (topology_of l))

    pub classed_more : (five r : Bool) (i : ℕ) → i < l.depth →
        r ≡ (not (eq (get_or l.layers i no_layer).z zero64) || list_all (has_class s.horizontal five) (slice (get_or (layer_starts l) i 0) (get_or (layer_starts l) (i + 1) 0) (map anchor_name l.anchors))) →
        classed_from five i ≡ (r && classed_from five (i + 1))
    classed_more five r i h er =
        let q = rw add-one at er in
        rw (add-one, drop-cons (topology_of l) i (layer_at i) (omega (arith, many)), here i h, layer_test five i h, ← q)

    pub classed_done : (five : Bool) (i : ℕ) → l.depth ≤ i → classed_from five i ≡ true
    classed_done five i h = ap (list_all (classed_layer five s)) (drop_of_length-le (topology_of l) {i = i} (omega (arith, many)))

    pub classed_all : (free five b : Bool) → free ≡ is_no_constraints s.horizontal → free ≡ false → five ≡ five_x (room_of l) → classed_from five 0 ≡ b → b ≡ question10 s (room_of l)
    classed_all free five b e f g q = sym q ∙ rw (sym e ∙ f, g)
