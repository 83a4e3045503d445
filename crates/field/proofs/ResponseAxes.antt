-- On each axis, what the code adds for a topology in flat lists is the list of weights that `weights_on` says. Assumes nothing.
use Prim.Native.Nat.{ℕ, zero, suc, ◌+◌, ◌-◌, ◌≤◌, ◌<◌}
use mathlib.Core.Path.{◌≡◌, refl, sym, ap, ap₂, ◌∙◌}
use mathlib.Core.List.{List, [], ◌∷◌, ◌++◌, map, append_assoc}
use native.Mathlib.Nat.{zero-add, add-zero, le_trans, le_refl, le_of_eq}
use native.Mathlib.Omega.{arith}
use lib.Dec.{T}
use lib.Ieee.{Float, nan}
use lib.Ieee.Scale.{finite}
use lib.ListN.{length, get_or, take, drop, take-append-drop}
use lib.Seq.{slice, slice_empty, take-take, drop-append-le, length-take-le, length-slice}
use Rattle.lists.specs.Lists.{flatten}
use Rattle.std.specs.List.{list_all}
use Rattle.std.proofs.lemmas.List.{map-append, get_or-map as get_or_mapped}
use Rattle.lists.proofs.Loops.{slice_more}
use Rattle.lists.proofs.Chunks.{slice_map}
use Rattle.layout.specs.declared.Anchor.{Anchor}
use Rattle.layout.specs.Topology.{TopologyRow, TopologyLayer, anchor_x}
use Rattle.layout.specs.Steps.Starts.{no_anchor}
use Rattle.layout.specs.Questions.{topology_y, topology_z}
use Rattle.field.specs.Knots.{X, Y, Z}
use Rattle.field.specs.declared.Pick.{Pick}
use Rattle.field.specs.Responses.{Weight, weights_of, alone, row_anchors, layer_anchors, row_weights_x, layer_weights_x, layer_weights_y, weights_on, pick_of, layer_pick}
use Rattle.field.specs.Steps.Flat.{pick_added, response_added, pick_end, Grouped}
use Rattle.field.proofs.ResponseRows.{weights_added, named}
use Rattle.field.proofs.ResponseSpread.{placed, active_anchor, slice_active, gathered, gathered_same, gathered_concat, groups_added, groups_named, pick_added_lem, pick_named}
use Rattle.field.proofs.response.Picks.{get_or_slice, moved_none}

-- ---- lists
module _ {A : Type 0} where
  -- one of a list
  slice_one : (xs : List A) (i : ℕ) (d : A) → i < length xs → slice i (i + 1) xs ≡ get_or xs i d ∷ []
  slice_one xs i d h = slice_more i (i + 1) xs d (omega arith) (omega arith) ∙ ap (λ (r : List A). get_or xs i d ∷ r) (slice_empty (i + 1) xs)

  -- two parts side by side
  slice_join : (a b c : ℕ) (xs : List A) → a ≤ b → b ≤ c → b ≤ length xs → slice a b xs ++ slice b c xs ≡ slice a c xs
  slice_join a b c xs h k l =
      sym (ap (drop a) (sym (take-append-drop b (take c xs)) ∙ ap (λ (p : List A). p ++ slice b c xs) (take-take b c xs k))
      ∙ drop-append-le a (take b xs) (slice b c xs) (rw (length-take-le b xs l) h))

  -- a part of the first n
  pub slice_take : (a b n : ℕ) (xs : List A) → b ≤ n → slice a b (take n xs) ≡ slice a b xs
  slice_take a b n xs h = ap (drop a) (take-take b n xs h)

  concat_append : (xss yss : List (List A)) → flatten (xss ++ yss) ≡ flatten xss ++ flatten yss
  concat_append [] yss = refl
  concat_append (xs ∷ xss) yss = ap (λ (r : List A). xs ++ r) (concat_append xss yss) ∙ sym (append_assoc xs (flatten xss) (flatten yss))

-- ---- a topology and flat lists that say the same
abbrev pub layer_rows : TopologyLayer → List TopologyRow
layer_rows l = l.rows

abbrev pub rows_in : List TopologyLayer → List TopologyRow
rows_in t = flatten (map layer_rows t)

abbrev pub no_topology_row : TopologyRow
no_topology_row = record { y = nan; anchors = [] }

abbrev pub no_topology_layer : TopologyLayer
no_topology_layer = record { z = nan; rows = [] }

-- row r has the anchors from its start up to the next, and layer i so its rows; each of the anchors names an active channel
pub record Flat (names : List ℕ) (t : List TopologyLayer) (anchors : List Anchor) (starts row_starts : List ℕ) (ys : List Float) : Type 0 where
  pub row_cut : (r : ℕ) → r < length (rows_in t) → (get_or (rows_in t) r no_topology_row).anchors ≡ slice (get_or starts r 0) (get_or starts (r + 1) 0) anchors
  pub layer_cut : (i : ℕ) → i < length t → (get_or t i no_topology_layer).rows ≡ slice (get_or row_starts i 0) (get_or row_starts (i + 1) 0) (rows_in t)
  pub y_cut : map topology_y (rows_in t) ≡ take (length (rows_in t)) ys
  pub rise : (r : ℕ) → r < length (rows_in t) → get_or starts r 0 ≤ get_or starts (r + 1) 0
  pub within : get_or starts (length (rows_in t)) 0 ≤ length anchors
  pub rows_rise : (i : ℕ) → i < length t → get_or row_starts i 0 ≤ get_or row_starts (i + 1) 0
  pub rows_within : get_or row_starts (length t) 0 ≤ length (rows_in t)
  pub actives : (a : ℕ) → a < get_or starts (length (rows_in t)) 0 → T (active_anchor names (get_or anchors a no_anchor))

-- numbers that rise with each step
rising : (f : ℕ → ℕ) (n : ℕ) → ((r : ℕ) → r < n → f r ≤ f (r + 1)) → (r d : ℕ) → r + d ≤ n → f r ≤ f (r + d)
rising f n h r zero l = le_of_eq (ap f (sym (add-zero r)))
rising f n h r (suc d) l =
    let e : r + d + 1 ≡ r + suc d = omega arith in
    le_trans (rising f n h r d (omega arith)) (rw e at (h (r + d) (omega arith)))

pub rising_to_lem : (xs : List ℕ) (n : ℕ) → ((r : ℕ) → r < n → get_or xs r 0 ≤ get_or xs (r + 1) 0) → (r s : ℕ) → r ≤ s → s ≤ n → get_or xs r 0 ≤ get_or xs s 0
rising_to_lem xs n h r s k l = let e : r + (s - r) ≡ s = omega arith in rw e at (rising (λ (i : ℕ). get_or xs i 0) n h r (s - r) (omega arith))

rows_x : (u : Float) (t : List TopologyLayer) → weights_on X t u ≡ flatten (map (row_weights_x u) (rows_in t))
unfolding weights_on layer_weights_x
rows_x u [] = refl
rows_x u (l ∷ t) =
    ap (λ (r : List Weight). flatten (map (row_weights_x u) l.rows) ++ r) (rows_x u t)
    ∙ sym (ap flatten (map-append (row_weights_x u) l.rows (rows_in t)) ∙ concat_append (map (row_weights_x u) l.rows) (map (row_weights_x u) (rows_in t)))

module _
    (names : List ℕ)
    (t : List TopologyLayer)
    (anchors : List Anchor)
    (starts row_starts : List ℕ)
    (ys : List Float)
    (flat : Flat names t anchors starts row_starts ys)
  where
    -- the start of a row is at most the end of all
    pub start_end : (r s : ℕ) → r ≤ s → s ≤ length (rows_in t) → get_or starts r 0 ≤ get_or starts s 0
    start_end r s h k = rising_to_lem starts (length (rows_in t)) flat.rise r s h k

    pub row_start_end : (i j : ℕ) → i ≤ j → j ≤ length t → get_or row_starts i 0 ≤ get_or row_starts j 0
    row_start_end i j h k = rising_to_lem row_starts (length t) flat.rows_rise i j h k

    active_part : (a b : ℕ) → b ≤ get_or starts (length (rows_in t)) 0 → T (list_all (active_anchor names) (slice a b anchors))
    active_part a b h = slice_active names anchors (get_or starts (length (rows_in t)) 0) a b flat.within flat.actives h

    -- ---- X: the rows are the groups, and each anchor is a part of its own
    module _ (ones : List ℕ) (single : (i : ℕ) → i ≤ length anchors → get_or ones i 0 ≡ i) (k : Grouped (map anchor_x anchors) starts (length (rows_in t))) where
      parts_x : ℕ → List (List Anchor)
      parts_x g = map alone (get_or (rows_in t) g no_topology_row).anchors

      are_x : (g : ℕ) → g < length (rows_in t) → (i : ℕ) → i < get_or starts (g + 1) 0 - get_or starts g 0 →
          get_or (parts_x g) i [] ≡ slice (get_or ones (get_or starts g 0 + i) 0) (get_or ones (get_or starts g 0 + i + 1) 0) anchors
      unfolding parts_x
      are_x g h i l =
          let a = get_or starts g 0 in
          let b = get_or starts (g + 1) 0 in
          let within = le_trans (start_end (g + 1) (length (rows_in t)) (omega arith) (omega arith)) flat.within in
          let size = length-slice a b anchors within in
          rw (single (a + i) (omega arith), single (a + i + 1) (omega arith), slice_one anchors (a + i) no_anchor (omega arith), flat.row_cut g h)
          (get_or_mapped alone (slice a b anchors) i no_anchor [] (omega arith) ∙ ap alone (get_or_slice a b anchors i no_anchor (omega arith)))

      row_weights : (u : Float) (g : ℕ) → g < length (rows_in t) →
          weights_of (pick_of (slice (get_or starts g 0) (get_or starts (g + 1) 0) (map anchor_x anchors)) u) (parts_x g) ≡ row_weights_x u (get_or (rows_in t) g no_topology_row)
      unfolding parts_x row_weights_x
      row_weights u g h =
          let e : slice (get_or starts g 0) (get_or starts (g + 1) 0) (map anchor_x anchors) ≡ map anchor_x (get_or (rows_in t) g no_topology_row).anchors =
          slice_map anchor_x (get_or starts g 0) (get_or starts (g + 1) 0) anchors ∙ ap (map anchor_x) (sym (flat.row_cut g h)) in
          ap (λ (xs : List Float). weights_of (pick_of xs u) (map alone (get_or (rows_in t) g no_topology_row).anchors)) e

      module _ (u : Float) (f : T (finite u)) where
        all_x : gathered (λ (g : ℕ). weights_of (pick_of (slice (get_or starts g 0) (get_or starts (g + 1) 0) (map anchor_x anchors)) u) (parts_x g)) (length (rows_in t)) ≡ weights_on X t u
        all_x = gathered_same _ (λ (g : ℕ). row_weights_x u (get_or (rows_in t) g no_topology_row)) (length (rows_in t)) (row_weights u) ∙ sym (rows_x u t ∙ gathered_concat (row_weights_x u) (rows_in t) no_topology_row)

        pub added_x : (out : List Float) →
            response_added (map (placed names) anchors) ones (map anchor_x anchors) starts (length (rows_in t)) u out ≡ weights_added names (weights_on X t u) out
        added_x out =
            groups_added names anchors ones (map anchor_x anchors) starts (length (rows_in t)) k parts_x are_x u f (length (rows_in t)) out (le_refl (length (rows_in t)))
            ∙ ap (λ (ws : List Weight). weights_added names ws out) all_x

        pub named_x : T (list_all (named names) (weights_on X t u))
        named_x =
            rw (← all_x)
            (groups_named names anchors ones (map anchor_x anchors) starts (length (rows_in t)) k parts_x are_x u f
            (λ g h i l.
            let a = get_or starts g 0 in
            let e = start_end (g + 1) (length (rows_in t)) (omega arith) (omega arith) in
            let w = flat.within in
            rw (single (a + i) (omega arith), single (a + i + 1) (omega arith)) (active_part (a + i) (a + i + 1) (omega arith))))

    -- ---- Y: the layers are the groups, and each row is a part
    module _ (k : Grouped ys row_starts (length t)) where
      parts_y : ℕ → List (List Anchor)
      parts_y g = map row_anchors (get_or t g no_topology_layer).rows

      row_within : (g : ℕ) → g < length t → get_or row_starts (g + 1) 0 ≤ length (rows_in t)
      row_within g h = le_trans (row_start_end (g + 1) (length t) (omega arith) (omega arith)) flat.rows_within

      are_y : (g : ℕ) → g < length t → (i : ℕ) → i < get_or row_starts (g + 1) 0 - get_or row_starts g 0 →
          get_or (parts_y g) i [] ≡ slice (get_or starts (get_or row_starts g 0 + i) 0) (get_or starts (get_or row_starts g 0 + i + 1) 0) anchors
      unfolding parts_y
      are_y g h i l =
          let a = get_or row_starts g 0 in
          let b = get_or row_starts (g + 1) 0 in
          let within = row_within g h in
          let size = length-slice a b (rows_in t) within in
          rw (flat.layer_cut g h)
          (get_or_mapped row_anchors (slice a b (rows_in t)) i no_topology_row [] (omega arith)
          ∙ ap row_anchors (get_or_slice a b (rows_in t) i no_topology_row (omega arith))
          ∙ flat.row_cut (a + i) (omega arith))

      layer_weights : (u : Float) (g : ℕ) → g < length t →
          weights_of (pick_of (slice (get_or row_starts g 0) (get_or row_starts (g + 1) 0) ys) u) (parts_y g) ≡ layer_weights_y u (get_or t g no_topology_layer)
      unfolding parts_y layer_weights_y
      layer_weights u g h =
          let a = get_or row_starts g 0 in
          let b = get_or row_starts (g + 1) 0 in
          let e : slice a b ys ≡ map topology_y (get_or t g no_topology_layer).rows =
          sym (slice_take a b (length (rows_in t)) ys (row_within g h)) ∙ ap (slice a b) (sym flat.y_cut) ∙ slice_map topology_y a b (rows_in t) ∙ ap (map topology_y) (sym (flat.layer_cut g h)) in
          ap (λ (xs : List Float). weights_of (pick_of xs u) (map row_anchors (get_or t g no_topology_layer).rows)) e

      module _ (u : Float) (f : T (finite u)) where
        all_y : gathered (λ (g : ℕ). weights_of (pick_of (slice (get_or row_starts g 0) (get_or row_starts (g + 1) 0) ys) u) (parts_y g)) (length t) ≡ weights_on Y t u
        unfolding weights_on
        all_y = gathered_same _ (λ (g : ℕ). layer_weights_y u (get_or t g no_topology_layer)) (length t) (layer_weights u) ∙ sym (gathered_concat (layer_weights_y u) t no_topology_layer)

        pub added_y : (out : List Float) → response_added (map (placed names) anchors) starts ys row_starts (length t) u out ≡ weights_added names (weights_on Y t u) out
        added_y out =
            groups_added names anchors starts ys row_starts (length t) k parts_y are_y u f (length t) out (le_refl (length t)) ∙ ap (λ (ws : List Weight). weights_added names ws out) all_y

        pub named_y : T (list_all (named names) (weights_on Y t u))
        named_y =
            rw (← all_y)
            (groups_named names anchors starts ys row_starts (length t) k parts_y are_y u f
            (λ g h i l.
            let a = get_or row_starts g 0 in
            let w = row_within g h in
            active_part (get_or starts (a + i) 0) (get_or starts (a + i + 1) 0) (start_end (a + i + 1) (length (rows_in t)) (omega arith) (le_refl (length (rows_in t))))))

    -- ---- Z: each layer is a part
    module _
        (zs : List Float)
        (depth : ℕ)
        (same : depth ≡ length t)
        (zCut : map topology_z t ≡ take depth zs)
        (layer_starts : List ℕ)
        (starts-are : (i : ℕ) → i ≤ length t → get_or layer_starts i 0 ≡ get_or starts (get_or row_starts i 0) 0)
      where
        -- the anchors of the rows from a up to b
        rows_anchors : (n a b : ℕ) → a + n ≡ b → b ≤ length (rows_in t) → flatten (map row_anchors (slice a b (rows_in t))) ≡ slice (get_or starts a 0) (get_or starts b 0) anchors
        rows_anchors zero a b e h =
            let q : a ≡ b = omega arith in
            rw (q, slice_empty b (rows_in t), slice_empty (get_or starts b 0) anchors)
        rows_anchors (suc n) a b e h =
            ap (λ (rs : List TopologyRow). flatten (map row_anchors rs)) (slice_more a b (rows_in t) no_topology_row (omega arith) h)
            ∙ ap₂ (λ (x y : List Anchor). x ++ y) (flat.row_cut a (omega arith)) (rows_anchors n (a + 1) b (omega arith) h)
            ∙ slice_join (get_or starts a 0) (get_or starts (a + 1) 0) (get_or starts b 0) anchors (flat.rise a (omega arith)) (start_end (a + 1) b (omega arith) h)
            (le_trans (start_end (a + 1) (length (rows_in t)) (omega arith) (le_refl (length (rows_in t)))) flat.within)

        are_z : (i : ℕ) → i < depth → get_or (map layer_anchors t) i [] ≡ slice (get_or layer_starts (0 + i) 0) (get_or layer_starts (0 + i + 1) 0) anchors
        are_z i h =
            let a = get_or row_starts i 0 in
            let b = get_or row_starts (i + 1) 0 in
            let l : i < length t = omega arith in
            let rise = flat.rows_rise i l in
            rw (zero-add i, starts-are i (omega arith), starts-are (i + 1) (omega arith))
            (get_or_mapped layer_anchors t i no_topology_layer [] l
            ∙ ap (λ (rs : List TopologyRow). flatten (map row_anchors rs)) (flat.layer_cut i l)
            ∙ rows_anchors (b - a) a b (omega arith) (le_trans (row_start_end (i + 1) (length t) (omega arith) (le_refl (length t))) flat.rows_within))

        active_z : (i : ℕ) → i < depth → T (list_all (active_anchor names) (slice (get_or layer_starts (0 + i) 0) (get_or layer_starts (0 + i + 1) 0) anchors))
        active_z i h =
            rw (zero-add i, starts-are i (omega arith), starts-are (i + 1) (omega arith))
            (active_part (get_or starts (get_or row_starts i 0) 0) (get_or starts (get_or row_starts (i + 1) 0) 0)
            (start_end (get_or row_starts (i + 1) 0) (length (rows_in t)) (le_trans (row_start_end (i + 1) (length t) (omega arith) (le_refl (length t))) flat.rows_within) (le_refl (length (rows_in t)))))

        pub added_z : (u : Float) (out : List Float) → pick_end (layer_pick (take depth zs) u) ≤ depth → pick_added (map (placed names) anchors) layer_starts (layer_pick (take depth zs) u) out ≡ weights_added names (weights_on Z t u) out
        unfolding weights_on
        added_z u out h =
            ap (λ (p : Pick). pick_added (map (placed names) anchors) layer_starts p out) (sym (moved_none (layer_pick (take depth zs) u)))
            ∙ pick_added_lem names anchors layer_starts 0 depth (map layer_anchors t) are_z (layer_pick (take depth zs) u) out h
            ∙ rw (← zCut)

        pub named_z : (u : Float) → pick_end (layer_pick (take depth zs) u) ≤ depth → T (list_all (named names) (weights_on Z t u))
        unfolding weights_on
        named_z u h = rw zCut (pick_named names anchors layer_starts 0 depth (map layer_anchors t) are_z (layer_pick (take depth zs) u) h active_z)
