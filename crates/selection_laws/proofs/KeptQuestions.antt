-- A layout of the room with just the anchors that are kept: questions 1 to 6 are answered yes where they were, and a layer is left.
use Prim.Native.Nat.{ℕ, zero, suc, ◌≤◌}
use mathlib.Core.Path.{◌≡◌, refl, sym, ap, ap₂, ◌∙◌, subst}
use mathlib.Core.Bool.{Bool, true, false, ◌&&◌, cond}
use mathlib.Core.List.{List, [], ◌∷◌, map}
use native.Mathlib.Omega.{arith}
use borrow.Author.Tests.{eqb-false, not-true}
use lib.Dec.{T, eqb, leb, leb→le, le→leb}
use lib.Ieee.{Float, binary64, fits}
use lib.ListN.{length, take, drop, length-map}
use lib.Ieee.Bits.{is_true}
use mir.Facts.{and_yes, yes_and}
use Rattle.lists.specs.Lists.{elem, all_distinct, total}
use Rattle.std.specs.List.{list_all, list_any, filter}
use Rattle.std.proofs.lemmas.List.{take-map}
use Rattle.std.proofs.lemmas.Float.{T_from_true}
use Rattle.layout.specs.declared.Channel.{Channel}
use Rattle.layout.specs.declared.Layout.{Layout}
use Rattle.layout.specs.Steps.Accepted.{Accepted}
use Rattle.layout.specs.Name.{valid_name}
use Rattle.layout.specs.Channels.{channel_name, active, active_names}
use Rattle.layout.specs.Room.{Room, room_of, rows_in, anchors_in}
use Rattle.layout.specs.Topology.{TopologyRow, TopologyLayer, topology_of, used_layers, used_rows, used_anchors, row_count, layer_count, layer_z, row_y, anchor_name, anchor_x}
use Rattle.layout.specs.Questions.{first_no, layout_questions, from_to, ordered, ordered_layer, topology_y, topology_z, question1, question2, question3, question4, question5, question6}
use Rattle.layout.proofs.Coordinates.{all_taken}
use Rattle.layout.proofs.QuestionsAccepted.{all_yes}
use Rattle.layout.proofs.QuestionsFirst.{first_none}
use Rattle.layout.proofs.Sizes.{Sized}
use Rattle.layout.proofs.TopologyFlat.{topology_z_lem, topology_rows_lem}
use Rattle.layout.proofs.TopologyStarts.{rows_y}
use Rattle.keys.specs.Keys.{rows_of_layer, anchors_of_row}
use Rattle.keys.proofs.KeyEntries.{bit_most}
use Rattle.layout.proofs.RoomLists.{anchors_are, layer_counts_lem, row_counts_lem, used_is, depth_is}
use Rattle.kept_anchors.specs.Steps.Kept.{picked, count_set, is_positive, counts_of}
use Rattle.selection.specs.Steps.{kept_room}
use Rattle.kept_anchors.proofs.Picked.{picked_most, filter_picked, map_picked}
use Rattle.selection_laws.proofs.Sublists.{all_picked}
use Rattle.kept_anchors.proofs.Reached.{counts_long}
use Rattle.selection.proofs.KeptRoom.{anchors_kept, rows_kept, kept_anchors_lem, kept_row_counts, kept_ys, kept_layer_counts, kept_zs, kept_number}
use Rattle.selection.proofs.KeptKey.{concat_long}
use Rattle.selection_laws.proofs.KeptOrder.{kept_ordered, kept_layers}
use Rattle.selection_laws.proofs.KeyOver.{Within}
use Rattle.selection_laws.proofs.FlatRoom.{flat_room, flat_topology, flat_channels, flat_layer_counts, flat_row_counts, flat_anchors}

-- ---- counts that are not zero
positive_most : (n : ℕ) → is_positive n ≡ true → 1 ≤ n
positive_most zero e = let z : ⊥ = eqb-false 0 0 (not-true (eqb 0 0) e) refl in absurd z
positive_most (suc n) e = omega arith

positive_all : (cs : List ℕ) → T (list_all (leb 1) (filter is_positive cs))
positive_all [] = tt
positive_all (c ∷ cs) = go (is_positive c) refl (positive_all cs)
  where
    go : (b : Bool) → is_positive c ≡ b → T (list_all (leb 1) (filter is_positive cs)) → T (list_all (leb 1) (cond b (c ∷ filter is_positive cs) (filter is_positive cs)))
    go true e h = yes_and (leb 1 c) (list_all (leb 1) (filter is_positive cs)) (le→leb 1 c (positive_most c e)) h
    go false e h = h

count_take : (c : ℕ) (bs : List Bool) → count_set (take c bs) ≤ c
count_take zero bs = omega arith
count_take (suc c) [] = omega arith
count_take (suc c) (b ∷ bs) = omega (arith, bit_most b, count_take c bs)

within_step : (m n k : ℕ) (rest : List ℕ) → k ≤ n → T (from_to 1 m n) → T (list_all (from_to 1 m) rest) → T (list_all (from_to 1 m) (cond (is_positive k) (k ∷ rest) rest))
within_step m n k rest c f h = go (is_positive k) refl
  where
    go : (b : Bool) → is_positive k ≡ b → T (list_all (from_to 1 m) (cond b (k ∷ rest) rest))
    go true e =
        yes_and (from_to 1 m k) (list_all (from_to 1 m) rest)
        (yes_and (leb 1 k) (leb k m) (le→leb 1 k (positive_most k e)) (le→leb k m (omega (arith, c, leb→le n m (and_yes (leb 1 n) (leb n m) f).1))))
        h
    go false e = h

counts_within : (m : ℕ) (ns : List ℕ) (bs : List Bool) → T (list_all (from_to 1 m) ns) → T (list_all (from_to 1 m) (filter is_positive (counts_of ns bs)))
counts_within m [] bs h = tt
counts_within m (n ∷ ns) bs h =
    let e = and_yes (from_to 1 m n) (list_all (from_to 1 m) ns) h in
    within_step m n (count_set (take n bs)) _ (count_take n bs) e.0 (counts_within m ns (drop n bs) e.1)

module _ (l : Layout) (s : Sized l) (a : Accepted l) (bs : List Bool) where
  abbrev q : Room
  q = kept_room bs (room_of l)

  abbrev ys : List TopologyLayer
  ys = topology_of l

  abbrev m : Layout
  m = flat_room q

  -- ---- no more than there was
  rows_long : length (rows_in (room_of l)) ≡ length (used_rows l)
  rows_long = sym (length-map (rows_in (room_of l)) anchors_of_row) ∙ ap length (row_counts_lem l s a) ∙ length-map (used_rows l) row_count

  pub kept_within : Within q (room_of l)
  kept_within =
      let cs = anchors_kept bs ys in
      let ns = rows_kept bs ys in
      record {
        channels = omega (arith, used_is l s a, a.few_channels);
        layers = omega (arith, depth_is l s a, a.few_layers);
        rows = omega (arith, rows_long, a.most_rows);
        anchors = omega (arith, ap length (anchors_are l), a.most_anchors);
        fewer_layers = omega (arith, kept_number bs ys, picked_most (map is_positive ns) ns, counts_long (map rows_of_layer ys) (map is_positive cs), length-map ys rows_of_layer);
        fewer_rows = omega (arith, length-map (rows_in q) anchors_of_row, ap length (kept_row_counts bs ys), picked_most (map is_positive cs) cs, counts_long (map anchors_of_row (rows_in (room_of l))) bs, length-map (rows_in (room_of l)) anchors_of_row);
        fewer_anchors = omega (arith, ap length (kept_anchors_lem bs ys), picked_most bs (anchors_in (room_of l)));
        same = refl;
      }

  -- ---- coordinates stay doubles
  module _ (zs : T (list_all (fits binary64) (map layer_z l.layers))) (us : T (list_all (fits binary64) (map row_y l.rows))) (xs : T (list_all (fits binary64) (map anchor_x l.anchors))) where
    abbrev Fit : List Float → Type 0
    Fit v = T (list_all (fits binary64) v)

    pub lent_zs : Fit (map topology_z ys)
    lent_zs = subst Fit (sym (topology_z_lem l)) (all_taken (fits binary64) l.depth (map layer_z l.layers) zs)

    lent_ys : Fit (map topology_y (rows_in (room_of l)))
    lent_ys =
        subst Fit (sym (ap (map topology_y) (topology_rows_lem l) ∙ rows_y (used_rows l) l.anchors ∙ sym (take-map row_y (total (map layer_count (used_layers l))) l.rows)))
        (all_taken (fits binary64) (total (map layer_count (used_layers l))) (map row_y l.rows) us)

    lent_xs : Fit (map anchor_x (anchors_in (room_of l)))
    lent_xs =
        subst Fit (sym (ap (map anchor_x) (anchors_are l) ∙ sym (take-map anchor_x (total (map row_count (used_rows l))) l.anchors)))
        (all_taken (fits binary64) (total (map row_count (used_rows l))) (map anchor_x l.anchors) xs)

    pub kept_zs_fit : Fit (map topology_z q.layers)
    kept_zs_fit = subst Fit (sym (kept_zs bs ys (λ (x : Float). x))) (all_picked (fits binary64) (map is_positive (rows_kept bs ys)) (map topology_z ys) lent_zs)

    pub kept_ys_fit : Fit (map topology_y (rows_in q))
    kept_ys_fit = subst Fit (sym (kept_ys bs ys (λ (x : Float). x))) (all_picked (fits binary64) (map is_positive (anchors_kept bs ys)) (map topology_y (rows_in (room_of l))) lent_ys)

    pub kept_xs_fit : Fit (map anchor_x (anchors_in q))
    kept_xs_fit = subst Fit (sym (ap (map anchor_x) (kept_anchors_lem bs ys) ∙ map_picked anchor_x bs (anchors_in (room_of l)))) (all_picked (fits binary64) bs (map anchor_x (anchors_in (room_of l))) lent_xs)

  -- ---- the six answers
  module _ (e : first_no (layout_questions l) ≡ 0) (some : 1 ≤ length q.layers) where
    yes_1 : question1 m ≡ true
    unfolding question1
    yes_1 =
        ap₂ (λ (n : ℕ) (cs : List Channel). from_to 1 24 n && list_all valid_name (map channel_name cs) && all_distinct (map channel_name cs)) (used_is l s a) (flat_channels q)
        ∙ (all_yes l e).0

    yes_2 : question2 m ≡ true
    yes_2 =
        let n = length q.layers in
        let few : n ≤ 4 = omega (arith, kept_within.fewer_layers, kept_within.layers) in
        is_true _ (yes_and (leb 1 n) (leb n 4) (le→leb 1 n some) (le→leb n 4 few))

    yes_3 : question3 m ≡ true
    yes_3 = ap (list_any active) (flat_channels q) ∙ (all_yes l e).2

    yes_4 : question4 m ≡ true
    unfolding question4
    yes_4 =
        let ns = map layer_count (used_layers l) in
        let ms = map row_count (used_rows l) in
        let old = and_yes (list_all (from_to 1 6) ns && list_all (leb 1) ms) (leb (total ms) 24) (T_from_true _ (all_yes l e).3) in
        let h : T (list_all (from_to 1 6) (map rows_of_layer ys)) = subst (λ (v : List ℕ). T (list_all (from_to 1 6) v)) (sym (layer_counts_lem l s a)) (and_yes (list_all (from_to 1 6) ns) (list_all (leb 1) ms) old.0).0 in
        let cs = rows_kept bs ys in
        let ds = anchors_kept bs ys in
        let p : T (list_all (from_to 1 6) (map layer_count (used_layers m))) = subst (λ (v : List ℕ). T (list_all (from_to 1 6) v)) (sym (flat_layer_counts q ∙ kept_layer_counts bs ys ∙ sym (filter_picked is_positive cs))) (counts_within 6 (map rows_of_layer ys) (map is_positive ds) h) in
        let o : T (list_all (leb 1) (map row_count (used_rows m))) = subst (λ (v : List ℕ). T (list_all (leb 1) v)) (sym (flat_row_counts q ∙ kept_row_counts bs ys ∙ sym (filter_picked is_positive ds))) (positive_all ds) in
        let t : total (map row_count (used_rows m)) ≤ 24 = omega (arith, ap total (flat_row_counts q), concat_long (λ (w : TopologyRow). w.anchors) (rows_in q), kept_within.fewer_anchors, kept_within.anchors) in
        is_true _ (yes_and (list_all (from_to 1 6) (map layer_count (used_layers m)) && list_all (leb 1) (map row_count (used_rows m))) (leb (total (map row_count (used_rows m))) 24) (yes_and (list_all (from_to 1 6) (map layer_count (used_layers m))) (list_all (leb 1) (map row_count (used_rows m))) p o) (le→leb (total (map row_count (used_rows m))) 24 t))

    yes_5 : question5 m ≡ true
    unfolding question5
    yes_5 =
        let h = and_yes (ordered (map topology_z ys)) (list_all ordered_layer ys) (T_from_true _ (all_yes l e).4) in
        ap (λ (v : List TopologyLayer). ordered (map topology_z v) && list_all ordered_layer v) (flat_topology q)
        ∙ is_true _ (yes_and (ordered (map topology_z q.layers)) (list_all ordered_layer q.layers) (kept_ordered bs ys h.0) (kept_layers bs ys h.1))

    yes_6 : question6 m ≡ true
    unfolding question6
    yes_6 =
        let names = map anchor_name (used_anchors l) in
        let named : ℕ → Bool = λ n. elem n (active_names l) in
        let h : T (list_all named names) = T_from_true _ (all_yes l e).5 in
        let p : map anchor_name (used_anchors m) ≡ picked bs names = ap (map anchor_name) (flat_anchors q ∙ kept_anchors_lem bs ys ∙ ap (picked bs) (anchors_are l)) ∙ map_picked anchor_name bs (used_anchors l) in
        ap₂ (λ (cs : List Channel) (v : List ℕ). list_all (λ (n : ℕ). elem n (map channel_name (filter active cs))) v) (flat_channels q) p
        ∙ is_true _ (all_picked named bs names h)

    pub kept_yes : first_no (layout_questions m) ≡ 0
    kept_yes = sym (first_none m yes_1 yes_2 yes_3 yes_4 yes_5 yes_6)
