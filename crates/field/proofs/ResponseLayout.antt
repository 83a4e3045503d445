-- The flat lists of an accepted layout keep to what the code asks, and what it leaves are the responses of the layout's topology. Assumes nothing.
use Prim.Native.Nat.{ℕ, suc, ◌+◌, ◌-◌, ◌≤◌, ◌<◌, min}
use mathlib.Core.Path.{◌≡◌, refl, sym, ap, ◌∙◌}
use mathlib.Core.Bool.{Bool, true, false, not, ◌||◌, cond}
use mathlib.Core.List.{List, [], ◌∷◌, map}
use native.Mathlib.Nat.{le_trans, le_refl, le_of_lt, le_of_eq, zero-add}
use native.Mathlib.Numerals.{add-one}
use native.Mathlib.Omega.{arith}
use lib.Dec.{T, eqb}
use lib.Ieee.{Float, nan, lt}
use lib.Ieee.Fits.{and_i, and_l, and_r}
use lib.Ieee.Scale.{finite}
use lib.ListN.{length, get_or, take, length-map}
use lib.Seq.{slice, get_or-take, length-slice, length-take-le}
use Rattle.doubles.specs.Arithmetic.{minus_one64, one64, zero64}
use Rattle.doubles.specs.Range.{is_between}
use Rattle.lists.specs.Lists.{elem, all_distinct, total, chain}
use Rattle.std.specs.List.{list_all, filter, range_with_len}
use Rattle.std.proofs.lemmas.List.FromFn.{get_or-range_with_len}
use Rattle.std.proofs.lemmas.List.{take-map, get_or-map as get_or_mapped}
use Rattle.layout.specs.declared.Layout.{Layout}
use Rattle.layout.specs.Steps.Accepted.{Accepted}
use Rattle.layout.specs.Channels.{active, channel_name, channels_of, active_names, active_count}
use Rattle.layout.specs.Questions.{in_room, ordered, topology_y}
use Rattle.layout.specs.Topology.{TopologyRow, TopologyLayer, rows_of, topology_of, used_layers, used_rows, used_anchors, anchor_x, row_y, row_count, layer_z, layer_count}
use Rattle.layout.specs.Steps.Starts.{starts_from, anchor_starts, row_starts, layer_starts, anchor_index, no_anchor}
use Rattle.layout.proofs.TopologyStarts.{rows_take, rows_length}
use Rattle.layout.proofs.TopologyFlat.{topology_rows_lem, topology_y_lem, topology_z_lem, topology_length, topology_layer, topology_row}
use Rattle.layout.proofs.TopologyRanges.{row_rises, row_end, row_most, anchor_rises, anchor_end, anchor_most}
use Rattle.field.specs.Knots.{Axis, X, Y, Z, sample}
use Rattle.field.specs.Responses.{response_on, weights_on, layer_pick}
use Rattle.field.specs.Steps.Flat.{pick_end, pick_added, response_added, Parted, Grouped}
use Rattle.field.proofs.ResponseRows.{weights_added, place_within, named, row_holds}
use Rattle.field.proofs.ResponseSpread.{all_in}
use Rattle.field.proofs.ResponseAxes.{Flat, rows_in, no_topology_row, no_topology_layer, slice_take, rising_to_lem, added_x, named_x, added_y, named_y, added_z, named_z}
use Rattle.field.proofs.ResponseSamples.{sample_finite}
use Rattle.field.proofs.response.Picks.{get_or_slice, layers_pick_end}

-- ---- the active names are distinct, since the channels' names are
or_right : (c d : Bool) → T d → T (c || d)
or_right true d t = tt
or_right false d t = t

or_map : (c d e : Bool) → (T d → T e) → T (c || d) → T (c || e)
or_map true d e h t = tt
or_map false d e h t = h t

not_map : (d e : Bool) → (T d → T e) → T (not e) → T (not d)
not_map true true h t = t
not_map true false h t = absurd (h tt)
not_map false e h t = tt

module _ {A : Type 0} (f : A → ℕ) (p : A → Bool) where
  elem_filter : (n : ℕ) (xs : List A) → T (elem n (map f (filter p xs))) → T (elem n (map f xs))
  elem_filter n [] t = t
  elem_filter n (x ∷ xs) t = go (p x) (elem_filter n xs) t
    where
      go : (b : Bool) → (T (elem n (map f (filter p xs))) → T (elem n (map f xs))) → T (elem n (map f (cond b (x ∷ filter p xs) (filter p xs)))) → T (eqb (f x) n || elem n (map f xs))
      go true h s = or_map (eqb (f x) n) (elem n (map f (filter p xs))) (elem n (map f xs)) h s
      go false h s = or_right (eqb (f x) n) (elem n (map f xs)) (h s)

  distinct_filter : (xs : List A) → T (all_distinct (map f xs)) → T (all_distinct (map f (filter p xs)))
  distinct_filter [] t = t
  distinct_filter (x ∷ xs) t = go (p x) (distinct_filter xs (and_r (not (elem (f x) (map f xs))) (all_distinct (map f xs)) t))
    where
      go : (b : Bool) → T (all_distinct (map f (filter p xs))) → T (all_distinct (map f (cond b (x ∷ filter p xs) (filter p xs))))
      go true d =
          and_i (not (elem (f x) (map f (filter p xs)))) (all_distinct (map f (filter p xs)))
          (not_map (elem (f x) (map f (filter p xs))) (elem (f x) (map f xs)) (elem_filter (f x) xs) (and_l (not (elem (f x) (map f xs))) (all_distinct (map f xs)) t)) d
      go false d = d

-- ---- ordered coordinates are finite
pub ordered_finite : (xs : List Float) (i : ℕ) → T (ordered xs) → i < length xs → T (finite (get_or xs i nan))
ordered_finite xs i t h =
    let x = get_or xs i nan in
    and_l (finite x) (is_between minus_one64 one64 x) (all_in in_room nan xs i (and_l (list_all in_room xs) (chain lt xs) t) h)

part_finite : (v : List Float) (a b i : ℕ) → b ≤ length v → T (ordered (slice a b v)) → a ≤ i → i < b → T (finite (get_or v i nan))
part_finite v a b i long t h k =
    let e : a + (i - a) ≡ i = omega arith in
    let n = length-slice a b v long in
    rw (get_or_slice a b v (i - a) nan (omega arith), e) at (ordered_finite (slice a b v) (i - a) t (omega arith))

-- ---- each anchor as a part of its own
abbrev pub ones : List ℕ
ones = range_with_len 0 25

pub single : (i : ℕ) → i ≤ 24 → get_or ones i 0 ≡ i
single i h = get_or-range_with_len 0 25 i 0 (omega arith) ∙ zero-add i

starts_size : (cs : List ℕ) (s : ℕ) → length (starts_from s cs) ≡ suc (length cs)
starts_size [] s = refl
starts_size (c ∷ cs) s = ap suc (starts_size cs (min (s + c) 24))

module _ (l : Layout) (layers : length l.layers ≡ 4) (rows : length l.rows ≡ 24) (anchors : length l.anchors ≡ 24) (a : Accepted l) where
  names_distinct : T (all_distinct (active_names l))
  names_distinct = distinct_filter channel_name active (channels_of l) a.channels_distinct

  abbrev row_total : ℕ
  row_total = length (used_rows l)

  -- the rows of the topology
  rows_in_lem : rows_in (topology_of l) ≡ take row_total (rows_of l.rows l.anchors)
  rows_in_lem = topology_rows_lem l ∙ sym (rows_take (total (map layer_count (used_layers l))) l.rows l.anchors) ∙ ap (λ (n : ℕ). take n (rows_of l.rows l.anchors)) (sym a.row_total)

  rows_count : length (rows_in (topology_of l)) ≡ row_total
  rows_count = ap length (topology_rows_lem l) ∙ rows_length (used_rows l) l.anchors

  flat : Flat (active_names l) (topology_of l) l.anchors (anchor_starts l) (row_starts l) (map row_y l.rows)
  flat =
      let few = a.few_layers in
      let depth = topology_length l layers rows anchors few in
      let most = a.most_rows in
      let many = a.most_anchors in
      let n = rows_count in
      record {
        row_cut = λ r h.
            rw (rows_in_lem, add-one)
            (ap (λ (t : TopologyRow). t.anchors) (get_or-take row_total (rows_of l.rows l.anchors) r no_topology_row (omega arith) ∙ topology_row l layers rows anchors few r no_topology_row (omega arith)));
        layer_cut = λ i h.
            rw (rows_in_lem, add-one)
            (ap (λ (t : TopologyLayer). t.rows) (topology_layer l layers rows anchors few i no_topology_layer (omega arith))
            ∙ sym (slice_take (get_or (row_starts l) i 0) (get_or (row_starts l) (suc i) 0) row_total (rows_of l.rows l.anchors) (row_most l layers rows a (suc i) (omega arith))));
        y_cut = rw n (ap (map topology_y) rows_in_lem ∙ sym (take-map topology_y row_total (rows_of l.rows l.anchors)) ∙ ap (take row_total) (topology_y_lem l));
        rise = λ r h. rw add-one (le_of_lt (anchor_rises l layers rows a r (omega arith)));
        within = rw n (omega (arith, anchor_end l layers rows a));
        rows_rise = λ i h. rw add-one (le_of_lt (row_rises l layers rows a i (omega arith)));
        rows_within = rw (depth, n) (le_of_eq (row_end l layers rows a));
        actives = λ i h. a.anchor_active i (rw (n, anchor_end l layers rows a) at h);
      }

  -- ---- what the code asks of the lists
  place_small : (i : ℕ) → i < length (used_anchors l) → get_or (map (anchor_index l) l.anchors) i 0 < 24
  place_small i h =
      let few = a.few_active in
      let many = a.most_anchors in
      rw (get_or_mapped (anchor_index l) l.anchors i no_anchor 0 (omega arith)) (le_trans (place_within (get_or l.anchors i no_anchor).name (active_names l) (a.anchor_active i h)) few)

  places_length : length (map (anchor_index l) l.anchors) ≡ 24
  places_length = length-map l.anchors (anchor_index l) ∙ anchors

  anchor_starts_length : length (anchor_starts l) ≡ 25
  anchor_starts_length = starts_size (map row_count l.rows) 0 ∙ ap suc (length-map l.rows row_count ∙ rows)

  row_starts_length : length (row_starts l) ≡ 5
  row_starts_length = starts_size (map layer_count l.layers) 0 ∙ ap suc (length-map l.layers layer_count ∙ layers)

  -- X
  pub x_grouped : Grouped (map anchor_x l.anchors) (anchor_starts l) row_total
  x_grouped =
      let most = a.most_rows in
      let many = a.most_anchors in
      let size = length-map l.anchors anchor_x ∙ anchors in
      let end = anchor_end l layers rows a in
      let up_to : (g : ℕ) → g < row_total → get_or (anchor_starts l) (g + 1) 0 ≤ get_or (anchor_starts l) row_total 0 =
      λ g h. rising_to_lem (anchor_starts l) row_total (λ r k. rw add-one (le_of_lt (anchor_rises l layers rows a r k))) (g + 1) row_total (omega arith) (le_refl row_total) in
      record {
        many = omega (arith, anchor_starts_length);
        some = λ g h. rw add-one (anchor_rises l layers rows a g h);
        ends = up_to;
        within = omega arith;
        finites = λ g i h j k. part_finite (map anchor_x l.anchors) (get_or (anchor_starts l) g 0) (get_or (anchor_starts l) (g + 1) 0) i (omega (arith, up_to g h)) (rw add-one (a.xs_ordered g h)) j k;
      }

  pub x_parted : Parted (map (anchor_index l) l.anchors) ones (get_or (anchor_starts l) row_total 0)
  x_parted =
      let many = a.most_anchors in
      let end = anchor_end l layers rows a in
      record {
        many = omega arith;
        ends = λ i h. omega (arith, single i (omega arith), places_length);
        places = λ i j h k. place_small j (omega (arith, single i (omega arith)));
      }

  -- Y
  pub y_grouped : Grouped (map row_y l.rows) (row_starts l) l.depth
  y_grouped =
      let few = a.few_layers in
      let most = a.most_rows in
      let size = length-map l.rows row_y ∙ rows in
      let end = row_end l layers rows a in
      record {
        many = omega (arith, row_starts_length);
        some = λ g h. rw add-one (row_rises l layers rows a g h);
        ends = λ g h. rw end (row_most l layers rows a (g + 1) (omega arith));
        within = omega arith;
        finites = λ g i h j k. part_finite (map row_y l.rows) (get_or (row_starts l) g 0) (get_or (row_starts l) (g + 1) 0) i (omega (arith, row_most l layers rows a (g + 1) (omega arith))) (rw add-one (a.ys_ordered g h)) j k;
      }

  pub y_parted : Parted (map (anchor_index l) l.anchors) (anchor_starts l) (get_or (row_starts l) l.depth 0)
  y_parted =
      let most = a.most_rows in
      let many = a.most_anchors in
      let end = row_end l layers rows a in
      record {
        many = omega (arith, anchor_starts_length);
        ends = λ i h. omega (arith, anchor_most l layers rows a i (omega arith), places_length);
        places = λ i j h k. place_small j (omega (arith, anchor_most l layers rows a i (omega arith)));
      }

  -- Z
  pub z_finite : (i : ℕ) → i < l.depth → T (finite (get_or (map layer_z l.layers) i nan))
  z_finite i h =
      let few = a.few_layers in
      let n = length-take-le l.depth (map layer_z l.layers) (omega (arith, length-map l.layers layer_z)) in
      rw (get_or-take l.depth (map layer_z l.layers) i nan h) at (ordered_finite (take l.depth (map layer_z l.layers)) i a.zs_ordered (omega arith))

  layer_start : (i : ℕ) → i ≤ l.depth → get_or (layer_starts l) i 0 ≡ get_or (anchor_starts l) (get_or (row_starts l) i 0) 0
  layer_start i h =
      let few = a.few_layers in
      get_or_mapped (λ (r : ℕ). get_or (anchor_starts l) r 0) (row_starts l) i 0 0 (omega (arith, row_starts_length))

  pub z_parted : Parted (map (anchor_index l) l.anchors) (layer_starts l) l.depth
  z_parted =
      let few = a.few_layers in
      let many = a.most_anchors in
      let end : (i : ℕ) → i ≤ l.depth → get_or (layer_starts l) i 0 ≤ length (used_anchors l) =
      λ i h. rw (layer_start i h) (anchor_most l layers rows a (get_or (row_starts l) i 0) (row_most l layers rows a i h)) in
      record {
        many = omega (arith, length-map (row_starts l) (λ (r : ℕ). get_or (anchor_starts l) r 0), row_starts_length);
        ends = λ i h. omega (arith, end i h, places_length);
        places = λ i j h k. place_small j (omega (arith, end i h));
      }

  -- ---- what the code leaves in a list of zeros
  single_anchor : (i : ℕ) → i ≤ length l.anchors → get_or ones i 0 ≡ i
  single_anchor i h = single i (omega arith)

  topology_grouped_x : Grouped (map anchor_x l.anchors) (anchor_starts l) (length (rows_in (topology_of l)))
  topology_grouped_x = rw rows_count x_grouped

  depth_is : length (topology_of l) ≡ l.depth
  depth_is = topology_length l layers rows anchors a.few_layers

  topology_grouped_y : Grouped (map row_y l.rows) (row_starts l) (length (topology_of l))
  topology_grouped_y = rw depth_is y_grouped

  -- the row of a sample holds the sums of its weights
  held : (a' : Axis) (s k : ℕ) (out : List Float) → T (list_all (named (active_names l)) (weights_on a' (topology_of l) (sample a' s))) → 24 ≤ length out → ((i : ℕ) → i < 24 → get_or out i nan ≡ zero64) → k < active_count l →
      get_or (weights_added (active_names l) (weights_on a' (topology_of l) (sample a' s)) out) k nan ≡ response_on a' (topology_of l) (sample a' s) (get_or (active_names l) k 0)
  unfolding response_on
  held a' s k out t long zeros m =
      let few = a.few_active in
      row_holds (active_names l) names_distinct (weights_on a' (topology_of l) (sample a' s)) out t (omega arith) (λ i h. zeros i (omega arith)) k m

  module _ (out : List Float) (long : 24 ≤ length out) (zeros : (i : ℕ) → i < 24 → get_or out i nan ≡ zero64) where
    pub responses_x_lem : (s k : ℕ) → s < 20 → k < active_count l →
        get_or (response_added (map (anchor_index l) l.anchors) ones (map anchor_x l.anchors) (anchor_starts l) row_total (sample X s) out) k nan ≡ response_on X (topology_of l) (sample X s) (get_or (active_names l) k 0)
    responses_x_lem s k h m =
        let f = sample_finite X s h in
        rw (← rows_count, added_x (active_names l) (topology_of l) l.anchors (anchor_starts l) (row_starts l) (map row_y l.rows) flat ones single_anchor topology_grouped_x (sample X s) f out)
        (held X s k out (named_x (active_names l) (topology_of l) l.anchors (anchor_starts l) (row_starts l) (map row_y l.rows) flat ones single_anchor topology_grouped_x (sample X s) f) long zeros m)

    pub responses_y_lem : (s k : ℕ) → s < 20 → k < active_count l →
        get_or (response_added (map (anchor_index l) l.anchors) (anchor_starts l) (map row_y l.rows) (row_starts l) l.depth (sample Y s) out) k nan ≡ response_on Y (topology_of l) (sample Y s) (get_or (active_names l) k 0)
    responses_y_lem s k h m =
        let f = sample_finite Y s h in
        ap (λ (n : ℕ). get_or (response_added (map (anchor_index l) l.anchors) (anchor_starts l) (map row_y l.rows) (row_starts l) n (sample Y s) out) k nan) (sym depth_is)
        ∙ ap (λ (row : List Float). get_or row k nan) (added_y (active_names l) (topology_of l) l.anchors (anchor_starts l) (row_starts l) (map row_y l.rows) flat topology_grouped_y (sample Y s) f out)
        ∙ held Y s k out (named_y (active_names l) (topology_of l) l.anchors (anchor_starts l) (row_starts l) (map row_y l.rows) flat topology_grouped_y (sample Y s) f) long zeros m

    z_end : (s : ℕ) → s < 8 → pick_end (layer_pick (take l.depth (map layer_z l.layers)) (sample Z s)) ≤ l.depth
    z_end s h =
        let few = a.few_layers in
        let some = a.some_layers in
        layers_pick_end (map layer_z l.layers) l.depth (sample Z s) (omega (arith, length-map l.layers layer_z)) some (sample_finite Z s h) (z_finite 0 some)

    layer_starts_lem : (i : ℕ) → i ≤ length (topology_of l) → get_or (layer_starts l) i 0 ≡ get_or (anchor_starts l) (get_or (row_starts l) i 0) 0
    layer_starts_lem i h = layer_start i (omega (arith, depth_is))

    pub responses_z_lem : (s k : ℕ) → s < 8 → k < active_count l →
        get_or (pick_added (map (anchor_index l) l.anchors) (layer_starts l) (layer_pick (take l.depth (map layer_z l.layers)) (sample Z s)) out) k nan ≡ response_on Z (topology_of l) (sample Z s) (get_or (active_names l) k 0)
    responses_z_lem s k h m =
        ap (λ (row : List Float). get_or row k nan)
        (added_z (active_names l) (topology_of l) l.anchors (anchor_starts l) (row_starts l) (map row_y l.rows) flat (map layer_z l.layers) l.depth (sym depth_is) (topology_z_lem l) (layer_starts l) layer_starts_lem (sample Z s) out (z_end s h))
        ∙ held Z s k out
        (named_z (active_names l) (topology_of l) l.anchors (anchor_starts l) (row_starts l) (map row_y l.rows) flat (map layer_z l.layers) l.depth (sym depth_is) (topology_z_lem l) (layer_starts l) layer_starts_lem (sample Z s) (z_end s h)) long zeros m
