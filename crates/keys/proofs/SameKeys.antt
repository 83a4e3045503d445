-- Equal keys are same rooms and equal epochs, and same rooms have equal keys.
-- A key is cut into its parts by their lengths, and each part into its entries by the counts, which stand in parts before it. Numbers tell the channels, and names and patterns the anchors.
-- Rows are the same where their y and their anchors are, layers where their z and their rows are: each takes as many of the list of all parts as it counts.
use Prim.Native.Nat.{ℕ, ◌≤◌}
use mathlib.Core.Path.{◌≡◌, sym, ap, ◌∙◌}
use mathlib.Core.Bool.{Bool, true, ◌&&◌}
use mathlib.Core.List.{List, [], ◌∷◌, map, map-id}
use lib.Dec.{T, eqb, eqb→eq}
use lib.Ieee.{Float, eq, fits, binary64}
use lib.Ieee.Fits.{eq→eqb}
use lib.Ieee.Scale.{finite}
use lib.ListN.{length, get_or, length-map}
use mir.Facts.{and_yes, yes_and}
use Rattle.doubles.specs.Arithmetic.{one64, minus_one64}
use Rattle.doubles.specs.Range.{is_between}
use Rattle.lists.specs.Lists.{all_same, total, flatten}
use Rattle.std.specs.List.{list_all}
use Rattle.layout.specs.declared.Anchor.{Anchor}
use Rattle.layout.specs.Channels.{channel_name}
use Rattle.layout.specs.Topology.{TopologyRow, TopologyLayer, anchor_name, anchor_x}
use Rattle.layout.specs.Questions.{in_room, ordered, ordered_row, ordered_layer, topology_y, topology_z}
use Rattle.layout.specs.Room.{Room, rows_in, anchors_in}
use Rattle.layout.specs.Same.{same_channel, same_anchor, same_row, same_layer, same_room}
use Rattle.layout.proofs.Coordinates.{all_and, all_map, all_unmap, room_of_lem}
use Rattle.layout.proofs.TopologyLists.{all_concat}
use Rattle.layout.proofs.TopologyStarts.{topology_rows, topology_anchors}
use Rattle.layout.proofs.SameLists.{all_true, all_same_equal}
use Rattle.layout.proofs.SameRooms.{all_same_length, row_opens, layer_opens, same_room_lem, same_channels, same_layers, same_rows, same_anchors}
use Rattle.layout.proofs.SoundRoom.{SoundRoom, fits_row, fits_layer, xs_fit, ys_fit, zs_fit, rows_of_lem}
use Rattle.keys.specs.Keys.{filled_to, flag_number, pattern, rows_of_layer, anchors_of_row, key_numbers}
use Rattle.keys.specs.Steps.{x_pattern}
use Rattle.keys.proofs.KeyPatterns.{eq_pattern, pattern_eq}
use Rattle.keys.proofs.KeyWhole.{length_filled, eight_joined}
use Rattle.keys.proofs.KeyEntries.{parts_apart, concat_length, numbers_same, entries_same, parted_same, channel_closes}

abbrev z_pattern : TopologyLayer → ℕ
z_pattern y = pattern (topology_z y)

abbrev y_pattern : TopologyRow → ℕ
y_pattern w = pattern (topology_y w)

-- ---- a key in its parts
module _ (r : Room) where
  abbrev names : List ℕ
  names = filled_to 24 (map channel_name r.channels)

  abbrev flags : List ℕ
  flags = filled_to 24 (map flag_number r.channels)

  abbrev layer_counts : List ℕ
  layer_counts = filled_to 4 (map rows_of_layer r.layers)

  abbrev row_counts : List ℕ
  row_counts = filled_to 24 (map anchors_of_row (rows_in r))

  abbrev anchor_names : List ℕ
  anchor_names = filled_to 24 (map anchor_name (anchors_in r))

  abbrev zs : List ℕ
  zs = filled_to 4 (map z_pattern r.layers)

  abbrev ys : List ℕ
  ys = filled_to 24 (map y_pattern (rows_in r))

  abbrev xs : List ℕ
  xs = filled_to 24 (map x_pattern (anchors_in r))

  abbrev numbers : ℕ → List ℕ
  numbers e = length r.channels ∷ length r.layers ∷ e ∷ 0 ∷ []

  abbrev parts : ℕ → List (List ℕ)
  parts e = names ∷ flags ∷ layer_counts ∷ row_counts ∷ anchor_names ∷ zs ∷ ys ∷ xs ∷ numbers e ∷ []

  key_is : (e : ℕ) → flatten (parts e) ≡ key_numbers r e
  unfolding key_numbers
  key_is e = eight_joined names flags layer_counts row_counts anchor_names zs ys xs (numbers e)

pub filled_long : {A : Type 0} (f : A → ℕ) (xs : List A) (n : ℕ) → length xs ≤ n → length (filled_to n (map f xs)) ≡ n
filled_long f xs n h = length_filled n (map f xs) (rw (length-map xs f) h)

module _ (r : Room) (s : SoundRoom r) (e : ℕ) where
  parts_long : map length (parts r e) ≡ 24 ∷ 24 ∷ 4 ∷ 24 ∷ 24 ∷ 4 ∷ 24 ∷ 24 ∷ 4 ∷ []
  parts_long =
      rw (filled_long channel_name r.channels 24 s.few_channels, filled_long flag_number r.channels 24 s.few_channels, filled_long rows_of_layer r.layers 4 s.few_layers, filled_long anchors_of_row (rows_in r) 24 s.few_rows, filled_long anchor_name (anchors_in r) 24 s.few_anchors, filled_long z_pattern r.layers 4 s.few_layers, filled_long y_pattern (rows_in r) 24 s.few_rows, filled_long x_pattern (anchors_in r) 24 s.few_anchors)

  pub key_length : length (key_numbers r e) ≡ 156
  key_length = ap length (sym (key_is r e) ∙ ap flatten (sym (map-id (parts r e)))) ∙ concat_length (λ (p : List ℕ). p) (parts r e) ∙ ap total parts_long

-- ---- each coordinate is a double in the room
abbrev place : Float → Bool
place x = fits binary64 x && in_room x

place_eq : (x y : Float) → T (place x) → T (place y) → pattern x ≡ pattern y → T (eq x y)
place_eq x y h k e =
    let f = and_yes (fits binary64 x) (in_room x) h in
    let g = and_yes (fits binary64 y) (in_room y) k in
    pattern_eq x y f.0 (and_yes (finite x) (is_between minus_one64 one64 x) f.1).0 g.0 (and_yes (finite y) (is_between minus_one64 one64 y) g.1).0 e

module _ {A : Type 0} where
  places : (f : A → Float) (l : List A) → T (list_all (fits binary64) (map f l)) → T (ordered (map f l)) → T (list_all (λ (x : A). place (f x)) l)
  places f l h o = all_and (λ (x : A). fits binary64 (f x)) (λ (x : A). in_room (f x)) l (all_unmap (fits binary64) f l h) (all_unmap in_room f l (room_of_lem (map f l) o))

  -- what holds of each one's parts holds of all parts
  joined : {B : Type 0} (p : A → Bool) (q : B → Bool) (parts : A → List B) → ((x : A) → T (p x) → T (list_all q (parts x))) → (l : List A) → T (list_all p l) → T (list_all q (flatten (map parts l)))
  joined p q parts s l h = rw (← all_concat q (map parts l)) (all_map p (list_all q) parts s l h)

abbrev good_row : TopologyRow → Bool
good_row w = fits_row w && ordered_row w

abbrev good_layer : TopologyLayer → Bool
good_layer y = fits_layer y && ordered_layer y

row_placed : (w : TopologyRow) → T (good_row w) → T (list_all (λ (a : Anchor). place (anchor_x a)) w.anchors)
row_placed w h = let p = and_yes (fits_row w) (ordered_row w) h in places anchor_x w.anchors (xs_fit w p.0) p.1

-- the rows of a layer
module _ (y : TopologyLayer) (h : T (good_layer y)) where
  fitting : T (list_all fits_row y.rows)
  fitting = rows_of_lem y (and_yes (fits_layer y) (ordered_layer y) h).0

  in_order : T (ordered (map topology_y y.rows)) × T (list_all ordered_row y.rows)
  in_order = and_yes (ordered (map topology_y y.rows)) (list_all ordered_row y.rows) (and_yes (fits_layer y) (ordered_layer y) h).1

  layer_good : T (list_all good_row y.rows)
  layer_good = all_and fits_row ordered_row y.rows fitting in_order.1

  layer_placed : T (list_all (λ (w : TopologyRow). place (topology_y w)) y.rows)
  layer_placed = places topology_y y.rows (ys_fit y.rows fitting) in_order.0

module _ (r : Room) (s : SoundRoom r) where
  zs_placed : T (list_all (λ (y : TopologyLayer). place (topology_z y)) r.layers)
  zs_placed = places topology_z r.layers (zs_fit r.layers s.doubles) s.z_ordered

  good_layers : T (list_all good_layer r.layers)
  good_layers = all_and fits_layer ordered_layer r.layers s.doubles s.layers_ordered

  ys_placed : T (list_all (λ (w : TopologyRow). place (topology_y w)) (rows_in r))
  ys_placed = joined good_layer (λ w. place (topology_y w)) topology_rows layer_placed r.layers good_layers

  xs_placed : T (list_all (λ (a : Anchor). place (anchor_x a)) (anchors_in r))
  xs_placed = joined good_row (λ a. place (anchor_x a)) topology_anchors row_placed (rows_in r) (joined good_layer good_row topology_rows layer_good r.layers good_layers)

-- ---- entries that are told by their numbers
anchor_closes : (x y : Anchor) → T (place x.x) → T (place y.x) → x.name ≡ y.name → x_pattern x ≡ x_pattern y → T (same_anchor x y)
anchor_closes x y h k u v = yes_and (eqb x.name y.name) (eq x.x y.x) (eq→eqb u) (place_eq x.x y.x h k v)

row_closes : (x y : TopologyRow) → T (place x.y) → T (place y.y) → y_pattern x ≡ y_pattern y → T (all_same same_anchor x.anchors y.anchors) → T (same_row x y)
row_closes x y h k u v = yes_and (eq x.y y.y) (all_same same_anchor x.anchors y.anchors) (place_eq x.y y.y h k u) v

layer_closes : (x y : TopologyLayer) → T (place x.z) → T (place y.z) → z_pattern x ≡ z_pattern y → T (all_same same_row x.rows y.rows) → T (same_layer x y)
layer_closes x y h k u v = yes_and (eq x.z y.z) (all_same same_row x.rows y.rows) (place_eq x.z y.z h k u) v

-- ---- equal keys, same rooms
module _ (a b : Room) (s : SoundRoom a) (t : SoundRoom b) (e f : ℕ) (q : key_numbers a e ≡ key_numbers b f) where
  part : (i : ℕ) → get_or (parts a e) i [] ≡ get_or (parts b f) i []
  part i =
      ap (λ (ps : List (List ℕ)). get_or ps i [])
      (parts_apart (parts a e) (parts b f) (parts_long a s e ∙ sym (parts_long b t f)) (key_is a e ∙ q ∙ sym (key_is b f)))

  number : (i : ℕ) → get_or (numbers a e) i 0 ≡ get_or (numbers b f) i 0
  number i = ap (λ (p : List ℕ). get_or p i 0) (part 8)

  layer_counts_lem : map rows_of_layer a.layers ≡ map rows_of_layer b.layers
  layer_counts_lem = numbers_same rows_of_layer 4 a.layers b.layers (number 1) (part 2)

  as_many_rows : length (rows_in a) ≡ length (rows_in b)
  as_many_rows = concat_length topology_rows a.layers ∙ ap total layer_counts_lem ∙ sym (concat_length topology_rows b.layers)

  row_counts_lem : map anchors_of_row (rows_in a) ≡ map anchors_of_row (rows_in b)
  row_counts_lem = numbers_same anchors_of_row 24 (rows_in a) (rows_in b) as_many_rows (part 3)

  as_many_anchors : length (anchors_in a) ≡ length (anchors_in b)
  as_many_anchors = concat_length topology_anchors (rows_in a) ∙ ap total row_counts_lem ∙ sym (concat_length topology_anchors (rows_in b))

  channels : T (all_same same_channel a.channels b.channels)
  channels =
      entries_same same_channel (λ c. true) channel_name flag_number channel_closes a.channels b.channels (all_true a.channels) (all_true b.channels)
      (numbers_same channel_name 24 a.channels b.channels (number 0) (part 0))
      (numbers_same flag_number 24 a.channels b.channels (number 0) (part 1))

  anchors : T (all_same same_anchor (anchors_in a) (anchors_in b))
  anchors =
      entries_same same_anchor (λ (n : Anchor). place (anchor_x n)) anchor_name x_pattern anchor_closes (anchors_in a) (anchors_in b) (xs_placed a s) (xs_placed b t)
      (numbers_same anchor_name 24 (anchors_in a) (anchors_in b) as_many_anchors (part 4))
      (numbers_same x_pattern 24 (anchors_in a) (anchors_in b) as_many_anchors (part 7))

  rows : T (all_same same_row (rows_in a) (rows_in b))
  rows =
      parted_same same_anchor same_row (λ (w : TopologyRow). place (topology_y w)) y_pattern topology_anchors row_closes (rows_in a) (rows_in b) (ys_placed a s) (ys_placed b t)
      (numbers_same y_pattern 24 (rows_in a) (rows_in b) as_many_rows (part 6))
      row_counts_lem anchors

  layers : T (all_same same_layer a.layers b.layers)
  layers =
      parted_same same_row same_layer (λ (y : TopologyLayer). place (topology_z y)) z_pattern topology_rows layer_closes a.layers b.layers (zs_placed a s) (zs_placed b t)
      (numbers_same z_pattern 4 a.layers b.layers (number 1) (part 5))
      layer_counts_lem rows

  pub key_same : T (same_room a b) × (e ≡ f)
  key_same = (same_room_lem a b channels layers, number 2)

-- ---- same rooms, equal keys
pub same_key_lem : (a b : Room) → T (same_room a b) → (e : ℕ) → key_numbers a e ≡ key_numbers b e
unfolding key_numbers
same_key_lem a b h e =
    let layers = same_layers a b h in
    let rows = same_rows a b h in
    let anchors = same_anchors a b h in
    rw (
      same_channels a b h,
      all_same_length same_layer a.layers b.layers layers,
      all_same_equal same_layer rows_of_layer (λ x y q. all_same_length same_row x.rows y.rows (layer_opens x y q).1) a.layers b.layers layers,
      all_same_equal same_row anchors_of_row (λ x y q. all_same_length same_anchor x.anchors y.anchors (row_opens x y q).1) (rows_in a) (rows_in b) rows,
      all_same_equal same_anchor anchor_name (λ x y q. eqb→eq x.name y.name (and_yes (eqb x.name y.name) (eq x.x y.x) q).0) (anchors_in a) (anchors_in b) anchors,
      all_same_equal same_layer z_pattern (λ x y q. eq_pattern x.z y.z (layer_opens x y q).0) a.layers b.layers layers,
      all_same_equal same_row y_pattern (λ x y q. eq_pattern x.y y.y (row_opens x y q).0) (rows_in a) (rows_in b) rows,
      all_same_equal same_anchor x_pattern (λ x y q. eq_pattern x.x y.x (and_yes (eqb x.name y.name) (eq x.x y.x) q).1) (anchors_in a) (anchors_in b) anchors,
    )
