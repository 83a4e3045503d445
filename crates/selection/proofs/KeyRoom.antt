-- The numbers of a key are those of the accepted room in it: counts, names and the bits of the coordinates.
use Prim.Native.Nat.{ℕ, zero, suc, ◌+◌, ◌≤◌, ◌<◌}
use mathlib.Core.Path.{◌≡◌, refl, sym, ap, ap₂, ◌∙◌, subst}
use mathlib.Core.Bool.{not}
use mathlib.Core.List.{List, [], ◌∷◌, map, map-map}
use native.Mathlib.Omega.{arith}
use lib.Dec.{T}
use lib.Ieee.{Float, nan, inf, fin, binary64, lt, to_bits, is_nan}
use lib.Ieee.Bits.{to_bits-of_bits}
use lib.Ieee.Scale.{finite}
use lib.ListN.{length, take, drop, get_or, length-map}
use lib.Seq.{slice, get_or-drop}
use mir.Facts.{and_yes, yes_and}
use Rattle.doubles.specs.Arithmetic.{one64, minus_one64}
use Rattle.doubles.specs.Range.{is_between}
use Rattle.lists.specs.Lists.{chain, total}
use Rattle.std.specs.List.{list_all}
use Rattle.std.proofs.lemmas.List.{drop-take, take-map}
use Rattle.lists.proofs.Chunks.{slice_front}
use Rattle.layout.specs.declared.Layout.{Layout}
use Rattle.layout.specs.Steps.Accepted.{Accepted}
use Rattle.layout.specs.Room.{rows_in, anchors_in}
use Rattle.layout.specs.Topology.{topology_of, used_layers, used_rows, layer_count, layer_z, row_count, row_y, anchor_name, anchor_x}
use Rattle.layout.specs.Questions.{in_room, ordered, ordered_layer, topology_y, topology_z, question5}
use Rattle.layout.proofs.Sizes.{Sized}
use Rattle.layout.proofs.Coordinates.{ys_in_room, xs_in_room}
use Rattle.layout.proofs.TopologyFlat.{topology_z_lem, topology_rows_lem}
use Rattle.layout.proofs.TopologyStarts.{rows_y}
use Rattle.keys.specs.Keys.{rows_of_layer, anchors_of_row}
use Rattle.keys.specs.InKey.{double, layout_in, room_in}
use Rattle.keys.proofs.InKey.{layer_counts_are, zs_are, row_counts_are, ys_are, anchor_names_are, xs_are, sized}
use Rattle.layout.proofs.RoomLists.{anchors_are, layer_counts_lem, row_counts_lem, depth_is}
use Rattle.selection.specs.Steps.{z_bits, y_bits, x_bits}

-- ---- a pattern that is no NaN's is that of its double
number : (x : Float) → T (finite x) → T (not (is_nan x))
unfolding is_nan
number nan h = absurd h
number (inf s) h = absurd h
number (fin s m e) h = tt

-- each below 2^64
abbrev pub Words : List ℕ → Type 0
Words key = (i : ℕ) → get_or key i 0 < 18446744073709551616

exact : (bs : List ℕ) → Words bs → T (list_all in_room (map double bs)) → map (to_bits binary64) (map double bs) ≡ bs
exact [] w h = refl
exact (b ∷ bs) w h =
    let p = and_yes (in_room (double b)) (list_all in_room (map double bs)) h in
    ap₂ (λ (n : ℕ) (l : List ℕ). n ∷ l)
    (to_bits-of_bits binary64 b (w 0) (number (double b) (and_yes (finite (double b)) (is_between minus_one64 one64 (double b)) p.0).0))
    (exact bs (λ i. w (suc i)) p.1)

below : (n i : ℕ) (l : List ℕ) → Words l → get_or (take n l) i 0 < 18446744073709551616
below zero i l w = omega arith
below (suc n) zero [] w = omega arith
below (suc n) (suc i) [] w = omega arith
below (suc n) zero (x ∷ l) w = w 0
below (suc n) (suc i) (x ∷ l) w = below n i l (λ j. w (suc j))

module _ (key : List ℕ) (long : length key ≡ 156) (w : Words key) where
  part_words : (a n : ℕ) → Words (slice a (a + n) key)
  part_words a n i =
      subst (λ (l : List ℕ). get_or l i 0 < 18446744073709551616) (sym (drop-take a n key))
      (below n i (drop a key) (λ j. subst (λ (m : ℕ). m < 18446744073709551616) (sym (get_or-drop a key j 0)) (w (a + j))))

  -- the bits of the first m of a part's doubles
  bits : (a m most : ℕ) (fs gs : List Float) → m ≤ most → gs ≡ map double (slice a (a + most) key) → fs ≡ take m gs → T (list_all in_room fs) → map (to_bits binary64) fs ≡ slice a (a + m) key
  bits a m most fs gs h p q r =
      let e : fs ≡ map double (slice a (a + m) key) = q ∙ ap (take m) p ∙ take-map double m (slice a (a + most) key) ∙ ap (map double) (slice_front key a m most h) in
      ap (map (to_bits binary64)) e ∙ exact (slice a (a + m) key) (part_words a m) (subst (λ (l : List Float). T (list_all in_room l)) e r)

  module _ (ac : Accepted (layout_in key)) where
    abbrev l : Layout
    l = layout_in key

    s : Sized l
    s = sized key long

    -- how many there are
    layers_few : length (room_in key).layers ≤ 4
    layers_few = omega (arith, depth_is l s ac, ac.few_layers)

    rows_number : length (rows_in (room_in key)) ≡ total (map layer_count (used_layers l))
    rows_number = sym (length-map (rows_in (room_in key)) anchors_of_row) ∙ ap length (row_counts_lem l s ac) ∙ length-map (used_rows l) row_count ∙ ac.row_total

    pub rows_few : length (rows_in (room_in key)) ≤ 24
    rows_few = omega (arith, rows_number, ac.row_total, ac.most_rows)

    anchors_number : length (anchors_in (room_in key)) ≡ total (map row_count (used_rows l))
    anchors_number = ap length (anchors_are l) ∙ ac.anchor_total

    pub anchors_few : length (anchors_in (room_in key)) ≤ 24
    anchors_few = omega (arith, anchors_number, ac.anchor_total, ac.most_anchors)

    -- the counts and the names
    counted : {A : Type 0} (f : A → ℕ) (xs : List A) (ns : List ℕ) (a m n most : ℕ) → n ≡ m → n ≤ most → map f xs ≡ slice a (a + most) key → ns ≡ map f (take m xs) → slice a (a + n) key ≡ ns
    counted f xs ns a m n most e h p q =
        sym (q ∙ sym (take-map f m xs) ∙ ap₂ take (sym e) p ∙ slice_front key a n most h)

    pub layers_in_lem : slice 48 (48 + length (room_in key).layers) key ≡ map rows_of_layer (room_in key).layers
    layers_in_lem = counted layer_count l.layers _ 48 l.depth _ 4 (depth_is l s ac) layers_few (layer_counts_are key long) (layer_counts_lem l s ac)

    pub rows_in_key : slice 52 (52 + length (rows_in (room_in key))) key ≡ map anchors_of_row (rows_in (room_in key))
    rows_in_key = counted row_count l.rows _ 52 (total (map layer_count (used_layers l))) _ 24 rows_number rows_few (row_counts_are key long) (row_counts_lem l s ac)

    pub names_in_lem : slice 76 (76 + length (anchors_in (room_in key))) key ≡ map anchor_name (anchors_in (room_in key))
    names_in_lem = counted anchor_name l.anchors _ 76 (total (map row_count (used_rows l))) _ 24 anchors_number anchors_few (anchor_names_are key long) (ap (map anchor_name) (anchors_are l))

    -- the coordinates
    yes5 : T (question5 l)
    unfolding question5
    yes5 = yes_and (ordered (map topology_z (topology_of l))) (list_all ordered_layer (topology_of l)) ac.z_ordered ac.layers_ordered

    ys_of : map topology_y (rows_in (room_in key)) ≡ map row_y (used_rows l)
    ys_of = ap (map topology_y) (topology_rows_lem l) ∙ rows_y (used_rows l) l.anchors

    pub zs_in : slice 100 (100 + length (room_in key).layers) key ≡ map z_bits (room_in key).layers
    zs_in =
        sym
        (sym (map-map (to_bits binary64) topology_z (topology_of l))
        ∙ bits 100 (length (topology_of l)) 4 (map topology_z (topology_of l)) (map layer_z l.layers) layers_few (zs_are key long) (topology_z_lem l ∙ ap (λ (n : ℕ). take n (map layer_z l.layers)) (sym (depth_is l s ac))) (and_yes (list_all in_room (map topology_z (topology_of l))) (chain lt (map topology_z (topology_of l))) ac.z_ordered).0)

    pub ys_in_key : slice 104 (104 + length (rows_in (room_in key))) key ≡ map y_bits (rows_in (room_in key))
    ys_in_key =
        sym
        (sym (map-map (to_bits binary64) topology_y (rows_in (room_in key)))
        ∙ bits 104 (length (rows_in (room_in key))) 24 (map topology_y (rows_in (room_in key))) (map row_y l.rows) rows_few (ys_are key long)
        (ys_of ∙ sym (take-map row_y (total (map layer_count (used_layers l))) l.rows) ∙ ap (λ (n : ℕ). take n (map row_y l.rows)) (sym rows_number))
        (subst (λ (v : List Float). T (list_all in_room v)) (sym ys_of) (ys_in_room l yes5)))

    pub xs_in_key : slice 128 (128 + length (anchors_in (room_in key))) key ≡ map x_bits (anchors_in (room_in key))
    xs_in_key =
        sym
        (sym (map-map (to_bits binary64) anchor_x (anchors_in (room_in key)))
        ∙ bits 128 (length (anchors_in (room_in key))) 24 (map anchor_x (anchors_in (room_in key))) (map anchor_x l.anchors) anchors_few (xs_are key long)
        (ap (map anchor_x) (anchors_are l) ∙ sym (take-map anchor_x (total (map row_count (used_rows l))) l.anchors) ∙ ap (λ (n : ℕ). take n (map anchor_x l.anchors)) (sym anchors_number))
        (subst (λ (v : List Float). T (list_all in_room v)) (sym (ap (map anchor_x) (anchors_are l))) (xs_in_room l yes5)))
