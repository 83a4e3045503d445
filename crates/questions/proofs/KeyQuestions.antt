-- Questions 1 to 6 of the layout in a key, by the parts of the key.
use Prim.Native.Nat.{ℕ, ◌+◌, ◌-◌, ◌≤◌, ◌<◌}
use mathlib.Core.Path.{◌≡◌, refl, sym, ap, ap₂, ◌∙◌}
use mathlib.Core.Bool.{Bool, true, false, ◌&&◌, and_assoc}
use mathlib.Core.List.{List, [], ◌∷◌, map}
use native.Mathlib.Omega.{arith}
use borrow.Author.Tests.{le-leb, lt-leb}
use lib.Dec.{eqb, leb}
use lib.Ieee.{Float}
use lib.ListN.{length, take, drop, get_or, get_or-map}
use lib.Seq.{slice, length-take-le, take-take, get_or-take}
use Rattle.std.specs.Prelude.{Some, None, slice_range}
use Rattle.lists.specs.Lists.{elem, all_distinct, chunks, total}
use Rattle.std.specs.List.{list_all, list_any}
use Rattle.std.proofs.lemmas.List.{drop-take, take-map}
use Rattle.lists.proofs.Chunks.{slice_front}
use Rattle.layout.specs.declared.Layout.{Layout}
use Rattle.layout.specs.Channels.{channels_of, channel_name, active, active_names, no_channel}
use Rattle.layout.specs.Topology.{rows_of, used_layers, used_rows, used_anchors, layer_count, layer_z, row_count, row_y, anchor_name, anchor_x}
use Rattle.layout.specs.Questions.{from_to, ordered, question1, question3, question4, question5, question6}
use Rattle.layout.specs.Steps.Counts.{counted_to}
use Rattle.layout.proofs.TopologyStarts.{layers_z}
use Rattle.layout.proofs.QuestionsCounted.{within, question4_not, question4_is}
use Rattle.layout.proofs.QuestionsOrdered.{layers_ordered_lem}
use Rattle.keys.specs.InKey.{double, layout_in}
use Rattle.questions.specs.Steps.KeyCounts.{counted}
use Rattle.questions.specs.Steps.KeyNames.{good_names, is_active_name, all_active_names}
use Rattle.questions.specs.Steps.KeyOrder.{all_ordered}
use Rattle.questions.proofs.Runs.{counted_some, counted_none, sum_few}
use Rattle.questions.proofs.ActiveInKey.{active_is}
use Rattle.keys.proofs.InKey.{names_are, actives_are, layer_counts_are, zs_are, row_counts_are, ys_are, anchor_names_are, xs_are, used_is, depth_is}

any_map : {A : Type 0} (p : A → Bool) (l : List A) → list_any p l ≡ list_any (λ (b : Bool). b) (map p l)
any_map p [] = refl
any_map p (x ∷ l) = rw (any_map p l)

all_is : (p q : ℕ → Bool) → ((w : ℕ) → p w ≡ q w) → (ws : List ℕ) → list_all p ws ≡ list_all q ws
all_is p q f [] = refl
all_is p q f (w ∷ ws) = ap₂ ◌&&◌ (f w) (all_is p q f ws)

module _ (key : List ℕ) (long : length key ≡ 156) where
  abbrev l : Layout
  l = layout_in key

  abbrev used : ℕ
  used = get_or key 152 0

  abbrev depth : ℕ
  depth = get_or key 153 0

  -- n numbers from place a on
  abbrev part : ℕ → ℕ → List ℕ
  part a n = slice_range key a (a + n)

  part_is : (a n : ℕ) → part a n ≡ slice a (a + n) key
  part_is a n =
      let e : a + n - a ≡ n = omega arith in
      ap (λ (m : ℕ). take m (drop a key)) e ∙ sym (drop-take a n key)

  part_front : (a n most : ℕ) → n ≤ most → part a n ≡ take n (slice a (a + most) key)
  part_front a n most h = part_is a n ∙ sym (slice_front key a n most h)

  -- ---- question 1
  names : (n : ℕ) → n ≤ 24 → map channel_name (take n l.channels) ≡ take n key
  names n h = sym (take-map channel_name n l.channels) ∙ ap (take n) (names_are key long) ∙ take-take n 24 key h

  module _ (u : from_to 1 24 used ≡ true) where
    few : used ≤ 24
    few = (within 1 24 used u).1

    channels_are : map channel_name (channels_of l) ≡ take used key
    channels_are = ap (λ (n : ℕ). map channel_name (take n l.channels)) (used_is key long) ∙ names used few

    pub question1_by : good_names (take used key) ≡ question1 l
    unfolding question1
    question1_by = rw (channels_are, used_is key long, u)

    -- ---- question 3
    pub question3_by : list_any (λ (f : ℕ). eqb f 1) (part 24 used) ≡ question3 l
    question3_by =
        any_map (λ (f : ℕ). eqb f 1) (part 24 used)
        ∙ ap (list_any (λ (b : Bool). b))
        (ap (map (λ (f : ℕ). eqb f 1)) (part_front 24 used 24 few)
        ∙ sym (take-map (λ (f : ℕ). eqb f 1) used (slice 24 48 key))
        ∙ ap (take used) (sym (actives_are key long))
        ∙ take-map active used l.channels
        ∙ ap (λ (n : ℕ). map active (take n l.channels)) (sym (used_is key long)))
        ∙ sym (any_map active (channels_of l))

    -- ---- question 4
    module _ (d : from_to 1 4 depth ≡ true) where
      shallow : depth ≤ 4
      shallow = (within 1 4 depth d).1

      layer_counts_lem : part 48 depth ≡ map layer_count (used_layers l)
      layer_counts_lem =
          part_front 48 depth 4 shallow ∙ ap (take depth) (sym (layer_counts_are key long)) ∙ take-map layer_count depth l.layers ∙ ap (λ (n : ℕ). map layer_count (take n l.layers)) (sym (depth_is key long))

      pub rows_no : counted 6 (part 48 depth) ≡ None → question4 l ≡ false
      rows_no r =
          let f = counted_none 6 (part 48 depth) r in
          sym (question4_not l (omega (arith, depth_is key long, shallow)) (omega (arith, f, ap (counted_to 6) layer_counts_lem)))

      module _ (rows : ℕ) (r : counted 6 (part 48 depth) ≡ Some rows) where
        abbrev cs : List ℕ
        cs = map layer_count (used_layers l)

        few_rows : rows ≤ 24
        few_rows = (counted_some 6 (part 48 depth) rows r).1

        rows_counted : rows ≡ counted_to 6 cs
        rows_counted = (counted_some 6 (part 48 depth) rows r).0 ∙ ap (counted_to 6) layer_counts_lem

        rows_total : rows ≡ total cs
        rows_total = (sum_few 6 rows cs rows_counted few_rows).1

        row_counts_lem : part 52 rows ≡ map row_count (take rows l.rows)
        row_counts_lem = part_front 52 rows 24 few_rows ∙ ap (take rows) (sym (row_counts_are key long)) ∙ take-map row_count rows l.rows

        question4_by : leb (counted_to 24 (part 52 rows)) 24 ≡ question4 l
        question4_by = ap (λ (ns : List ℕ). leb (counted_to 24 ns) 24) row_counts_lem ∙ question4_is l rows rows_counted few_rows

        pub anchors_no : counted 24 (part 52 rows) ≡ None → question4 l ≡ false
        anchors_no a = sym question4_by ∙ lt-leb _ 24 (counted_none 24 (part 52 rows) a)

        -- ---- question 5
        module _ (anchors : ℕ) (a : counted 24 (part 52 rows) ≡ Some anchors) where
          abbrev ns : List ℕ
          ns = map row_count (used_rows l)

          few_anchors : anchors ≤ 24
          few_anchors = (counted_some 24 (part 52 rows) anchors a).1

          anchors_counted : anchors ≡ counted_to 24 (part 52 rows)
          anchors_counted = (counted_some 24 (part 52 rows) anchors a).0

          pub question4_yes : question4 l ≡ true
          question4_yes = sym question4_by ∙ le-leb _ 24 (omega (arith, anchors_counted, few_anchors))

          pub totals : (total (part 48 depth) ≤ 24) × (total (part 52 rows) ≤ 24)
          totals =
              let p = (counted_some 6 (part 48 depth) rows r).0 in
              (omega (arith, (sum_few 6 rows (part 48 depth) p few_rows).1, few_rows), omega (arith, (sum_few 24 anchors (part 52 rows) anchors_counted few_anchors).1, few_anchors))

          ns_are : part 52 rows ≡ ns
          ns_are = row_counts_lem ∙ ap (λ (n : ℕ). map row_count (take n l.rows)) rows_total

          anchors_total : anchors ≡ total ns
          anchors_total = (sum_few 24 anchors ns (anchors_counted ∙ ap (counted_to 24) ns_are) few_anchors).1

          zs : map double (part 100 depth) ≡ map layer_z (used_layers l)
          zs =
              ap (map double) (part_front 100 depth 4 shallow)
              ∙ sym (take-map double depth (slice 100 104 key))
              ∙ ap (take depth) (sym (zs_are key long))
              ∙ take-map layer_z depth l.layers
              ∙ ap (λ (n : ℕ). map layer_z (take n l.layers)) (sym (depth_is key long))

          ys : chunks (part 48 depth) (map double (part 104 24)) ≡ chunks cs (map row_y l.rows)
          ys = ap₂ (λ (ds : List ℕ) (xs : List Float). chunks ds xs) layer_counts_lem (ap (map double) (part_is 104 24) ∙ sym (ys_are key long))

          xs : chunks (part 52 rows) (map double (part 128 24)) ≡ chunks ns (map anchor_x l.anchors)
          xs = ap₂ (λ (ds : List ℕ) (xs : List Float). chunks ds xs) ns_are (ap (map double) (part_is 128 24) ∙ sym (xs_are key long))

          pub question5_by : all_ordered key depth rows ≡ question5 l
          unfolding question5
          question5_by =
              and_assoc (ordered (map double (part 100 depth))) _ _
              ∙ ap₂ ◌&&◌
              (ap ordered (zs ∙ sym (layers_z (used_layers l) (rows_of l.rows l.anchors))))
              (ap₂ (λ (p q : List (List Float)). list_all ordered p && list_all ordered q) ys xs ∙ sym (layers_ordered_lem (used_layers l) l.rows l.anchors))

          -- ---- question 6
          anchor_names_lem : part 76 anchors ≡ map anchor_name (used_anchors l)
          anchor_names_lem =
              part_front 76 anchors 24 few_anchors ∙ ap (take anchors) (sym (anchor_names_are key long)) ∙ take-map anchor_name anchors l.anchors ∙ ap (λ (n : ℕ). map anchor_name (take n l.anchors)) anchors_total

          pub question6_by : all_distinct (take used key) ≡ true → all_active_names (take used key) (part 24 used) (part 76 anchors) ≡ question6 l
          unfolding question6
          question6_by q =
              all_is (is_active_name (take used key) (part 24 used)) (λ (w : ℕ). elem w (active_names l)) (active_is (channels_of l) (take used key) (part 24 used) (sym channels_are) flag_at (rw channels_are q)) (part 76 anchors)
              ∙ ap (list_all (λ (w : ℕ). elem w (active_names l))) anchor_names_lem
            where
              flag_at : (i : ℕ) → i < length (take used key) → eqb (get_or (part 24 used) i 0) 1 ≡ active (get_or (channels_of l) i no_channel)
              flag_at i g =
                  let h : i < used = omega (arith, length-take-le used key (omega (arith, few, long))) in
                  ap (λ (f : ℕ). eqb f 1) (ap (λ (fs : List ℕ). get_or fs i 0) (part_front 24 used 24 few) ∙ get_or-take used (slice 24 48 key) i 0 h)
                  ∙ sym (get_or-map (λ (f : ℕ). eqb f 1) (slice 24 48 key) i 0)
                  ∙ ap (λ (bs : List Bool). get_or bs i false) (sym (actives_are key long))
                  ∙ get_or-map active l.channels i no_channel
                  ∙ ap active (sym (get_or-take l.used l.channels i no_channel (omega (arith, h, used_is key long))))
