-- The layout in a layout's key answers questions 1 to 6 as that layout does, whatever its counts and coordinates are.
use Prim.Native.Nat.{ℕ, ◌+◌, ◌*◌, ◌≤◌}
use mathlib.Core.Path.{◌≡◌, refl, sym, ap, ap₂, ◌∙◌, subst}
use mathlib.Core.Bool.{Bool, true, false, ◌&&◌, cond}
use mathlib.Core.List.{List, map, map-map}
use native.Mathlib.Nat.{zero-add}
use native.Mathlib.Omega.{arith}
use borrow.Author.Tests.{leb-true}
use lib.Dec.{T, leb}
use lib.Ieee.{Float, binary64, fits}
use lib.ListN.{length, take, length-map, length-take}
use lib.Seq.{slice, length-take-le}
use Rattle.lists.specs.Lists.{elem, all_distinct, chunks, total, bit, zip_with}
use Rattle.std.specs.List.{list_all, list_any, filter}
use Rattle.std.proofs.lemmas.List.{take-map}
use Rattle.std.proofs.lemmas.Bool.{and_parts}
use Rattle.lists.proofs.Chunks.{chunks_take, slice_front}
use Rattle.lists.proofs.Zips.{map-id, zip_take, zip_map}
use Rattle.layout.specs.declared.Layout.{Layout}
use Rattle.layout.specs.declared.Channel.{Channel}
use Rattle.layout.specs.Name.{valid_name}
use Rattle.layout.specs.Channels.{channels_of, channel_name, active}
use Rattle.layout.specs.Topology.{rows_of, used_layers, used_rows, used_anchors, layer_z, layer_count, row_y, row_count, anchor_x, anchor_name}
use Rattle.layout.specs.Questions.{from_to, ordered, first_no, layout_questions, question1, question2, question3, question4, question5, question6}
use Rattle.layout.proofs.Coordinates.{all_taken}
use Rattle.layout.proofs.Sizes.{Sized}
use Rattle.layout.proofs.TopologyCut.{with_x, with_y, with_z}
use Rattle.layout.proofs.TopologyStarts.{layers_z}
use Rattle.layout.proofs.QuestionsAccepted.{yes1}
use Rattle.layout.proofs.QuestionsOrdered.{layers_ordered_lem}
use Rattle.layout.proofs.QuestionsCounted.{within, total_most}
use Rattle.keys.specs.Keys.{flag_number}
use Rattle.keys.specs.Steps.{packed_numbers, z_pattern, y_pattern, x_pattern}
use Rattle.keys.specs.InKey.{channel_in, layer_in, row_in, anchor_in, layout_in}
use Rattle.keys.proofs.KeyReads.{Reads, key_reads}
use Rattle.keys.proofs.Back.{back, ordered_back, chunks_back}

-- ---- a part of a key, by the entries that it was packed from: the first t of them all
part_in : {A : Type 0} (g : ℕ → ℕ → A) (f h : A → ℕ) (key : List ℕ) (a b t most : ℕ) (all : List A) → length all ≡ most → t ≤ most →
    let v = take t all in
    slice a (a + length v) key ≡ map f v → slice b (b + length v) key ≡ map h v → take t (zip_with g (slice a (a + most) key) (slice b (b + most) key)) ≡ map (λ (x : A). g (f x) (h x)) v
part_in g f h key a b t most all n l p q =
    let e = sym (length-take-le t all (omega (arith, n, l))) in
    zip_take g t (slice a (a + most) key) (slice b (b + most) key)
    ∙ ap₂ (zip_with g) (slice_front key a t most l ∙ ap (λ (n : ℕ). slice a (a + n) key) e ∙ p) (slice_front key b t most l ∙ ap (λ (n : ℕ). slice b (b + n) key) e ∙ q)
    ∙ zip_map g f h (take t all)

channel_back : (c : Channel) → channel_in (channel_name c) (flag_number c) ≡ c
channel_back c = go c.enabled c.lfe
  where
    go : (a b : Bool) → channel_in c.name (bit a + 2 * bit b) ≡ record { name = c.name; enabled = a; lfe = b }
    go true true = refl
    go true false = refl
    go false true = refl
    go false false = refl

-- ---- question 5 by what the counts cover
flat5 : (l : Layout) → question5 l ≡ (ordered (map layer_z (used_layers l)) && (list_all ordered (chunks (map layer_count (used_layers l)) (map row_y (used_rows l))) && list_all ordered (chunks (map row_count (used_rows l)) (map anchor_x (used_anchors l)))))
unfolding question5
flat5 l =
    let cs = map layer_count (used_layers l) in
    let ns = map row_count (used_rows l) in
    ap₂ ◌&&◌ (ap ordered (layers_z (used_layers l) (rows_of l.rows l.anchors)))
    (layers_ordered_lem (used_layers l) l.rows l.anchors
    ∙ ap₂ (λ (p q : List (List Float)). list_all ordered p && list_all ordered q)
    (sym (chunks_take cs (total cs) (map row_y l.rows) (omega arith)) ∙ ap (chunks cs) (take-map row_y (total cs) l.rows))
    (sym (chunks_take ns (total ns) (map anchor_x l.anchors) (omega arith)) ∙ ap (chunks ns) (take-map anchor_x (total ns) l.anchors)))

-- ---- the layout in the key of a layout
module _ (l : Layout) (s : Sized l) (e : ℕ) where
  abbrev key : List ℕ
  key = packed_numbers l e

  abbrev u : Layout
  u = layout_in key

  reads : Reads l e key
  reads = key_reads l s e

  used_is : u.used ≡ l.used
  unfolding layout_in
  used_is = reads.used

  depth_is : u.depth ≡ l.depth
  unfolding layout_in
  depth_is = reads.depth

  pub channels_are : l.used ≤ 24 → channels_of u ≡ channels_of l
  unfolding layout_in
  channels_are few =
      ap (λ (m : ℕ). take m u.channels) reads.used
      ∙ part_in channel_in channel_name flag_number key 0 24 l.used 24 l.channels s.channels few (ap (λ (m : ℕ). slice 0 m key) (zero-add (length (channels_of l))) ∙ reads.names) reads.flags
      ∙ map-id (λ (x : Channel). channel_in (channel_name x) (flag_number x)) channel_back (channels_of l)

  module _ (shallow : l.depth ≤ 4) where
    pub layers_are : used_layers u ≡ map (with_z back) (used_layers l)
    unfolding layout_in
    layers_are = ap (λ (m : ℕ). take m u.layers) reads.depth ∙ part_in layer_in layer_count z_pattern key 48 100 l.depth 4 l.layers s.layers shallow reads.layer_counts reads.zs

    counts_are : map layer_count (used_layers u) ≡ map layer_count (used_layers l)
    counts_are = ap (map layer_count) layers_are ∙ map-map layer_count (with_z back) (used_layers l)

    module _ (few_rows : total (map layer_count (used_layers l)) ≤ 24) where
      pub rows_are : used_rows u ≡ map (with_y back) (used_rows l)
      unfolding layout_in
      rows_are =
          ap (λ (v : List ℕ). take (total v) u.rows) counts_are
          ∙ part_in row_in row_count y_pattern key 52 104 (total (map layer_count (used_layers l))) 24 l.rows s.rows few_rows reads.row_counts reads.ys

      row_counts_are : map row_count (used_rows u) ≡ map row_count (used_rows l)
      row_counts_are = ap (map row_count) rows_are ∙ map-map row_count (with_y back) (used_rows l)

      module _ (few_anchors : total (map row_count (used_rows l)) ≤ 24) where
        pub anchors_are : used_anchors u ≡ map (with_x back) (used_anchors l)
        unfolding layout_in
        anchors_are =
            ap (λ (v : List ℕ). take (total v) u.anchors) row_counts_are
            ∙ part_in anchor_in anchor_name x_pattern key 76 128 (total (map row_count (used_rows l))) 24 l.anchors s.anchors few_anchors reads.anchor_names reads.xs

        names_are : map anchor_name (used_anchors u) ≡ map anchor_name (used_anchors l)
        names_are = ap (map anchor_name) anchors_are ∙ map-map anchor_name (with_x back) (used_anchors l)

        module _ (zs : T (list_all (fits binary64) (map layer_z l.layers))) (ys : T (list_all (fits binary64) (map row_y l.rows))) (xs : T (list_all (fits binary64) (map anchor_x l.anchors))) where
          five : question5 u ≡ question5 l
          five =
              flat5 u
              ∙ ap₂ ◌&&◌
              (ap ordered (ap (map layer_z) layers_are ∙ map-map layer_z (with_z back) (used_layers l) ∙ sym (map-map back layer_z (used_layers l)))
              ∙ ordered_back (map layer_z (used_layers l)) (subst (λ (v : List Float). T (list_all (fits binary64) v)) (take-map layer_z l.depth l.layers) (all_taken (fits binary64) l.depth (map layer_z l.layers) zs)))
              (ap₂ ◌&&◌
              (ap₂ (λ (cs : List ℕ) (v : List Float). list_all ordered (chunks cs v)) counts_are (ap (map row_y) rows_are ∙ map-map row_y (with_y back) (used_rows l) ∙ sym (map-map back row_y (used_rows l)))
              ∙ chunks_back (map layer_count (used_layers l)) (map row_y (used_rows l)) (subst (λ (v : List Float). T (list_all (fits binary64) v)) (take-map row_y (total (map layer_count (used_layers l))) l.rows) (all_taken (fits binary64) (total (map layer_count (used_layers l))) (map row_y l.rows) ys)))
              (ap₂ (λ (cs : List ℕ) (v : List Float). list_all ordered (chunks cs v)) row_counts_are (ap (map anchor_x) anchors_are ∙ map-map anchor_x (with_x back) (used_anchors l) ∙ sym (map-map back anchor_x (used_anchors l)))
              ∙ chunks_back (map row_count (used_rows l)) (map anchor_x (used_anchors l)) (subst (λ (v : List Float). T (list_all (fits binary64) v)) (take-map anchor_x (total (map row_count (used_rows l))) l.anchors) (all_taken (fits binary64) (total (map row_count (used_rows l))) (map anchor_x l.anchors) xs))))
              ∙ sym (flat5 l)

-- ---- the six answers
abbrev by : Bool → Bool → Bool → Bool → Bool → Bool → ℕ
by p q r s t u = cond p (cond q (cond r (cond s (cond t (cond u 0 6) 5) 4) 3) 2) 1

asked_is : (l : Layout) → first_no (layout_questions l) ≡ by (question1 l) (question2 l) (question3 l) (question4 l) (question5 l) (question6 l)
unfolding layout_questions
asked_is l = refl

module _ (l : Layout) (s : Sized l) (zs : T (list_all (fits binary64) (map layer_z l.layers))) (ys : T (list_all (fits binary64) (map row_y l.rows))) (xs : T (list_all (fits binary64) (map anchor_x l.anchors))) (e : ℕ) where
  abbrev v : Layout
  v = layout_in (packed_numbers l e)

  first : (p q r t w x : Bool) (p' q' r' t' w' x' : Bool)
      → p ≡ p' → q ≡ q'
      → (p' ≡ true → r ≡ r')
      → (q' ≡ true → t ≡ t')
      → (q' ≡ true → t' ≡ true → w ≡ w')
      → (p' ≡ true → q' ≡ true → t' ≡ true → x ≡ x')
      → by p q r t w x ≡ by p' q' r' t' w' x'
  first p q r t w x false q' r' t' w' x' a b c d f g = rw a
  first p q r t w x true false r' t' w' x' a b c d f g = rw (a, b)
  first p q r t w x true true r' false w' x' a b c d f g = rw (a, b, c refl, d refl)
  first p q r t w x true true r' true w' x' a b c d f g = rw (a, b, c refl, d refl, f refl refl, g refl refl refl)

  one : question1 v ≡ question1 l
  unfolding question1
  one = go (from_to 1 24 l.used) refl
    where
      go : (b : Bool) → from_to 1 24 l.used ≡ b → question1 v ≡ question1 l
      go false q = rw (used_is l s e, q)
      go true q = ap₂ (λ (n : ℕ) (c : List Channel). from_to 1 24 n && list_all valid_name (map channel_name c) && all_distinct (map channel_name c)) (used_is l s e) (channels_are l s e (within 1 24 l.used q).1)

  few_channels_lem : question1 l ≡ true → l.used ≤ 24
  few_channels_lem q = (within 1 24 l.used (yes1 l q).0).1

  few_layers_lem : question2 l ≡ true → l.depth ≤ 4
  few_layers_lem q = (within 1 4 l.depth q).1

  abbrev cs : List ℕ
  cs = map layer_count (used_layers l)

  abbrev ns : List ℕ
  ns = map row_count (used_rows l)

  rows_few : l.depth ≤ 4 → list_all (from_to 1 6) cs ≡ true → total cs ≤ 24
  rows_few h q =
      let m = total_most cs q in
      let n : length cs ≤ 4 = omega (arith, h, length-map (used_layers l) layer_count, length-take l.depth l.layers) in
      omega arith

  four : question2 l ≡ true → question4 v ≡ question4 l
  unfolding question4
  four q = go (list_all (from_to 1 6) cs) refl
    where
      go : (b : Bool) → list_all (from_to 1 6) cs ≡ b → question4 v ≡ question4 l
      go false p = rw (counts_are l s e (few_layers_lem q), p)
      go true p = ap₂ (λ (c n : List ℕ). list_all (from_to 1 6) c && list_all (leb 1) n && leb (total n) 24) (counts_are l s e (few_layers_lem q)) (row_counts_are l s e (few_layers_lem q) (rows_few (few_layers_lem q) p))

  yes4 : question2 l ≡ true → question4 l ≡ true → (total cs ≤ 24) × (total ns ≤ 24)
  unfolding question4
  yes4 q f =
      let a = and_parts (list_all (from_to 1 6) cs && list_all (leb 1) ns) (leb (total ns) 24) f in
      let b = and_parts (list_all (from_to 1 6) cs) (list_all (leb 1) ns) a.0 in
      (rows_few (few_layers_lem q) b.0, leb-true (total ns) 24 a.1)

  pub asked_same : first_no (layout_questions v) ≡ first_no (layout_questions l)
  unfolding question6
  asked_same =
      asked_is v
      ∙ first _ _ _ _ _ _ (question1 l) (question2 l) (question3 l) (question4 l) (question5 l) (question6 l)
      one
      (ap (from_to 1 4) (depth_is l s e))
      (λ p. ap (list_any active) (channels_are l s e (few_channels_lem p)))
      four
      (λ q t. let f = yes4 q t in five l s e (few_layers_lem q) f.0 f.1 zs ys xs)
      (λ p q t. let f = yes4 q t in six p (few_layers_lem q) f.0 f.1)
      ∙ sym (asked_is l)
    where
      six : question1 l ≡ true → (h : l.depth ≤ 4) (r : total cs ≤ 24) (a : total ns ≤ 24) → question6 v ≡ question6 l
      six p h r a =
          ap₂ (λ (c : List Channel) (w : List ℕ). list_all (λ (n : ℕ). elem n (map channel_name (filter active c))) w) (channels_are l s e (few_channels_lem p)) (names_are l s e h r a)
