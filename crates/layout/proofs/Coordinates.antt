-- Where question 5 is answered yes, each coordinate that a layout uses is in the room.
use Prim.Native.Nat.{ℕ, zero, suc}
use mathlib.Core.Path.{◌≡◌, refl, ap}
use mathlib.Core.Bool.{Bool, ◌&&◌}
use mathlib.Core.List.{List, [], ◌∷◌, ◌++◌, map}
use lib.Dec.{T}
use lib.Ieee.{Float, lt}
use lib.ListN.{take, drop}
use lib.Seq.{take-add}
use mir.Facts.{and_yes, yes_and}
use Rattle.lists.specs.Lists.{chain, total, chunks}
use Rattle.std.specs.List.{list_all}
use Rattle.layout.specs.declared.Anchor.{Anchor}
use Rattle.layout.specs.declared.Row.{Row}
use Rattle.layout.specs.declared.Layer.{Layer}
use Rattle.layout.specs.declared.Layout.{Layout}
use Rattle.layout.specs.Topology.{TopologyRow, TopologyLayer, rows_of, layers_of, topology_of, used_layers, used_rows, used_anchors, layer_count, row_y, row_count, anchor_x}
use Rattle.layout.specs.Questions.{in_room, ordered, ordered_row, ordered_layer, topology_y, topology_z, question5}
use Rattle.layout.proofs.TopologyLists.{all_both}

-- ---- what each of a list passes
module _ {A : Type 0} (p : A → Bool) where
  pub all_append : (xs ys : List A) → T (list_all p xs) → T (list_all p ys) → T (list_all p (xs ++ ys))
  all_append [] ys h k = k
  all_append (x ∷ xs) ys h k =
      let q = and_yes (p x) (list_all p xs) h in
      yes_and (p x) (list_all p (xs ++ ys)) q.0 (all_append xs ys q.1 k)

  -- each of the parts, so each of what the parts cover
  pub all_chunks : (cs : List ℕ) (xs : List A) → T (list_all (list_all p) (chunks cs xs)) → T (list_all p (take (total cs) xs))
  all_chunks [] xs h = tt
  all_chunks (c ∷ cs) xs h =
      let q = and_yes (list_all p (take c xs)) (list_all (list_all p) (chunks cs (drop c xs))) h in
      rw (take-add c (total cs) xs) (all_append (take c xs) (take (total cs) (drop c xs)) q.0 (all_chunks cs (drop c xs) q.1))

  pub all_taken : (n : ℕ) (xs : List A) → T (list_all p xs) → T (list_all p (take n xs))
  all_taken zero xs h = tt
  all_taken (suc n) [] h = tt
  all_taken (suc n) (x ∷ xs) h =
      let q = and_yes (p x) (list_all p xs) h in
      yes_and (p x) (list_all p (take n xs)) q.0 (all_taken n xs q.1)

  pub all_dropped : (n : ℕ) (xs : List A) → T (list_all p xs) → T (list_all p (drop n xs))
  all_dropped zero xs h = h
  all_dropped (suc n) [] h = tt
  all_dropped (suc n) (x ∷ xs) h = all_dropped n xs (and_yes (p x) (list_all p xs) h).1

-- a test follows from another
pub all_map : {A B : Type 0} (p : A → Bool) (q : B → Bool) (f : A → B) → ((x : A) → T (p x) → T (q (f x))) → (xs : List A) → T (list_all p xs) → T (list_all q (map f xs))
all_map p q f s [] h = tt
all_map p q f s (x ∷ xs) h =
    let w = and_yes (p x) (list_all p xs) h in
    yes_and (q (f x)) (list_all q (map f xs)) (s x w.0) (all_map p q f s xs w.1)

pub all_unmap : {A B : Type 0} (q : B → Bool) (f : A → B) (xs : List A) → T (list_all q (map f xs)) → T (list_all (λ (x : A). q (f x)) xs)
all_unmap q f [] h = tt
all_unmap {A = A} q f (x ∷ xs) h =
    let w = and_yes (q (f x)) (list_all q (map f xs)) h in
    yes_and (q (f x)) (list_all (λ (y : A). q (f y)) xs) w.0 (all_unmap q f xs w.1)

-- both of two tests
pub all_and : {A : Type 0} (p q : A → Bool) (xs : List A) → T (list_all p xs) → T (list_all q xs) → T (list_all (λ (x : A). p x && q x) xs)
all_and p q xs h k = rw (all_both p q xs) (yes_and (list_all p xs) (list_all q xs) h k)

-- ---- the flat lists and the topology
abbrev rows_in : TopologyLayer → List TopologyRow
rows_in l = l.rows

abbrev anchors_in : TopologyRow → List Anchor
anchors_in r = r.anchors

ys_of : (rs : List Row) (xs : List Anchor) → map topology_y (rows_of rs xs) ≡ map row_y rs
ys_of [] xs = refl
ys_of (r ∷ rs) xs = ap (λ (t : List Float). r.y ∷ t) (ys_of rs (drop r.count xs))

layers_chunks : (ls : List Layer) (rs : List TopologyRow) → map rows_in (layers_of ls rs) ≡ chunks (map layer_count ls) rs
layers_chunks [] rs = refl
layers_chunks (l ∷ ls) rs = ap (λ (t : List (List TopologyRow)). take l.count rs ∷ t) (layers_chunks ls (drop l.count rs))

rows_chunks : (rs : List Row) (xs : List Anchor) → map anchors_in (rows_of rs xs) ≡ chunks (map row_count rs) xs
rows_chunks [] xs = refl
rows_chunks (r ∷ rs) xs = ap (λ (t : List (List Anchor)). take r.count xs ∷ t) (rows_chunks rs (drop r.count xs))

take_rows : (k : ℕ) (rs : List Row) (xs : List Anchor) → take k (rows_of rs xs) ≡ rows_of (take k rs) xs
take_rows zero rs xs = refl
take_rows (suc k) [] xs = refl
take_rows (suc k) (r ∷ rs) xs =
    ap (λ (t : List TopologyRow). record { y = r.y; anchors = take r.count xs } ∷ t) (take_rows k rs (drop r.count xs))

pub room_of_lem : (xs : List Float) → T (ordered xs) → T (list_all in_room xs)
room_of_lem xs h = (and_yes (list_all in_room xs) (chain lt xs) h).0

-- ---- the laws
module _ (l : Layout) (yes : T (question5 l)) where
  parts : T (ordered (map topology_z (topology_of l))) × T (list_all ordered_layer (topology_of l))
  unfolding question5
  parts = and_yes (ordered (map topology_z (topology_of l))) (list_all ordered_layer (topology_of l)) yes

  -- what each layer's rows pass, each row passes that a layer counts
  each_row : (p : TopologyRow → Bool) → ((t : TopologyLayer) → T (ordered_layer t) → T (list_all p t.rows)) → T (list_all p (rows_of (used_rows l) l.anchors))
  each_row p s =
      let h = all_map ordered_layer (list_all p) rows_in s (topology_of l) parts.1 in
      rw (← take_rows (total (map layer_count (used_layers l))) l.rows l.anchors)
      (all_chunks p (map layer_count (used_layers l)) (rows_of l.rows l.anchors) (rw layers_chunks at h))

  pub ys_in_room : T (list_all in_room (map row_y (used_rows l)))
  ys_in_room =
      let h = each_row (λ (r : TopologyRow). in_room (topology_y r)) (λ t q. all_unmap in_room topology_y t.rows (room_of_lem (map topology_y t.rows) (and_yes (ordered (map topology_y t.rows)) (list_all ordered_row t.rows) q).0)) in
      rw ys_of at (all_map (λ (r : TopologyRow). in_room (topology_y r)) in_room topology_y (λ r q. q) (rows_of (used_rows l) l.anchors) h)

  pub xs_in_room : T (list_all in_room (map anchor_x (used_anchors l)))
  xs_in_room =
      let p : Anchor → Bool = λ a. in_room (anchor_x a) in
      let h = each_row ordered_row (λ t q. (and_yes (ordered (map topology_y t.rows)) (list_all ordered_row t.rows) q).1) in
      let k = all_map ordered_row (list_all p) anchors_in (λ r q. all_unmap in_room anchor_x r.anchors (room_of_lem (map anchor_x r.anchors) q)) (rows_of (used_rows l) l.anchors) h in
      all_map p in_room anchor_x (λ a q. q) (used_anchors l) (all_chunks p (map row_count (used_rows l)) l.anchors (rw rows_chunks at k))
