-- The key of a room with the layers, rows and anchors of another one over its own is that room's key.
use Prim.Native.Nat.{ℕ, zero, suc, ◌<◌, ◌≤◌}
use mathlib.Core.Path.{◌≡◌, refl, sym, ap, ap₂, ◌∙◌}
use mathlib.Core.List.{List, [], ◌∷◌, ◌++◌, map, append_assoc}
use native.Mathlib.Omega.{arith}
use lib.ListN.{length, take, drop, set, get_or, replicate, length-map, length-append, length-replicate}
use lib.Seq.{paste, take_all, drop_at, drop-append-le, set_at}
use Rattle.lists.specs.Lists.{total, flatten}
use Rattle.layout.specs.declared.Anchor.{Anchor}
use Rattle.layout.specs.declared.Channel.{Channel}
use Rattle.layout.specs.Channels.{channel_name}
use Rattle.layout.specs.Room.{Room, rows_in, anchors_in}
use Rattle.layout.specs.Topology.{TopologyRow, TopologyLayer, anchor_name, anchor_x}
use Rattle.layout.specs.Questions.{topology_y, topology_z}
use Rattle.keys.specs.Keys.{filled_to, flag_number, pattern, rows_of_layer, anchors_of_row, key_numbers}
use Rattle.keys.proofs.KeyWhole.{paste_part, length_filled, eight_joined}
use Rattle.keys.proofs.SameKeys.{filled_long}
use Rattle.kept_anchors.specs.Steps.Kept.{parts_over}

-- ---- a part that is zeros from n on, written anew up to n
zeros : (n m : ℕ) → n ≤ m → ◌++◌ {A = ℕ} (replicate n 0) (drop n (replicate m 0)) ≡ replicate m 0
zeros zero m h = refl
zeros (suc n) zero h = absurd (omega arith)
zeros (suc n) (suc m) h = ap (λ (l : List ℕ). 0 ∷ l) (zeros n m (omega arith))

refilled : (m n : ℕ) (us vs : List ℕ) → length vs ≡ n → n ≤ m → length us ≤ n → take n (filled_to n us) ++ drop n (filled_to m vs) ≡ filled_to m us
refilled m n us vs e h k =
    let z : List ℕ = replicate n 0 in
    let rest : List ℕ = drop n (replicate m 0) in
    ap₂ (λ (s t : List ℕ). s ++ t) (take_all n (filled_to n us) (omega (arith, length_filled n us k))) (drop_at vs _ n e ∙ ap (λ (i : ℕ). drop i (replicate m 0)) e)
    ∙ append_assoc us (drop (length us) z) rest
    ∙ ap (λ (t : List ℕ). us ++ t) (sym (drop-append-le (length us) z rest (omega (arith, length-replicate {A = ℕ} n 0))) ∙ ap (drop (length us)) (zeros n m h))

part_refilled : (m n : ℕ) (us vs : List ℕ) (ps : List (List ℕ)) (i at : ℕ) → length vs ≡ n → n ≤ m → length us ≤ n → i < length ps → at ≡ total (map length (take i ps)) → get_or ps i [] ≡ filled_to m vs → paste (flatten ps) at (filled_to n us) n ≡ flatten (set ps i (filled_to m us))
part_refilled m n us vs ps i at e h k r q z =
    paste_part ps i at (filled_to n us) n r q (omega (arith, ap length z, length_filled m vs (omega arith)))
    ∙ ap (λ (p : List ℕ). flatten (set ps i p)) (ap (λ (p : List ℕ). take n (filled_to n us) ++ drop n p) z ∙ refilled m n us vs e h k)

-- two parts with the numbers of one list, in the place of those of another that is no shorter
module _ {A : Type 0} (f g : A → ℕ) (new old : List A) (k : length new ≤ length old) (a b : ℕ) where
  over_parts : (m : ℕ) (ps : List (List ℕ)) (i j : ℕ) → length old ≤ m → i < length ps → a ≡ total (map length (take i ps)) → get_or ps i [] ≡ filled_to m (map f old) → j < length (set ps i (filled_to m (map f new))) → b ≡ total (map length (take j (set ps i (filled_to m (map f new))))) → get_or (set ps i (filled_to m (map f new))) j [] ≡ filled_to m (map g old) →
      parts_over a b (length old) (map f new) (map g new) (flatten ps) ≡ flatten (set (set ps i (filled_to m (map f new))) j (filled_to m (map g new)))
  over_parts m ps i j h r q z u v w =
      let n = length old in
      ap (λ (p : List ℕ). paste p b (filled_to n (map g new)) n) (part_refilled m n (map f new) (map f old) ps i a (length-map old f) h (omega (arith, length-map new f)) r q z)
      ∙ part_refilled m n (map g new) (map g old) (set ps i (filled_to m (map f new))) j b (length-map old g) h (omega (arith, length-map new g)) u v w

-- ---- rooms
abbrev pub z_pat : TopologyLayer → ℕ
z_pat y = pattern (topology_z y)

abbrev pub y_pat : TopologyRow → ℕ
y_pat w = pattern (topology_y w)

abbrev pub x_pat : Anchor → ℕ
x_pat a = pattern (anchor_x a)

-- no more of q than of r, and no more of r than a key has places
pub record Within (q r : Room) : Type 0 where
  pub channels : length r.channels ≤ 24
  pub layers : length r.layers ≤ 4
  pub rows : length (rows_in r) ≤ 24
  pub anchors : length (anchors_in r) ≤ 24
  pub fewer_layers : length q.layers ≤ length r.layers
  pub fewer_rows : length (rows_in q) ≤ length (rows_in r)
  pub fewer_anchors : length (anchors_in q) ≤ length (anchors_in r)
  pub same : q.channels ≡ r.channels

module _ (q r : Room) (w : Within q r) (e : ℕ) where
  abbrev layers_over : List ℕ → List ℕ
  layers_over = parts_over 48 100 (length r.layers) (map rows_of_layer q.layers) (map z_pat q.layers)

  abbrev rows_over : List ℕ → List ℕ
  rows_over = parts_over 52 104 (length (rows_in r)) (map anchors_of_row (rows_in q)) (map y_pat (rows_in q))

  abbrev anchors_over : List ℕ → List ℕ
  anchors_over = parts_over 76 128 (length (anchors_in r)) (map anchor_name (anchors_in q)) (map x_pat (anchors_in q))

  abbrev names : List ℕ
  names = filled_to 24 (map channel_name r.channels)

  abbrev flags : List ℕ
  flags = filled_to 24 (map flag_number r.channels)

  -- the six parts of a room
  abbrev C : Room → List ℕ
  C p = filled_to 4 (map rows_of_layer p.layers)

  abbrev R : Room → List ℕ
  R p = filled_to 24 (map anchors_of_row (rows_in p))

  abbrev N : Room → List ℕ
  N p = filled_to 24 (map anchor_name (anchors_in p))

  abbrev Z : Room → List ℕ
  Z p = filled_to 4 (map z_pat p.layers)

  abbrev Y : Room → List ℕ
  Y p = filled_to 24 (map y_pat (rows_in p))

  abbrev X : Room → List ℕ
  X p = filled_to 24 (map x_pat (anchors_in p))

  abbrev tail : List ℕ
  tail = length r.channels ∷ length r.layers ∷ e ∷ 0 ∷ []

  topology_over : anchors_over (rows_over (layers_over (flatten (names ∷ flags ∷ C r ∷ R r ∷ N r ∷ Z r ∷ Y r ∷ X r ∷ tail ∷ [])))) ≡ flatten (names ∷ flags ∷ C q ∷ R q ∷ N q ∷ Z q ∷ Y q ∷ X q ∷ tail ∷ [])
  topology_over =
      let n1 = filled_long channel_name r.channels 24 w.channels in
      let n2 = filled_long flag_number r.channels 24 w.channels in
      let c1 = filled_long rows_of_layer r.layers 4 w.layers in
      let c2 = filled_long rows_of_layer q.layers 4 (omega (arith, w.fewer_layers, w.layers)) in
      let r1 = filled_long anchors_of_row (rows_in r) 24 w.rows in
      let r2 = filled_long anchors_of_row (rows_in q) 24 (omega (arith, w.fewer_rows, w.rows)) in
      let m1 = filled_long anchor_name (anchors_in r) 24 w.anchors in
      let m2 = filled_long anchor_name (anchors_in q) 24 (omega (arith, w.fewer_anchors, w.anchors)) in
      let z1 = filled_long z_pat r.layers 4 w.layers in
      let z2 = filled_long z_pat q.layers 4 (omega (arith, w.fewer_layers, w.layers)) in
      let y1 = filled_long y_pat (rows_in r) 24 w.rows in
      let y2 = filled_long y_pat (rows_in q) 24 (omega (arith, w.fewer_rows, w.rows)) in
      ap (λ (p : List ℕ). anchors_over (rows_over p))
      (over_parts rows_of_layer z_pat q.layers r.layers w.fewer_layers 48 100 4 (names ∷ flags ∷ C r ∷ R r ∷ N r ∷ Z r ∷ Y r ∷ X r ∷ tail ∷ []) 2 5 w.layers (omega arith) (omega arith) refl (omega arith) (omega arith) refl)
      ∙ ap anchors_over
      (over_parts anchors_of_row y_pat (rows_in q) (rows_in r) w.fewer_rows 52 104 24 (names ∷ flags ∷ C q ∷ R r ∷ N r ∷ Z q ∷ Y r ∷ X r ∷ tail ∷ []) 3 6 w.rows (omega arith) (omega arith) refl (omega arith) (omega arith) refl)
      ∙ over_parts anchor_name x_pat (anchors_in q) (anchors_in r) w.fewer_anchors 76 128 24 (names ∷ flags ∷ C q ∷ R q ∷ N r ∷ Z q ∷ Y q ∷ X r ∷ tail ∷ []) 4 7 w.anchors (omega arith) (omega arith) refl (omega arith) (omega arith) refl

  abbrev front : List ℕ
  front = names ++ flags ++ C q ++ R q ++ N q ++ Z q ++ Y q ++ X q

  front_long : length front ≡ 152
  front_long =
      let n1 = filled_long channel_name r.channels 24 w.channels in
      let n2 = filled_long flag_number r.channels 24 w.channels in
      let c2 = filled_long rows_of_layer q.layers 4 (omega (arith, w.fewer_layers, w.layers)) in
      let r2 = filled_long anchors_of_row (rows_in q) 24 (omega (arith, w.fewer_rows, w.rows)) in
      let m2 = filled_long anchor_name (anchors_in q) 24 (omega (arith, w.fewer_anchors, w.anchors)) in
      let z2 = filled_long z_pat q.layers 4 (omega (arith, w.fewer_layers, w.layers)) in
      let y2 = filled_long y_pat (rows_in q) 24 (omega (arith, w.fewer_rows, w.rows)) in
      let x2 = filled_long x_pat (anchors_in q) 24 (omega (arith, w.fewer_anchors, w.anchors)) in
      let p2 = names ++ flags in
      let p3 = p2 ++ C q in
      let p4 = p3 ++ R q in
      let p5 = p4 ++ N q in
      let p6 = p5 ++ Z q in
      let p7 = p6 ++ Y q in
      omega (arith, length-append names flags, length-append p2 (C q), length-append p3 (R q), length-append p4 (N q), length-append p5 (Z q), length-append p6 (Y q), length-append p7 (X q))

  pub key_over : set (anchors_over (rows_over (layers_over (key_numbers r e)))) 153 (length q.layers) ≡ key_numbers q e
  unfolding key_numbers
  key_over =
      let n = length r.channels in
      let t : List ℕ = e ∷ 0 ∷ [] in
      ap (λ (p : List ℕ). set (anchors_over (rows_over (layers_over p))) 153 (length q.layers)) (sym (eight_joined names flags (C r) (R r) (N r) (Z r) (Y r) (X r) tail))
      ∙ ap (λ (p : List ℕ). set p 153 (length q.layers)) (topology_over ∙ eight_joined names flags (C q) (R q) (N q) (Z q) (Y q) (X q) tail ∙ sym (append_assoc front (n ∷ []) (length r.layers ∷ t)))
      ∙ set_at (front ++ (n ∷ [])) (length r.layers) t (length q.layers) 153 (length-append front (n ∷ []) ∙ omega (arith, front_long))
      ∙ append_assoc front (n ∷ []) (length q.layers ∷ t)
      ∙ ap (λ (v : List Channel). filled_to 24 (map channel_name v) ++ filled_to 24 (map flag_number v) ++ C q ++ R q ++ N q ++ Z q ++ Y q ++ X q ++ (length v ∷ length q.layers ∷ t)) (sym w.same)
