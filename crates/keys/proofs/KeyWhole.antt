-- A key as parts one behind another: a part is written into the zeros of its own place, and what is written so is the key.
use Prim.Native.Nat.{ℕ, zero, suc, ◌+◌, ◌<◌, ◌≤◌}
use mathlib.Core.Path.{◌≡◌, refl, ap, ◌∙◌}
use mathlib.Core.List.{List, [], ◌∷◌, ◌++◌, map, append_assoc, append-nil}
use native.Mathlib.Nat.{zero-add, suc-add, add_assoc}
use native.Mathlib.Omega.{arith}
use lib.ListN.{length, take, drop, set, get_or, replicate, length-append, length-map, length-drop, length-replicate, length-take}
use lib.Seq.{paste, take_all, take-append-add, drop-append-add, drop-append-le}
use Rattle.lists.specs.Lists.{total, flatten}
use Rattle.layout.specs.declared.Layout.{Layout}
use Rattle.layout.specs.Channels.{channels_of, channel_name}
use Rattle.layout.specs.Topology.{used_layers, used_rows, used_anchors, layer_count, row_count, anchor_name}
use Rattle.layout.proofs.Sizes.{Sized, rows_fit, anchors_fit}
use Rattle.keys.specs.Keys.{filled_to, flag_number}
use Rattle.keys.specs.Steps.{packed_numbers, z_pattern, y_pattern, x_pattern, two_parts}

-- ---- one of several parts
module _ {A : Type 0} where
  paste_front : (p q s : List A) (n : ℕ) → n ≤ length p → paste (p ++ q) 0 s n ≡ take n s ++ drop n p ++ q
  paste_front p q s n h = rw (zero-add n, drop-append-le n p q h, ← append_assoc (take n s) (drop n p) q)

  paste_behind : (p q s : List A) (at n : ℕ) → paste (p ++ q) (length p + at) s n ≡ p ++ paste q at s n
  paste_behind p q s at n = rw (add_assoc (length p) at n, take-append-add p q at, drop-append-add p q (at + n), append_assoc p (take at q) (take n s), append_assoc p (take at q ++ take n s) (drop (at + n) q))

pub paste_part : (ps : List (List ℕ)) (k at : ℕ) (s : List ℕ) (n : ℕ) → k < length ps → at ≡ total (map length (take k ps)) → n ≤ length (get_or ps k []) → paste (flatten ps) at s n ≡ flatten (set ps k (take n s ++ drop n (get_or ps k [])))
paste_part [] k at s n h e r = absurd (omega arith)
paste_part (p ∷ ps) zero at s n h e r = rw e (paste_front p (flatten ps) s n r)
paste_part (p ∷ ps) (suc k) at s n h e r = rw e (paste_behind p (flatten ps) s (total (map length (take k ps))) n ∙ ap (λ (q : List ℕ). p ++ q) (paste_part ps k (total (map length (take k ps))) s n (omega arith) refl r))

set_behind : (p q : List ℕ) (k v : ℕ) → set (p ++ q) (length p + k) v ≡ p ++ set q k v
set_behind [] q k v = rw zero-add
set_behind (x ∷ p) q k v = rw suc-add (ap (λ (r : List ℕ). x ∷ r) (set_behind p q k v))

set_at : (p q : List ℕ) (m k v : ℕ) → length p ≡ m → set (p ++ q) (m + k) v ≡ p ++ set q k v
set_at p q m k v e = rw (← e) (set_behind p q k v)

pub length_filled : (n : ℕ) (xs : List ℕ) → length xs ≤ n → length (filled_to n xs) ≡ n
length_filled n xs h = simp (length-append, length-drop, length-replicate) (omega arith)

-- ---- a part written into zeros
part_filled : (xs : List ℕ) (n m : ℕ) → length xs ≡ n → n ≤ m → (ps : List (List ℕ)) (k at : ℕ) → k < length ps → at ≡ total (map length (take k ps)) → get_or ps k [] ≡ replicate m 0 → paste (flatten ps) at xs n ≡ flatten (set ps k (filled_to m xs))
part_filled xs n m e h ps k at r q z =
    paste_part ps k at xs n r q (rw (z, length-replicate) h)
    ∙ ap (λ (p : List ℕ). flatten (set ps k (take n xs ++ drop n p))) z
    ∙ rw (← e, take_all (length xs) xs (omega arith))

-- two of them
two_filled : {A : Type 0} (v : List A) (m : ℕ) → length v ≤ m → (f g : A → ℕ) (ps : List (List ℕ)) (i k at to : ℕ) → i < length ps → at ≡ total (map length (take i ps)) → get_or ps i [] ≡ replicate m 0 → k < length (set ps i (filled_to m (map f v))) → to ≡ total (map length (take k (set ps i (filled_to m (map f v))))) → get_or (set ps i (filled_to m (map f v))) k [] ≡ replicate m 0 → two_parts at (map f v) to (map g v) (length v) (flatten ps) ≡ flatten (set (set ps i (filled_to m (map f v))) k (filled_to m (map g v)))
two_filled v m h f g ps i k at to r q z u w y =
    ap (λ (p : List ℕ). paste p to (map g v) (length v)) (part_filled (map f v) (length v) m (length-map v f) h ps i at r q z)
    ∙ part_filled (map g v) (length v) m (length-map v g) h (set ps i (filled_to m (map f v))) k to u w y

-- ---- the parts of a key
module _ (l : Layout) where
  abbrev pub names : List ℕ
  names = filled_to 24 (map channel_name (channels_of l))

  abbrev pub flags : List ℕ
  flags = filled_to 24 (map flag_number (channels_of l))

  abbrev pub layer_counts : List ℕ
  layer_counts = filled_to 4 (map layer_count (used_layers l))

  abbrev pub row_counts : List ℕ
  row_counts = filled_to 24 (map row_count (used_rows l))

  abbrev pub anchor_names : List ℕ
  anchor_names = filled_to 24 (map anchor_name (used_anchors l))

  abbrev pub zs : List ℕ
  zs = filled_to 4 (map z_pattern (used_layers l))

  abbrev pub ys : List ℕ
  ys = filled_to 24 (map y_pattern (used_rows l))

  abbrev pub xs : List ℕ
  xs = filled_to 24 (map x_pattern (used_anchors l))

taken_long : {A : Type 0} (f : A → ℕ) (n m : ℕ) (l : List A) → length l ≡ m → length (filled_to m (map f (take n l))) ≡ m
taken_long f n m l e = length_filled m (map f (take n l)) (rw (length-map (take n l) f, length-take n l) (omega arith))

pub record Long (l : Layout) : Type 0 where
  pub names : length (names l) ≡ 24
  pub flags : length (flags l) ≡ 24
  pub layer_counts : length (layer_counts l) ≡ 4
  pub row_counts : length (row_counts l) ≡ 24
  pub anchor_names : length (anchor_names l) ≡ 24
  pub zs : length (zs l) ≡ 4
  pub ys : length (ys l) ≡ 24
  pub xs : length (xs l) ≡ 24

pub parts_long : (l : Layout) → Sized l → Long l
parts_long l s =
    let rows = total (map layer_count (used_layers l)) in
    let anchors = total (map row_count (used_rows l)) in
    record {
      names = taken_long channel_name l.used 24 l.channels s.channels;
      flags = taken_long flag_number l.used 24 l.channels s.channels;
      layer_counts = taken_long layer_count l.depth 4 l.layers s.layers;
      row_counts = taken_long row_count rows 24 l.rows s.rows;
      anchor_names = taken_long anchor_name anchors 24 l.anchors s.anchors;
      zs = taken_long z_pattern l.depth 4 l.layers s.layers;
      ys = taken_long y_pattern rows 24 l.rows s.rows;
      xs = taken_long x_pattern anchors 24 l.anchors s.anchors;
    }

-- ---- the steps that write a key: two parts each, into zeros
module _ (l : Layout) where
  abbrev pub channels_put : List ℕ → List ℕ
  channels_put = two_parts 0 (map channel_name (channels_of l)) 24 (map flag_number (channels_of l)) (length (channels_of l))

  abbrev pub layers_put : List ℕ → List ℕ
  layers_put = two_parts 48 (map layer_count (used_layers l)) 100 (map z_pattern (used_layers l)) (length (used_layers l))

  abbrev pub rows_put : List ℕ → List ℕ
  rows_put = two_parts 52 (map row_count (used_rows l)) 104 (map y_pattern (used_rows l)) (length (used_rows l))

  abbrev pub anchors_put : List ℕ → List ℕ
  anchors_put = two_parts 76 (map anchor_name (used_anchors l)) 128 (map x_pattern (used_anchors l)) (length (used_anchors l))

abbrev z : List ℕ
z = replicate 24 0

abbrev y : List ℕ
y = replicate 4 0

module _ (l : Layout) (s : Sized l) where
  channels_fit : length (channels_of l) ≤ 24
  channels_fit = rw length-take (omega (arith, s.channels))

  layers_fit : length (used_layers l) ≤ 4
  layers_fit = rw length-take (omega (arith, s.layers))

  channels_written : channels_put l (flatten (z ∷ z ∷ y ∷ z ∷ z ∷ y ∷ z ∷ z ∷ y ∷ [])) ≡ flatten (names l ∷ flags l ∷ y ∷ z ∷ z ∷ y ∷ z ∷ z ∷ y ∷ [])
  channels_written =
      let w = parts_long l s in
      two_filled (channels_of l) 24 channels_fit channel_name flag_number (z ∷ z ∷ y ∷ z ∷ z ∷ y ∷ z ∷ z ∷ y ∷ []) 0 1 0 24 (omega arith) refl refl (omega arith) (omega arith) refl

  layers_written : layers_put l (flatten (names l ∷ flags l ∷ y ∷ z ∷ z ∷ y ∷ z ∷ z ∷ y ∷ [])) ≡ flatten (names l ∷ flags l ∷ layer_counts l ∷ z ∷ z ∷ zs l ∷ z ∷ z ∷ y ∷ [])
  layers_written =
      let w = parts_long l s in
      two_filled (used_layers l) 4 layers_fit layer_count z_pattern (names l ∷ flags l ∷ y ∷ z ∷ z ∷ y ∷ z ∷ z ∷ y ∷ []) 2 5 48 100 (omega arith) (omega arith) refl (omega arith) (omega arith) refl

  rows_written : rows_put l (flatten (names l ∷ flags l ∷ layer_counts l ∷ z ∷ z ∷ zs l ∷ z ∷ z ∷ y ∷ [])) ≡ flatten (names l ∷ flags l ∷ layer_counts l ∷ row_counts l ∷ z ∷ zs l ∷ ys l ∷ z ∷ y ∷ [])
  rows_written =
      let w = parts_long l s in
      two_filled (used_rows l) 24 (rows_fit l s) row_count y_pattern (names l ∷ flags l ∷ layer_counts l ∷ z ∷ z ∷ zs l ∷ z ∷ z ∷ y ∷ []) 3 6 52 104 (omega arith) (omega arith) refl (omega arith) (omega arith) refl

  anchors_written : anchors_put l (flatten (names l ∷ flags l ∷ layer_counts l ∷ row_counts l ∷ z ∷ zs l ∷ ys l ∷ z ∷ y ∷ [])) ≡ flatten (names l ∷ flags l ∷ layer_counts l ∷ row_counts l ∷ anchor_names l ∷ zs l ∷ ys l ∷ xs l ∷ y ∷ [])
  anchors_written =
      let w = parts_long l s in
      two_filled (used_anchors l) 24 (anchors_fit l s) anchor_name x_pattern (names l ∷ flags l ∷ layer_counts l ∷ row_counts l ∷ z ∷ zs l ∷ ys l ∷ z ∷ y ∷ []) 4 7 76 128 (omega arith) (omega arith) refl (omega arith) (omega arith) refl

  all_written : anchors_put l (rows_put l (layers_put l (channels_put l (replicate 156 0)))) ≡ flatten (names l ∷ flags l ∷ layer_counts l ∷ row_counts l ∷ anchor_names l ∷ zs l ∷ ys l ∷ xs l ∷ y ∷ [])
  all_written =
      ap (λ (p : List ℕ). anchors_put l (rows_put l (layers_put l p))) channels_written
      ∙ ap (λ (p : List ℕ). anchors_put l (rows_put l p)) layers_written
      ∙ ap (anchors_put l) rows_written
      ∙ anchors_written

-- ---- eight parts and the numbers at the end
module _ (a b c d e f g h : List ℕ) where
  eight_length : length a ≡ 24 → length b ≡ 24 → length c ≡ 4 → length d ≡ 24 → length e ≡ 24 → length f ≡ 4 → length g ≡ 24 → length h ≡ 24 → length (a ++ b ++ c ++ d ++ e ++ f ++ g ++ h) ≡ 152
  eight_length la lb lc ld le lf lg lh = simp length-append (omega arith)

  pub eight_joined : (t : List ℕ) → flatten (a ∷ b ∷ c ∷ d ∷ e ∷ f ∷ g ∷ h ∷ t ∷ []) ≡ a ++ b ++ c ++ d ++ e ++ f ++ g ++ h ++ t
  eight_joined t = simp (append_assoc, append-nil)

numbers_written : (p : List ℕ) (u d e : ℕ) → length p ≡ 152 → set (set (set (p ++ replicate 4 0) 152 u) 153 d) 154 e ≡ p ++ (u ∷ d ∷ e ∷ 0 ∷ [])
numbers_written p u d e h =
    ap (λ (l : List ℕ). set (set l 153 d) 154 e) (set_at p (replicate 4 0) 152 0 u h)
    ∙ ap (λ (l : List ℕ). set l 154 e) (set_at p (u ∷ 0 ∷ 0 ∷ 0 ∷ []) 152 1 d h)
    ∙ set_at p (u ∷ d ∷ 0 ∷ 0 ∷ []) 152 2 e h

module _ (l : Layout) (s : Sized l) where
  abbrev pub parts : List ℕ
  parts = names l ++ flags l ++ layer_counts l ++ row_counts l ++ anchor_names l ++ zs l ++ ys l ++ xs l

  pub parts_length : length parts ≡ 152
  parts_length =
      let w = parts_long l s in
      eight_length (names l) (flags l) (layer_counts l) (row_counts l) (anchor_names l) (zs l) (ys l) (xs l) w.names w.flags w.layer_counts w.row_counts w.anchor_names w.zs w.ys w.xs

  pub key_length : (epoch : ℕ) → length (packed_numbers l epoch) ≡ 156
  unfolding packed_numbers
  key_length epoch = length-append parts (l.used ∷ l.depth ∷ epoch ∷ 0 ∷ []) ∙ rw parts_length

  -- all that is written
  pub key_written : (epoch : ℕ) → set (set (set (anchors_put l (rows_put l (layers_put l (channels_put l (replicate 156 0))))) 152 l.used) 153 l.depth) 154 epoch ≡ packed_numbers l epoch
  unfolding packed_numbers
  key_written epoch =
      ap (λ (p : List ℕ). set (set (set p 152 l.used) 153 l.depth) 154 epoch)
      (all_written l s ∙ eight_joined (names l) (flags l) (layer_counts l) (row_counts l) (anchor_names l) (zs l) (ys l) (xs l) (replicate 4 0))
      ∙ numbers_written parts l.used l.depth epoch parts_length
