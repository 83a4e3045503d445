-- What stands where in a key: each part, up to its count, and the numbers at the end.
use Prim.Native.Nat.{ℕ, zero, suc, ◌+◌, ◌<◌, ◌≤◌}
use mathlib.Core.Path.{◌≡◌, refl, sym, ap, ◌∙◌}
use mathlib.Core.List.{List, [], ◌∷◌, ◌++◌, map}
use native.Mathlib.Nat.{zero-add}
use native.Mathlib.Omega.{arith}
use lib.ListN.{length, take, drop, get_or, replicate, length-map, length-take}
use lib.Seq.{slice, take-append-le, drop-append-add, take_all, get_or-append-add}
use Rattle.std.proofs.lemmas.List.{drop-take}
use Rattle.lists.specs.Lists.{total, flatten}
use Rattle.layout.specs.declared.Layout.{Layout}
use Rattle.layout.specs.Channels.{channels_of, channel_name}
use Rattle.layout.specs.Topology.{used_layers, used_rows, used_anchors, layer_count, row_count, anchor_name}
use Rattle.layout.proofs.Sizes.{Sized, rows_fit, anchors_fit}
use Rattle.keys.specs.Keys.{filled_to, flag_number}
use Rattle.keys.specs.Steps.{packed_numbers, z_pattern, y_pattern, x_pattern}
use Rattle.keys.proofs.KeyWhole.{names, flags, layer_counts, row_counts, anchor_names, zs, ys, xs, parts_long, parts, parts_length, key_length, eight_joined}

read_part : (ps : List (List ℕ)) (k at n : ℕ) → k < length ps → at ≡ total (map length (take k ps)) → n ≤ length (get_or ps k []) → slice at (at + n) (flatten ps) ≡ take n (get_or ps k [])
read_part [] k at n h e r = absurd (omega arith)
read_part (p ∷ ps) zero at n h e r = rw (e, zero-add) (take-append-le n p (flatten ps) r)
read_part (p ∷ ps) (suc k) at n h e r =
    let a = total (map length (take k ps)) in
    rw e (drop-take (length p + a) n (p ++ flatten ps) ∙ ap (take n) (drop-append-add p (flatten ps) a) ∙ sym (drop-take a n (flatten ps)) ∙ read_part ps k a n (omega arith) refl r)

front : (m : ℕ) (xs : List ℕ) → take (length xs) (filled_to m xs) ≡ xs
front m xs = take-append-le (length xs) xs (drop (length xs) (replicate m 0)) (omega arith) ∙ take_all (length xs) xs (omega arith)

-- a part of a key, read up to its count
part : {A : Type 0} (f : A → ℕ) (ps : List (List ℕ)) (key : List ℕ) (k at m : ℕ) (v : List A) → key ≡ flatten ps → k < length ps → at ≡ total (map length (take k ps)) → get_or ps k [] ≡ filled_to m (map f v) → length v ≤ length (get_or ps k []) → slice at (at + length v) key ≡ map f v
part f ps key k at m v e h a q r =
    ap (slice at (at + length v)) e
    ∙ read_part ps k at (length v) h a r
    ∙ ap (take (length v)) q
    ∙ ap (λ (n : ℕ). take n (filled_to m (map f v))) (sym (length-map v f))
    ∙ front m (map f v)

taken_fits : {A : Type 0} (n m : ℕ) (l : List A) → length l ≡ m → length (take n l) ≤ m
taken_fits n m l e = rw length-take (omega arith)

behind : (ps t : List ℕ) (i : ℕ) → length ps ≡ 152 → get_or (ps ++ t) (152 + i) 0 ≡ get_or t i 0
behind ps t i h = ap (λ (n : ℕ). get_or (ps ++ t) (n + i) 0) (sym h) ∙ get_or-append-add ps t i 0

-- what a key says of its layout
pub record Reads (l : Layout) (epoch : ℕ) (key : List ℕ) : Type 0 where
  pub long : length key ≡ 156
  pub names : slice 0 (length (channels_of l)) key ≡ map channel_name (channels_of l)
  pub flags : slice 24 (24 + length (channels_of l)) key ≡ map flag_number (channels_of l)
  pub layer_counts : slice 48 (48 + length (used_layers l)) key ≡ map layer_count (used_layers l)
  pub row_counts : slice 52 (52 + length (used_rows l)) key ≡ map row_count (used_rows l)
  pub anchor_names : slice 76 (76 + length (used_anchors l)) key ≡ map anchor_name (used_anchors l)
  pub zs : slice 100 (100 + length (used_layers l)) key ≡ map z_pattern (used_layers l)
  pub ys : slice 104 (104 + length (used_rows l)) key ≡ map y_pattern (used_rows l)
  pub xs : slice 128 (128 + length (used_anchors l)) key ≡ map x_pattern (used_anchors l)
  pub used : get_or key 152 0 ≡ l.used
  pub depth : get_or key 153 0 ≡ l.depth
  pub number : get_or key 154 0 ≡ epoch

pub key_reads : (l : Layout) (s : Sized l) (epoch : ℕ) → Reads l epoch (packed_numbers l epoch)
unfolding packed_numbers
key_reads l s epoch =
    let w = parts_long l s in
    let t : List ℕ = l.used ∷ l.depth ∷ epoch ∷ 0 ∷ [] in
    let ps : List (List ℕ) = names l ∷ flags l ∷ layer_counts l ∷ row_counts l ∷ anchor_names l ∷ zs l ∷ ys l ∷ xs l ∷ t ∷ [] in
    let e : packed_numbers l epoch ≡ flatten ps = sym (eight_joined (names l) (flags l) (layer_counts l) (row_counts l) (anchor_names l) (zs l) (ys l) (xs l) t) in
    let cs : length (channels_of l) ≤ 24 = taken_fits l.used 24 l.channels s.channels in
    let ls : length (used_layers l) ≤ 4 = taken_fits l.depth 4 l.layers s.layers in
    record {
      long = key_length l s epoch;
      names = ap (λ (n : ℕ). slice 0 n (packed_numbers l epoch)) (sym (zero-add (length (channels_of l)))) ∙ part channel_name ps (packed_numbers l epoch) 0 0 24 (channels_of l) e (omega arith) refl refl (omega (arith, w.names, cs));
      flags = part flag_number ps (packed_numbers l epoch) 1 24 24 (channels_of l) e (omega arith) (omega (arith, w.names)) refl (omega (arith, w.flags, cs));
      layer_counts = part layer_count ps (packed_numbers l epoch) 2 48 4 (used_layers l) e (omega arith) (omega (arith, w.names, w.flags)) refl (omega (arith, w.layer_counts, ls));
      row_counts = part row_count ps (packed_numbers l epoch) 3 52 24 (used_rows l) e (omega arith) (omega (arith, w.names, w.flags, w.layer_counts)) refl (omega (arith, w.row_counts, rows_fit l s));
      anchor_names = part anchor_name ps (packed_numbers l epoch) 4 76 24 (used_anchors l) e (omega arith) (omega (arith, w.names, w.flags, w.layer_counts, w.row_counts)) refl (omega (arith, w.anchor_names, anchors_fit l s));
      zs = part z_pattern ps (packed_numbers l epoch) 5 100 4 (used_layers l) e (omega arith) (omega (arith, w.names, w.flags, w.layer_counts, w.row_counts, w.anchor_names)) refl (omega (arith, w.zs, ls));
      ys = part y_pattern ps (packed_numbers l epoch) 6 104 24 (used_rows l) e (omega arith) (omega (arith, w.names, w.flags, w.layer_counts, w.row_counts, w.anchor_names, w.zs)) refl (omega (arith, w.ys, rows_fit l s));
      xs = part x_pattern ps (packed_numbers l epoch) 7 128 24 (used_anchors l) e (omega arith) (omega (arith, w.names, w.flags, w.layer_counts, w.row_counts, w.anchor_names, w.zs, w.ys)) refl (omega (arith, w.xs, anchors_fit l s));
      used = behind (parts l s) (l.used ∷ l.depth ∷ epoch ∷ 0 ∷ []) 0 (parts_length l s);
      depth = behind (parts l s) (l.used ∷ l.depth ∷ epoch ∷ 0 ∷ []) 1 (parts_length l s);
      number = behind (parts l s) (l.used ∷ l.depth ∷ epoch ∷ 0 ∷ []) 2 (parts_length l s);
    }
