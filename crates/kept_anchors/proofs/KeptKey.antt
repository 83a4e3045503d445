-- What the code writes part by part is the key with just the anchors whose flags are set.
use Prim.Native.Nat.{ℕ, ◌+◌, ◌-◌, ◌≤◌, min}
use mathlib.Core.Path.{◌≡◌, refl, sym, ap, ap₂, ◌∙◌}
use mathlib.Core.Bool.{Bool}
use mathlib.Core.List.{List, map}
use native.Mathlib.Omega.{arith}
use borrow.Rule.Slice.PartMut.{put_mid}
use lib.ListN.{length, take, drop, set, replicate, length-map, length-take}
use lib.Seq.{slice, paste, take_all, length-paste}
use Rattle.std.specs.List.{between, filter}
use Rattle.std.proofs.lemmas.List.{take_at, drop-take, take-map}
use Rattle.std.proofs.lemmas.Slice.{between_is, put_mid-paste}
use Rattle.lists.specs.Lists.{chunks, total}
use Rattle.lists.proofs.Chunks.{chunks_take}
use Rattle.lists.proofs.Takes.{take_min}
use Rattle.keys.specs.Keys.{filled_to}
use Rattle.keys.proofs.KeyWhole.{length_filled}
use Rattle.kept_anchors.specs.Steps.Kept.{count_set, is_positive, counts_of, picked, picked_parts, parts_over, layers_picked, anchors_picked, layers_of_key, rows_of_key, anchors_of_key, anchors_left, rows_left, kept_key}
use Rattle.kept_anchors.proofs.Apart.{paste_apart, filled_long, before_anew, behind_anew, anew_picked}
use Rattle.kept_anchors.proofs.Counts.{count_picked}
use Rattle.kept_anchors.proofs.Picked.{picked_take, picked_most, filter_picked}
use Rattle.kept_anchors.proofs.Reached.{counts_long, part_long}

-- flags past the sum of the counts, or past 24, are not counted
counts_cap : (ns : List ℕ) (bs : List Bool) → length bs ≤ 24 → counts_of ns bs ≡ counts_of ns (take (min (total ns) 24) bs)
counts_cap ns bs h = ap (map count_set) (sym (chunks_take ns (total ns) bs (omega arith)) ∙ ap (chunks ns) (sym (take_min (total ns) 24 bs h)))

-- ---- counts with zeros behind them
module _ (N n : ℕ) (cs : List ℕ) (e : length cs ≡ n) where
  front_is : take n (filled_to N cs) ≡ cs
  front_is = take_at cs (drop (length cs) (replicate N 0)) n e

  flags_are : take n (map is_positive (filled_to N cs)) ≡ map is_positive cs
  flags_are = take-map is_positive n (filled_to N cs) ∙ ap (map is_positive) front_is

-- the entries of two parts that are kept by these flags
abbrev sifted : ℕ → ℕ → List Bool → List ℕ → List ℕ
sifted a b bs key = picked_parts a b (length bs) bs (slice a (a + length bs) key) (slice b (b + length bs) key) key

-- counts are written to a part, and those are kept that are not zero
module _ (a b n : ℕ) (cs key : List ℕ) (e : length cs ≡ n) (apart : a + n ≤ b) (room : b + n ≤ length key) where
  recounted : sifted a b (take n (map is_positive (filled_to 24 cs))) (paste key a cs n) ≡ picked_parts a b n (map is_positive cs) cs (slice b (b + n) key) key
  recounted =
      ap (λ (bs : List Bool). sifted a b bs (paste key a cs n)) (flags_are 24 n cs e)
      ∙ ap (λ (m : ℕ). picked_parts a b m (map is_positive cs) (slice a (a + m) (paste key a cs n)) (slice b (b + m) (paste key a cs n)) (paste key a cs n)) (length-map cs is_positive ∙ e)
      ∙ anew_picked a b n cs key e apart room (map is_positive cs)

-- the layers that are kept stand beside the counts of rows
module _ (d r : ℕ) (cs rs key : List ℕ) (bs : List Bool) (c : length cs ≡ d) (w : length rs ≡ r) (few : d ≤ 4) (most : r ≤ 24) (long : length key ≡ 156) where
  abbrev zs : List ℕ
  zs = slice 100 (100 + d) key

  firsts_long : length (filled_to d (picked bs cs)) ≡ d
  firsts_long = length_filled d (picked bs cs) (omega (arith, picked_most bs cs))

  seconds_long : length (filled_to d (picked bs zs)) ≡ d
  seconds_long = length_filled d (picked bs zs) (omega (arith, picked_most bs zs, part_long 100 d key (omega arith)))

  layers_beside : picked_parts 48 100 d bs cs (slice 100 (100 + d) (paste key 52 rs r)) (paste key 52 rs r) ≡ paste (picked_parts 48 100 d bs cs zs key) 52 rs r
  layers_beside =
      let u = firsts_long in
      let v = seconds_long in
      let t = length-paste key 48 (filled_to d (picked bs cs)) d (omega arith) (omega arith) in
      ap (λ (ys : List ℕ). picked_parts 48 100 d bs cs ys (paste key 52 rs r)) (behind_anew 52 r rs key w (omega arith) 100 d (omega arith) (omega arith))
      ∙ ap (λ (l : List ℕ). paste l 100 (filled_to d (picked bs zs)) d) (sym (paste_apart key 48 (filled_to d (picked bs cs)) 52 rs r d (omega arith) (omega arith) (omega arith) (omega arith)))
      ∙ paste_apart (paste key 48 (filled_to d (picked bs cs)) d) 52 rs 100 (filled_to d (picked bs zs)) d r (omega arith) (omega arith) (omega arith) (omega arith)

  layers_long : length (picked_parts 48 100 d bs cs zs key) ≡ length key
  layers_long =
      filled_long 48 100 d (picked bs cs) (picked bs zs) key (omega (arith, picked_most bs cs)) (omega (arith, picked_most bs zs, part_long 100 d key (omega arith))) (omega arith) (omega arith)

module _ (key : List ℕ) (long : length key ≡ 156) (kept : List Bool) (flags : length kept ≡ 24) where
  -- the key with those that are kept, from how many layers, rows and anchors there are and what is kept of them
  kept_key_lem : (d r m left : ℕ) (cs rs one two out : List ℕ) → d ≡ layers_of_key key → r ≡ rows_of_key key → m ≡ anchors_of_key key
      → rs ≡ anchors_left kept key → cs ≡ rows_left kept key
      → one ≡ layers_picked d cs key
      → two ≡ picked_parts 52 104 r (map is_positive rs) rs (slice 104 (104 + r) one) one
      → out ≡ anchors_picked m kept two
      → left ≡ length (filter is_positive cs) → set out 153 left ≡ kept_key kept key
  unfolding kept_key
  kept_key_lem d r m left cs rs one two out ed er em es ec f g h e =
      let left_long : length (anchors_left kept key) ≡ rows_of_key key = counts_long (slice 52 (52 + rows_of_key key) key) kept ∙ part_long 52 (rows_of_key key) key (omega arith) in
      let layers : List ℕ = layers_picked (layers_of_key key) (rows_left kept key) key in
      let first = f ∙ ap₂ (λ (x : ℕ) (l : List ℕ). layers_picked x l key) ed ec in
      let second =
      g ∙ ap₂ (λ (x : ℕ) (l : List ℕ). picked_parts 52 104 x (map is_positive l) l (slice 104 (104 + x) one) one) er es
      ∙ ap (λ (l : List ℕ). picked_parts 52 104 (rows_of_key key) (map is_positive (anchors_left kept key)) (anchors_left kept key) (slice 104 (104 + rows_of_key key) l) l) first
      ∙ ap (λ (l : List ℕ). picked_parts 52 104 (rows_of_key key) (map is_positive (anchors_left kept key)) l (slice 104 (104 + rows_of_key key) layers) layers) (sym (take_all (rows_of_key key) (anchors_left kept key) (omega arith))) in
      ap₂ (λ (l : List ℕ) (x : ℕ). set l 153 x) (h ∙ ap₂ (λ (x : ℕ) (l : List ℕ). anchors_picked x kept l) em second) (e ∙ ap (λ (l : List ℕ). length (filter is_positive l)) ec)

  -- all that is written
  pub packed : (d r m left : ℕ) (row_sizes layer_sizes : List ℕ) (rows_kept layers_kept : List Bool) (one two out : List ℕ)
      → d ≡ layers_of_key key
      → r ≡ min (total (between 48 (48 + d) key)) 24
      → m ≡ min (total (between 52 (52 + r) key)) 24
      → row_sizes ≡ counts_of (between 52 (52 + r) key) kept
      → rows_kept ≡ map is_positive (filled_to 24 row_sizes)
      → layer_sizes ≡ counts_of (between 48 (48 + d) (put_mid 52 (52 + r - 52) key row_sizes)) rows_kept
      → layers_kept ≡ map is_positive (filled_to 24 layer_sizes)
      → one ≡ sifted 48 100 (take d layers_kept) (put_mid 48 (48 + d - 48) (put_mid 52 (52 + r - 52) key row_sizes) layer_sizes)
      → left ≡ count_set (take d layers_kept)
      → two ≡ sifted 52 104 (take r rows_kept) one
      → out ≡ sifted 76 128 (take m kept) two
      → set out 153 left ≡ kept_key kept key
  packed d r m left row_sizes layer_sizes rows_kept layers_kept one two out ed er em es ek ec el f1 n f2 f3 =
      let ls = between_is key 48 (48 + d) in
      let ns = between_is key 52 (52 + r) in
      let lengths = slice 48 (48 + d) key in
      let rs = counts_of (slice 52 (52 + r) key) kept in
      let cs = counts_of lengths (map is_positive rs) in
      let rows : r ≡ min (total lengths) 24 = er ∙ ap (λ (l : List ℕ). min (total l) 24) ls in
      let few : d ≤ 4 = omega arith in
      let most : r ≤ 24 = omega arith in
      let d_long : length lengths ≡ d = part_long 48 d key (omega arith) in
      let cs_long : length cs ≡ d = counts_long lengths (map is_positive rs) ∙ d_long in
      let rs_long : length rs ≡ r = counts_long (slice 52 (52 + r) key) kept ∙ part_long 52 r key (omega arith) in
      let row_sizes_are : row_sizes ≡ rs = es ∙ ap (λ (l : List ℕ). counts_of l kept) ns in
      let rows_kept_are : rows_kept ≡ map is_positive (filled_to 24 rs) = ek ∙ ap (λ (l : List ℕ). map is_positive (filled_to 24 l)) row_sizes_are in
      let rows_over : put_mid 52 (52 + r - 52) key row_sizes ≡ paste key 52 rs r = put_mid-paste 52 (52 + r - 52) key row_sizes rs r row_sizes_are (omega arith) (sym rs_long) in
      let capped : counts_of lengths (map is_positive (filled_to 24 rs)) ≡ cs =
      counts_cap lengths (map is_positive (filled_to 24 rs)) (omega (arith, length-map (filled_to 24 rs) is_positive, length_filled 24 rs (omega arith)))
      ∙ ap (λ (x : ℕ). counts_of lengths (take x (map is_positive (filled_to 24 rs)))) (sym rows)
      ∙ ap (counts_of lengths) (flags_are 24 r rs rs_long) in
      let same_lengths : between 48 (48 + d) (paste key 52 rs r) ≡ lengths = between_is (paste key 52 rs r) 48 (48 + d) ∙ before_anew 52 r rs key rs_long (omega arith) 48 d (omega arith) in
      let layer_sizes_are : layer_sizes ≡ cs =
      ec ∙ ap₂ (λ (l : List ℕ) (bs : List Bool). counts_of (between 48 (48 + d) l) bs) rows_over rows_kept_are
      ∙ ap (λ (l : List ℕ). counts_of l (map is_positive (filled_to 24 rs))) same_lengths ∙ capped in
      let layers_kept_are : layers_kept ≡ map is_positive (filled_to 24 cs) = el ∙ ap (λ (l : List ℕ). map is_positive (filled_to 24 l)) layer_sizes_are in
      let layers_over : put_mid 48 (48 + d - 48) (put_mid 52 (52 + r - 52) key row_sizes) layer_sizes ≡ paste (paste key 52 rs r) 48 cs d =
      put_mid-paste 48 (48 + d - 48) (put_mid 52 (52 + r - 52) key row_sizes) layer_sizes cs d layer_sizes_are (omega arith) (sym cs_long)
      ∙ ap (λ (l : List ℕ). paste l 48 cs d) rows_over in
      let over_long : length (paste key 52 rs r) ≡ length key = length-paste key 52 rs r (omega arith) (omega arith) in
      let layers = layers_picked d cs key in
      let first : one ≡ paste layers 52 rs r =
      f1 ∙ ap₂ (λ (bs : List Bool) (l : List ℕ). sifted 48 100 (take d bs) l) layers_kept_are layers_over
      ∙ recounted 48 100 d cs (paste key 52 rs r) cs_long (omega arith) (omega arith)
      ∙ layers_beside d r cs rs key (map is_positive cs) cs_long rs_long few most long in
      let layers_length = layers_long d r cs rs key (map is_positive cs) cs_long rs_long few most long in
      let second : two ≡ picked_parts 52 104 r (map is_positive rs) rs (slice 104 (104 + r) layers) layers =
      f2 ∙ ap₂ (λ (bs : List Bool) (l : List ℕ). sifted 52 104 (take r bs) l) rows_kept_are first
      ∙ recounted 52 104 r rs layers rs_long (omega arith) (omega arith) in
      let anchors : m ≡ min (total (slice 52 (52 + r) key)) 24 = em ∙ ap (λ (l : List ℕ). min (total l) 24) ns in
      let short : (a : ℕ) → length (slice a (a + m) two) ≤ m = λ a. omega (arith, ap length (drop-take a m two), length-take m (drop a two)) in
      let front : length (take m kept) ≡ m = length-take m kept ∙ omega arith in
      let third : out ≡ anchors_picked m kept two =
      f3 ∙ ap (λ (x : ℕ). picked_parts 76 128 x (take m kept) (slice 76 (76 + x) two) (slice 128 (128 + x) two) two) front
      ∙ ap₂ (λ (xs ys : List ℕ). parts_over 76 128 m xs ys two) (sym (picked_take m kept (slice 76 (76 + m) two) (short 76))) (sym (picked_take m kept (slice 128 (128 + m) two) (short 128))) in
      let number : left ≡ length (filter is_positive cs) =
      n ∙ ap (λ (bs : List Bool). count_set (take d bs)) layers_kept_are ∙ ap count_set (flags_are 24 d cs cs_long)
      ∙ sym (count_picked (map is_positive cs) cs (sym (length-map cs is_positive))) ∙ ap length (sym (filter_picked is_positive cs)) in
      let at_rows : r ≡ rows_of_key key = rows ∙ ap (λ (x : ℕ). min (total (slice 48 (48 + x) key)) 24) ed in
      let kept_rows : rs ≡ anchors_left kept key = ap (λ (x : ℕ). counts_of (slice 52 (52 + x) key) kept) at_rows in
      kept_key_lem d r m left cs rs layers two out ed at_rows (anchors ∙ ap (λ (x : ℕ). min (total (slice 52 (52 + x) key)) 24) at_rows)
      kept_rows (ap₂ (λ (x : ℕ) (l : List ℕ). counts_of (slice 48 (48 + x) key) (map is_positive l)) ed kept_rows) refl second third number
