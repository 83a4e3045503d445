-- A layer's anchors are those of the flat list from its start up to the next, in every layout.
use Prim.Native.Nat.{ℕ, zero, suc, ◌+◌, ◌<◌, ◌≤◌, min}
use mathlib.Core.Path.{◌≡◌, refl, sym, ap, ap₂, ◌∙◌}
use mathlib.Core.List.{List, [], ◌∷◌, map}
use native.Mathlib.Omega.{arith}
use lib.ListN.{length, get_or, take, drop, length-map, length-take, get_or-map}
use lib.Seq.{slice, drop-drop, take-take}
use Rattle.std.proofs.lemmas.List.{drop-take, take-map, drop-map}
use Rattle.lists.specs.Lists.{total, chunks, flatten}
use Rattle.lists.proofs.Takes.{take_min}
use Rattle.layout.specs.declared.Anchor.{Anchor}
use Rattle.layout.specs.declared.Row.{Row}
use Rattle.layout.specs.declared.Layout.{Layout}
use Rattle.layout.specs.Topology.{rows_of, row_count, layer_count}
use Rattle.layout.specs.Steps.Starts.{starts_from, row_starts, anchor_starts, layer_starts}
use Rattle.layout.proofs.TopologyLists.{drop_cap, concat_chunks, total_within}
use Rattle.layout.proofs.TopologyStarts.{topology_anchors, rows_anchors, starts_first}
use Rattle.layout.proofs.Sizes.{Sized}

-- ---- starts are sums, up to 24
starts_sum : (s : ℕ) (cs : List ℕ) (k : ℕ) → s ≤ 24 → k ≤ length cs → get_or (starts_from s cs) k 0 ≡ min (s + total (take k cs)) 24
starts_sum s [] zero h k≤ = omega arith
starts_sum s [] (suc k) h k≤ = absurd (omega arith)
starts_sum s (c ∷ cs) zero h k≤ = omega arith
starts_sum s (c ∷ cs) (suc k) h k≤ = starts_sum (min (s + c) 24) cs k (omega arith) (omega arith) ∙ omega arith

-- ---- the parts from a up to b
module _ {A : Type 0} where
  chunks_first : (b : ℕ) (ns : List ℕ) (xs : List A) → take b (chunks ns xs) ≡ chunks (take b ns) xs
  chunks_first zero ns xs = refl
  chunks_first (suc b) [] xs = refl
  chunks_first (suc b) (n ∷ ns) xs = ap {B = List (List A)} (λ t. take n xs ∷ t) (chunks_first b ns (drop n xs))

  concat_later : (a : ℕ) (ns : List ℕ) (xs : List A) → flatten (drop a (chunks ns xs)) ≡ slice (total (take a ns)) (total ns) xs
  concat_later zero ns xs = concat_chunks ns xs
  concat_later (suc a) [] xs = refl
  concat_later (suc a) (n ∷ ns) xs =
      concat_later a ns (drop n xs)
      ∙ ap (drop (total (take a ns))) (sym (drop-take n (total ns) xs))
      ∙ drop-drop (total (take a ns)) n (take (n + total ns) xs)

  slice_cap : (a b : ℕ) (xs : List A) → length xs ≡ 24 → slice a b xs ≡ slice (min a 24) (min b 24) xs
  slice_cap a b xs h =
      let k : length (take b xs) ≤ 24 = omega (arith, length-take b xs) in
      drop_cap a 24 (take b xs) k ∙ ap (drop (min a 24)) (sym (take_min b 24 xs (omega arith)))

-- the anchors of the rows from a up to b
rows_part : (a b : ℕ) (rs : List Row) (xs : List Anchor) → a ≤ b → flatten (map topology_anchors (slice a b (rows_of rs xs))) ≡ slice (total (take a (map row_count rs))) (total (take b (map row_count rs))) xs
rows_part a b rs xs h =
    let ns = map row_count rs in
    ap flatten
    (sym (drop-map topology_anchors a (take b (rows_of rs xs)))
    ∙ ap (drop a) (sym (take-map topology_anchors b (rows_of rs xs)) ∙ ap (take b) (rows_anchors rs xs) ∙ chunks_first b ns xs))
    ∙ concat_later a (take b ns) xs
    ∙ ap (λ (t : List ℕ). slice (total t) (total (take b ns)) xs) (take-take a b ns h)

-- ---- of a layout
module _ (l : Layout) (z : Sized l) where
  pub row_start_lem : (i : ℕ) → i ≤ 4 → get_or (row_starts l) i 0 ≡ min (total (take i (map layer_count l.layers))) 24
  row_start_lem i h = let n = length-map l.layers layer_count in starts_sum 0 (map layer_count l.layers) i (omega arith) (omega (arith, z.layers)) ∙ omega arith

  pub row_start_most : (i : ℕ) → i ≤ 4 → get_or (row_starts l) i 0 ≤ 24
  row_start_most i h = omega (arith, row_start_lem i h)

  pub row_start_rises : (i : ℕ) → i < 4 → get_or (row_starts l) i 0 ≤ get_or (row_starts l) (suc i) 0
  row_start_rises i h = omega (arith, row_start_lem i (omega arith), row_start_lem (suc i) h, total_within i (suc i) (map layer_count l.layers) (omega arith))

  pub layer_start : (i : ℕ) → i ≤ 4 → get_or (layer_starts l) i 0 ≡ min (total (take (get_or (row_starts l) i 0) (map row_count l.rows))) 24
  layer_start i h =
      let n = length-map l.rows row_count in
      let f : ℕ → ℕ = λ r. get_or (anchor_starts l) r 0 in
      ap (λ (d : ℕ). get_or (map f (row_starts l)) i d) (sym (starts_first (map row_count l.rows) 0))
      ∙ get_or-map f (row_starts l) i 0
      ∙ starts_sum 0 (map row_count l.rows) (get_or (row_starts l) i 0) (omega arith) (omega (arith, z.rows, row_start_most i h))
      ∙ omega arith

  pub layer_start_rises : (i : ℕ) → i < 4 → get_or (layer_starts l) i 0 ≤ get_or (layer_starts l) (suc i) 0
  layer_start_rises i h =
      omega (arith, layer_start i (omega arith), layer_start (suc i) h, total_within (get_or (row_starts l) i 0) (get_or (row_starts l) (suc i) 0) (map row_count l.rows) (row_start_rises i h))

  pub layer_start_most : (i : ℕ) → i ≤ 4 → get_or (layer_starts l) i 0 ≤ 24
  layer_start_most i h = omega (arith, layer_start i h)

  pub layer_start_first : get_or (layer_starts l) 0 0 ≡ 0
  layer_start_first = layer_start 0 (omega arith) ∙ omega (arith, row_start_lem 0 (omega arith), ap (λ (n : ℕ). total (take n (map row_count l.rows))) (row_start_lem 0 (omega arith)))

  pub layer_anchors_lem : (i : ℕ) → i < 4 →
      flatten (map topology_anchors (slice (get_or (row_starts l) i 0) (get_or (row_starts l) (suc i) 0) (rows_of l.rows l.anchors))) ≡ slice (get_or (layer_starts l) i 0) (get_or (layer_starts l) (suc i) 0) l.anchors
  layer_anchors_lem i h =
      let a = get_or (row_starts l) i 0 in
      let b = get_or (row_starts l) (suc i) 0 in
      let ns = map row_count l.rows in
      rows_part a b l.rows l.anchors (row_start_rises i h)
      ∙ slice_cap (total (take a ns)) (total (take b ns)) l.anchors z.anchors
      ∙ ap₂ (λ (p : ℕ) (q : ℕ). slice p q l.anchors) (sym (layer_start i (omega arith))) (sym (layer_start (suc i) h))
