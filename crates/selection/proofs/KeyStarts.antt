-- Where the anchors of the layers begin, summed up over the counts in a key.
use Prim.Native.Nat.{ℕ, zero, suc, ◌+◌, ◌-◌, ◌<◌, ◌≤◌, min}
use mathlib.Core.Path.{◌≡◌, sym, ap, ◌∙◌}
use mathlib.Core.List.{List, [], ◌∷◌, map}
use native.Mathlib.Numerals.{add-one}
use native.Mathlib.Omega.{arith}
use lib.ListN.{length, get_or, take, drop, set, length-map}
use lib.Seq.{slice, drop-drop, take-take, get_or-take}
use Rattle.std.specs.Prelude.{slice_range}
use Rattle.std.proofs.lemmas.List.{drop-take}
use Rattle.lists.specs.Lists.{total}
use Rattle.lists.proofs.Fill.{Filled, fill_none, fill_more, fill_done}
use Rattle.layout.specs.declared.Layout.{Layout}
use Rattle.layout.specs.Topology.{layer_count, row_count}
use Rattle.layout.specs.Steps.Starts.{row_starts, layer_starts}
use Rattle.keys.specs.InKey.{layout_in}
use Rattle.keys.proofs.InKey.{sized, layer_counts_are, row_counts_are}
use Rattle.layout.proofs.Sizes.{Sized}
use Rattle.layout.proofs.StartsFrom.{starts_length}
use Rattle.selection.proofs.KeyEntries.{at_part}
use Rattle.selection.proofs.LayerAnchors.{row_start_lem, row_start_most, row_start_rises, layer_start, layer_start_first, layer_start_rises, layer_start_most}

-- a part from an offset on
pub part_within : (l : List ℕ) (base a b : ℕ) → a ≤ b → slice_range l (base + a) (base + b) ≡ slice a b (drop base l)
part_within l base a b h =
    let e : base + b - (base + a) ≡ b - a = omega arith in
    let f : a + (b - a) ≡ b = omega arith in
    ap (λ (n : ℕ). take n (drop (base + a) l)) e
    ∙ ap (take (b - a)) (sym (drop-drop a base l))
    ∙ sym (drop-take a (b - a) (drop base l))
    ∙ ap (λ (n : ℕ). slice a n (drop base l)) f

-- ---- sums of counts
total_split : (a b : ℕ) (ns : List ℕ) → a ≤ b → total (take b ns) ≡ total (take a ns) + total (slice a b ns)
total_split zero b ns h = omega arith
total_split (suc a) zero ns h = absurd (omega arith)
total_split (suc a) (suc b) [] h = omega arith
total_split (suc a) (suc b) (n ∷ ns) h = let r = total_split a b ns (omega arith) in omega arith

total_next : (k : ℕ) (ns : List ℕ) → total (take (suc k) ns) ≡ total (take k ns) + get_or ns k 0
total_next zero [] = omega arith
total_next zero (n ∷ ns) = omega arith
total_next (suc k) [] = omega arith
total_next (suc k) (n ∷ ns) = let r = total_next k ns in omega arith

-- ---- the starts of the first i layers are written, and row is where the next layer's rows begin
pub record Walked (key starts : List ℕ) (row i : ℕ) : Type 0 where
  pub rows : row ≡ get_or (row_starts (layout_in key)) i 0
  pub filled : Filled 5 (layer_starts (layout_in key)) starts (i + 1)

module _ (key : List ℕ) (long : length key ≡ 156) where
  abbrev l : Layout
  l = layout_in key

  z : Sized l
  z = sized key long

  five : length (layer_starts l) ≡ 5
  five = length-map (row_starts l) _ ∙ starts_length 0 (map layer_count l.layers) ∙ omega (arith, length-map l.layers layer_count, z.layers)

  pub walk_none : (starts : List ℕ) → length starts ≡ 5 → set starts 0 0 ≡ starts → Walked key starts 0 0
  walk_none starts n e =
      record {
        rows = omega (arith, row_start_lem l z 0 (omega arith));
        filled = rw e at (fill_more 5 (layer_starts l) starts 0 0 0 (fill_none 5 (layer_starts l) starts five n) (omega arith) (sym (layer_start_first l z)));
      }

  module _ (starts : List ℕ) (row i : ℕ) (w : Walked key starts row i) (h : i < 4) (next end : ℕ) (p : next ≡ min (row + get_or key (48 + i) 0) 24) where
    next_is : next ≡ get_or (row_starts l) (suc i) 0
    next_is =
        let c = sym (at_part key 48 4 i h) ∙ ap (λ (v : List ℕ). get_or v i 0) (sym (layer_counts_are key long)) in
        omega (arith, p, w.rows, c, row_start_lem l z i (omega arith), row_start_lem l z (suc i) (omega arith), total_next i (map layer_count l.layers))

    pub row_bounds : (row ≤ next) × (next ≤ 24)
    row_bounds = omega (arith, next_is, w.rows, row_start_rises l z i h, row_start_most l z (suc i) (omega arith))

    rows_of_key : slice row next (drop 52 key) ≡ slice row next (map row_count l.rows)
    rows_of_key = ap (drop row) (sym (take-take next 24 (drop 52 key) row_bounds.1) ∙ ap (take next) (sym (drop-take 52 24 key) ∙ sym (row_counts_are key long)))

    at_is : get_or starts i 0 ≡ get_or (layer_starts l) i 0
    at_is = sym (get_or-take (i + 1) starts i 0 (omega arith)) ∙ ap (λ (v : List ℕ). get_or v i 0) w.filled.same ∙ get_or-take (i + 1) (layer_starts l) i 0 (omega arith)

    pub walk_more : end ≡ min (get_or starts i 0 + total (slice_range key (52 + row) (52 + next))) 24 → Walked key (set starts (i + 1) end) next (i + 1)
    walk_more q =
        let ns = map row_count l.rows in
        let t = ap total (part_within key 52 row next row_bounds.0 ∙ rows_of_key) in
        let a : ℕ = get_or (row_starts l) i 0 in
        let s = total_split row next ns row_bounds.0 in
        let u = ap (λ (n : ℕ). total (take n ns)) w.rows in
        let v = ap (λ (n : ℕ). total (take n ns)) next_is in
        let e : end ≡ get_or (layer_starts l) (suc i) 0 = omega (arith, q, t, s, u, v, at_is, layer_start l z i (omega arith), layer_start l z (suc i) (omega arith)) in
        record {
          rows = rw add-one next_is;
          filled = fill_more 5 (layer_starts l) starts (i + 1) 0 end w.filled (omega arith) (e ∙ rw add-one);
        }

  pub walk_done : (starts : List ℕ) (row i : ℕ) → Walked key starts row i → 4 ≤ i → starts ≡ layer_starts l
  walk_done starts row i w h = fill_done 5 (layer_starts l) starts (i + 1) w.filled (omega arith)

  pub starts_rise : (starts : List ℕ) → starts ≡ layer_starts l → (i : ℕ) → i < 4 → get_or starts i 0 ≤ get_or starts (i + 1) 0
  starts_rise starts e i h = rw (e, add-one) (layer_start_rises l z i h)

  pub starts_most : (starts : List ℕ) → starts ≡ layer_starts l → (i : ℕ) → i ≤ 4 → get_or starts i 0 ≤ 24
  starts_most starts e i h = rw e (layer_start_most l z i h)
