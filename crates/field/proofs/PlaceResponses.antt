-- What `respond` and `respond_z` ask of the lists of an accepted layout, and that they leave its responses. Assumes nothing.
use Prim.Native.Nat.{ℕ, zero, suc, ◌+◌, ◌-◌, ◌≤◌, ◌<◌}
use mathlib.Core.Path.{◌≡◌, refl, ap, ◌∙◌}
use mathlib.Core.List.{List, [], ◌∷◌, map}
use native.Mathlib.Nat.{le_refl}
use native.Mathlib.Omega.{arith}
use lib.Dec.{T}
use lib.Ieee.{Float, nan, binary64, of_bits}
use lib.Ieee.Scale.{finite}
use lib.ListN.{length, get_or, take, length-map, length-replicate, get_or-replicate}
use Rattle.doubles.specs.Arithmetic.{zero64}
use Rattle.layout.specs.declared.Layout.{Layout}
use Rattle.layout.specs.Steps.Accepted.{Accepted}
use Rattle.layout.specs.Channels.{active_names, active_count}
use Rattle.layout.specs.Topology.{used_rows, topology_of, anchor_x, row_y, layer_z}
use Rattle.layout.specs.Steps.Starts.{anchor_starts, row_starts, layer_starts, anchor_index}
use Rattle.field.specs.Knots.{Axis, X, Y, Z, steps, sample, sample_count}
use Rattle.field.specs.Responses.{layer_pick, response_on}
use Rattle.field.specs.Steps.Columns.{in_rows, Doubles}
use Rattle.field.specs.Steps.Flat.{pick_added, response_added, Parted, Grouped}
use Rattle.field.specs.Steps.Filling.{ResponsesOn, no_responses}
use Rattle.field.proofs.response.Cuts.{used, bounds, cut_length, grouped_cut, response_cut}
use Rattle.field.proofs.PlaceNumbers.{responses_fit}
use Rattle.field.proofs.ResponseLayout.{ones, x_grouped, x_parted, y_grouped, y_parted, z_finite, z_parted, responses_x_lem, responses_y_lem, responses_z_lem}

zero_bits : of_bits binary64 0 ≡ zero64
unfolding of_bits
zero_bits = refl

pub none_length : length no_responses ≡ 24
none_length = length-replicate 24 (of_bits binary64 0)

none_zero : (i : ℕ) → i < 24 → get_or no_responses i nan ≡ zero64
none_zero i h = get_or-replicate 24 i (of_bits binary64 0) nan h ∙ zero_bits

-- the responses are doubles
pub responses_doubles : (a : Axis) (l : Layout) (rows : List (List Float)) (n : ℕ) → n ≡ active_count l → ResponsesOn a l rows → Doubles (in_rows rows) (sample_count a) n
responses_doubles a l rows n e r s k h m =
    rw (r.values s k h (rw (← e) m)) (responses_fit a (topology_of l) (sample a s) (get_or (active_names l) k 0))

-- ---- what is asked, and what is left
module _ (l : Layout) (layers : length l.layers ≡ 4) (rows_24 : length l.rows ≡ 24) (anchors : length l.anchors ≡ 24) (a : Accepted l) where
  module _ (at : List ℕ) (is_at : at ≡ map (anchor_index l) l.anchors) where
    module _ (xs : List Float) (starts : List ℕ) (count : ℕ) (is-xs : xs ≡ map anchor_x l.anchors) (is-starts : starts ≡ anchor_starts l) (is-count : count ≡ length (used_rows l)) where
      grouped_x : Grouped xs starts count
      grouped_x = rw (is-xs, is-starts, is-count) (x_grouped l layers rows_24 anchors a)

      pub asked_x : Grouped (used xs starts count) (bounds starts count) (length (bounds starts count) - 1) × Parted at ones (length (used xs starts count))
      asked_x = (grouped_cut xs starts count grouped_x, rw (cut_length xs starts count grouped_x) (rw (is_at, is-starts, is-count) (x_parted l layers rows_24 anchors a)))

      pub left_x : (rows : List (List Float)) → ((s : ℕ) → s < 20 → get_or rows s [] ≡ response_added at ones (used xs starts count) (bounds starts count) (length (bounds starts count) - 1) (steps 19 s) no_responses) → ResponsesOn X l rows
      left_x rows is = record { values = λ s k h m. row s k h m (is s h ∙ response_cut xs starts count grouped_x at ones (steps 19 s) no_responses ∙ rw (is_at, is-xs, is-starts, is-count)) }
        where
          row : (s k : ℕ) → s < 20 → k < active_count l → get_or rows s [] ≡ response_added (map (anchor_index l) l.anchors) ones (map anchor_x l.anchors) (anchor_starts l) (length (used_rows l)) (steps 19 s) no_responses →
              get_or (get_or rows s []) k nan ≡ response_on X (topology_of l) (sample X s) (get_or (active_names l) k 0)
          row s k h m e = ap (λ (r : List Float). get_or r k nan) e ∙ responses_x_lem l layers rows_24 anchors a no_responses (omega (arith, none_length)) none_zero s k h m

    module _ (ys : List Float) (rows_at starts : List ℕ) (is-ys : ys ≡ map row_y l.rows) (is-rows : rows_at ≡ row_starts l) (is-starts : starts ≡ anchor_starts l) where
      grouped_y : Grouped ys rows_at l.depth
      grouped_y = rw (is-ys, is-rows) (y_grouped l layers rows_24 anchors a)

      pub asked_y : Grouped (used ys rows_at l.depth) (bounds rows_at l.depth) (length (bounds rows_at l.depth) - 1) × Parted at starts (length (used ys rows_at l.depth))
      asked_y = (grouped_cut ys rows_at l.depth grouped_y, rw (cut_length ys rows_at l.depth grouped_y) (rw (is_at, is-rows, is-starts) (y_parted l layers rows_24 anchors a)))

      pub left_y : (rows : List (List Float)) → ((s : ℕ) → s < 20 → get_or rows s [] ≡ response_added at starts (used ys rows_at l.depth) (bounds rows_at l.depth) (length (bounds rows_at l.depth) - 1) (steps 19 s) no_responses) → ResponsesOn Y l rows
      left_y rows is = record { values = λ s k h m. row s k h m (is s h ∙ response_cut ys rows_at l.depth grouped_y at starts (steps 19 s) no_responses ∙ rw (is_at, is-ys, is-rows, is-starts)) }
        where
          row : (s k : ℕ) → s < 20 → k < active_count l → get_or rows s [] ≡ response_added (map (anchor_index l) l.anchors) (anchor_starts l) (map row_y l.rows) (row_starts l) l.depth (steps 19 s) no_responses →
              get_or (get_or rows s []) k nan ≡ response_on Y (topology_of l) (sample Y s) (get_or (active_names l) k 0)
          row s k h m e = ap (λ (r : List Float). get_or r k nan) e ∙ responses_y_lem l layers rows_24 anchors a no_responses (omega (arith, none_length)) none_zero s k h m

    module _ (zs : List Float) (starts : List ℕ) (is-zs : zs ≡ map layer_z l.layers) (is-starts : starts ≡ layer_starts l) where
      -- all layers are one group
      one_group : Grouped zs (0 ∷ l.depth ∷ []) 1
      one_group =
          let m = ap length is-zs ∙ length-map l.layers layer_z ∙ layers in
          let some = a.some_layers in
          let few = a.few_layers in
          let finites : (i : ℕ) → i < l.depth → T (finite (get_or zs i nan)) = rw is-zs (z_finite l layers rows_24 anchors a) in
          record { many = omega arith; some = one_some some; ends = one_ends; within = omega arith; finites = one_finites finites }
        where
          one_some : 1 ≤ l.depth → (g : ℕ) → g < 1 → get_or (0 ∷ l.depth ∷ []) g 0 < get_or (0 ∷ l.depth ∷ []) (g + 1) 0
          one_some some zero h = some
          one_some some (suc g) h = absurd (omega arith)

          one_ends : (g : ℕ) → g < 1 → get_or (0 ∷ l.depth ∷ []) (g + 1) 0 ≤ get_or (0 ∷ l.depth ∷ []) 1 0
          one_ends zero h = le_refl l.depth
          one_ends (suc g) h = absurd (omega arith)

          one_finites : ((i : ℕ) → i < l.depth → T (finite (get_or zs i nan))) → (g i : ℕ) → g < 1 → get_or (0 ∷ l.depth ∷ []) g 0 ≤ i → i < get_or (0 ∷ l.depth ∷ []) (g + 1) 0 → T (finite (get_or zs i nan))
          one_finites f zero i h j k = f i k
          one_finites f (suc g) i h j k = absurd (omega arith)

      abbrev pub used_zs : List Float
      used_zs = take l.depth zs

      used_length : length used_zs ≡ l.depth
      used_length = cut_length zs (0 ∷ l.depth ∷ []) 1 one_group

      pub asked_z : Grouped used_zs (0 ∷ l.depth ∷ []) 1 × Parted at starts (length used_zs)
      asked_z = (grouped_cut zs (0 ∷ l.depth ∷ []) 1 one_group, rw used_length (rw (is_at, is-starts) (z_parted l layers rows_24 anchors a)))

      pub left_z : (rows : List (List Float)) → ((s : ℕ) → s < 8 → get_or rows s [] ≡ pick_added at starts (layer_pick (take l.depth zs) (steps 7 s)) no_responses) → ResponsesOn Z l rows
      left_z rows is = record { values = λ s k h m. row s k h m (is s h ∙ rw (is_at, is-zs, is-starts)) }
        where
          row : (s k : ℕ) → s < 8 → k < active_count l → get_or rows s [] ≡ pick_added (map (anchor_index l) l.anchors) (layer_starts l) (layer_pick (take l.depth (map layer_z l.layers)) (steps 7 s)) no_responses →
              get_or (get_or rows s []) k nan ≡ response_on Z (topology_of l) (sample Z s) (get_or (active_names l) k 0)
          row s k h m e = ap (λ (r : List Float). get_or r k nan) e ∙ responses_z_lem l layers rows_24 anchors a no_responses (omega (arith, none_length)) none_zero s k h m
