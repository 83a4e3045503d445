-- On a topology whose coordinates are ordered, every weight is finite and from 0 to 1, and so a response has no sign. Assumes nothing.
use Prim.Native.Nat.{ℕ, ◌+◌, ◌-◌, ◌≤◌, ◌<◌}
use mathlib.Core.Path.{◌≡◌, refl, sym}
use mathlib.Core.Bool.{Bool, true, false, ◌&&◌, cond, true≢false}
use mathlib.Core.List.{List, [], ◌∷◌, map}
use native.Mathlib.Omega.{arith}
use lib.Dec.{T, eqb}
use lib.IntN.{pos}
use lib.Ieee.{Float, nan, inf, fin, binary64, lt, le, fits}
use lib.Ieee.Fits.{and_i, and_l, and_r}
use lib.Ieee.Scale.{finite}
use lib.ListN.{length, get_or}
use Rattle.doubles.specs.Arithmetic.{◌⊕◌, ◌⊗◌, from_int, one64, minus_one64, zero64}
use Rattle.doubles.specs.Floor.{floor_of}
use Rattle.approximations.specs.Circular.{sine_of, cosine_of}
use Rattle.doubles.specs.Range.{is_between}
use Rattle.doubles.proofs.Signs.{clear}
use Rattle.doubles.proofs.Magnitude.{plain}
use Rattle.doubles.proofs.Differences.{UpTo}
use Rattle.approximations.proofs.Laws.{sine_range, cosine_range}
use Rattle.doubles.proofs.Ratio.{ratio_in_room}
use Rattle.approximations.proofs.Weights.{angle_range, add_from_zero}
use Rattle.lists.specs.Lists.{chain, flatten}
use Rattle.std.specs.List.{list_all}
use Rattle.layout.specs.declared.Anchor.{Anchor}
use Rattle.layout.specs.Topology.{TopologyRow, TopologyLayer, anchor_x}
use Rattle.layout.specs.Questions.{in_room, ordered, ordered_row, ordered_layer, topology_y, topology_z}
use Rattle.layout.proofs.Coordinates.{all_append, all_and}
use Rattle.layout.proofs.SoundRoom.{fits_row, fits_layer, xs_fit, ys_fit, zs_fit, rows_of_lem}
use Rattle.field.specs.declared.Pick.{Pick}
use Rattle.field.specs.declared.Pick.TheVariants.{One, Two}
use Rattle.field.specs.Knots.{Axis, X, Y, Z}
use Rattle.field.specs.Responses.{Weight, two_at, count_below, pair_at, pick_of, layer_pick, weighted, weights_of, alone, row_anchors, layer_anchors, row_weights_x, layer_weights_x, layer_weights_y, weights_on, added_up, response_on}
use Rattle.field.proofs.ResponseOrder.{lt_of_not_le}
use Rattle.field.proofs.ResponseSpread.{all_in}
use Rattle.field.proofs.response.Picks as picks
use Rattle.field.proofs.response.Picks.{below_before, below_at}

-- ---- finite, and from 0 to 1
abbrev pub unit : Float → Bool
unit x = finite x && is_between zero64 one64 x

unit_of : (x : Float) → T (finite x) × T (le zero64 x) × T (le x one64) → T (unit x)
unit_of x r = and_i (finite x) (is_between zero64 one64 x) r.0 (and_i (le zero64 x) (le x one64) r.1 r.2)

abbrev pub unit_weight : Weight → Bool
unit_weight w = unit w.weight

abbrev unit_pick : Pick → Bool
unit_pick (One i) = true
unit_pick (Two i v w) = unit v && unit w

one_unit : T (unit one64)
unfolding le lt
one_unit = tt

two_unit : (i : ℕ) (t : Float) → UpTo binary64 one64 t → T (unit_pick (two_at i t))
unfolding two_at
two_unit i t u =
    let r = angle_range t u in
    and_i (unit (cosine_of _)) (unit (sine_of _)) (unit_of _ (cosine_range _ r.0 r.1 r.2)) (unit_of _ (sine_range _ r.0 r.1 r.2))

-- ---- the picks
module _ (xs : List Float) (u : Float) (o : T (ordered xs)) (f : T (list_all (fits binary64) xs)) (fu : T (fits binary64 u)) (tu : T (finite u)) (some : 0 < length xs) where
  room : (i : ℕ) → i < length xs → T (in_room (get_or xs i nan))
  room i h = all_in in_room nan xs i (and_l (list_all in_room xs) (chain lt xs) o) h

  at_finite : (i : ℕ) → i < length xs → T (finite (get_or xs i nan))
  at_finite i h = and_l (finite (get_or xs i nan)) (is_between minus_one64 one64 (get_or xs i nan)) (room i h)

  at_low : (i : ℕ) → i < length xs → T (le minus_one64 (get_or xs i nan))
  at_low i h = let x = get_or xs i nan in and_l (le minus_one64 x) (le x one64) (and_r (finite x) (is_between minus_one64 one64 x) (room i h))

  at_high : (i : ℕ) → i < length xs → T (le (get_or xs i nan) one64)
  at_high i h = let x = get_or xs i nan in and_r (le minus_one64 x) (le x one64) (and_r (finite x) (is_between minus_one64 one64 x) (room i h))

  at_fits : (i : ℕ) → i < length xs → T (fits binary64 (get_or xs i nan))
  at_fits i h = all_in (fits binary64) nan xs i f h

  pair_unit : (k : ℕ) → 1 ≤ k → k < length xs → lt (get_or xs (k - 1) nan) u ≡ true → lt (get_or xs k nan) u ≡ false → T (unit_pick (pair_at xs u k))
  pair_unit k s h lo hi =
      let b : k - 1 < length xs = omega arith in
      two_unit (k - 1) _
      (ratio_in_room binary64 (get_or xs (k - 1) nan) u (get_or xs k nan) (at_fits (k - 1) b) fu (at_fits k h) (at_finite (k - 1) b) tu (at_finite k h) (at_low (k - 1) b) (at_high (k - 1) b) (at_low k h) (at_high k h) lo hi)

  pick_unit : T (unit_pick (pick_of xs u))
  pick_unit = go (le u (get_or xs 0 nan)) refl (le (get_or xs (length xs - 1) nan) u) refl
    where
      go : (b : Bool) → le u (get_or xs 0 nan) ≡ b → (c : Bool) → le (get_or xs (length xs - 1) nan) u ≡ c → T (unit_pick (pick_of xs u))
      go true e c g = rw (picks.pick_first xs u some e) tt
      go false e true g = rw (picks.pick_last xs u some e g) tt
      go false e false g =
          let r = picks.between xs u some tu (at_finite 0 some) e g in
          rw (picks.pick_pair xs u some e g) (pair_unit (count_below u xs) r.0 r.1 (below_before u xs (count_below u xs - 1) (omega arith)) (below_at u xs r.1))

-- a coordinate from 0 to 1 is finite, and above 0 it has no sign
from_zero_finite : (u : Float) → T (le zero64 u) → T (le u one64) → T (finite u)
unfolding le lt
from_zero_finite nan lo hi = lo
from_zero_finite (inf true) lo hi = lo
from_zero_finite (inf false) lo hi = hi
from_zero_finite (fin s m e) lo hi = tt

above_zero_plain : (u : Float) → T (finite u) → lt zero64 u ≡ true → T (plain u)
unfolding lt
above_zero_plain nan t e = t
above_zero_plain (inf s) t e = absurd t
above_zero_plain (fin true m d) t e = absurd (true≢false (sym e))
above_zero_plain (fin false m d) t e = tt

module _ (zs : List Float) (u : Float) (o : T (ordered zs)) (f : T (list_all (fits binary64) zs)) (fu : T (fits binary64 u)) (lo : T (le zero64 u)) (hi : T (le u one64)) (some : 0 < length zs) where
  layer_pick_unit : T (unit_pick (layer_pick zs u))
  unfolding layer_pick
  layer_pick_unit = outer (eqb (length zs) 2)
    where
      t : T (finite u)
      t = from_zero_finite u lo hi

      inner : (b : Bool) → le u zero64 ≡ b → (c : Bool) → T (unit_pick (cond b (One 0) (cond c (One 1) (two_at 0 u))))
      inner true e c = tt
      inner false e true = tt
      inner false e false = two_unit 0 u (fu, above_zero_plain u t (lt_of_not_le u zero64 t tt e), hi)

      outer : (b : Bool) → T (unit_pick (cond b (cond (le u zero64) (One 0) (cond (le (from_int (pos 32767)) (floor_of binary64 (from_int (pos 32768) ⊗ u))) (One 1) (two_at 0 u))) (pick_of zs u)))
      outer true = inner (le u zero64) refl (le (from_int (pos 32767)) (floor_of binary64 (from_int (pos 32768) ⊗ u)))
      outer false = pick_unit zs u o f fu t some

-- ---- the weights that a pick spreads
weighted_unit : (w : Float) (as' : List Anchor) → T (unit w) → T (list_all unit_weight (weighted w as'))
weighted_unit w [] h = tt
weighted_unit w (a ∷ as') h = and_i (unit w) (list_all unit_weight (weighted w as')) h (weighted_unit w as' h)

spread_unit : (p : Pick) (parts : List (List Anchor)) → T (unit_pick p) → T (list_all unit_weight (weights_of p parts))
spread_unit (One i) parts h = weighted_unit one64 (get_or parts i []) one_unit
spread_unit (Two i v w) parts h =
    all_append unit_weight (weighted v (get_or parts i [])) (weighted w (get_or parts (i + 1) []))
    (weighted_unit v (get_or parts i []) (and_l (unit v) (unit w) h)) (weighted_unit w (get_or parts (i + 1) []) (and_r (unit v) (unit w) h))

spread_none : (p : Pick) → T (list_all unit_weight (weights_of p []))
spread_none (One i) = tt
spread_none (Two i v w) = tt

concat_unit : {A : Type 0} (f : A → List Weight) (q : A → Bool) → ((x : A) → T (q x) → T (list_all unit_weight (f x))) → (xs : List A) → T (list_all q xs) → T (list_all unit_weight (flatten (map f xs)))
concat_unit f q h [] t = tt
concat_unit f q h (x ∷ xs) t =
    all_append unit_weight (f x) (flatten (map f xs)) (h x (and_l (q x) (list_all q xs) t)) (concat_unit f q h xs (and_r (q x) (list_all q xs) t))

-- ---- the coordinates of a topology are doubles, and ordered
module _ (u : Float) (fu : T (fits binary64 u)) (lo : T (le zero64 u)) (hi : T (le u one64)) where
  tu : T (finite u)
  tu = from_zero_finite u lo hi

  row_unit : (r : TopologyRow) → T (ordered_row r && fits_row r) → T (list_all unit_weight (row_weights_x u r))
  unfolding row_weights_x
  row_unit r h = go r.anchors (and_l (ordered_row r) (fits_row r) h) (xs_fit r (and_r (ordered_row r) (fits_row r) h))
    where
      go : (as' : List Anchor) → T (ordered (map anchor_x as')) → T (list_all (fits binary64) (map anchor_x as')) → T (list_all unit_weight (weights_of (pick_of (map anchor_x as') u) (map alone as')))
      go [] o f = spread_none (pick_of [] u)
      go (a ∷ as') o f = spread_unit (pick_of (map anchor_x (a ∷ as')) u) (map alone (a ∷ as')) (pick_unit (map anchor_x (a ∷ as')) u o f fu tu (omega arith))

  layer_unit_x : (l : TopologyLayer) → T (ordered_layer l && fits_layer l) → T (list_all unit_weight (layer_weights_x u l))
  unfolding layer_weights_x
  layer_unit_x l h =
      let o = and_l (ordered_layer l) (fits_layer l) h in
      let f = rows_of_lem l (and_r (ordered_layer l) (fits_layer l) h) in
      concat_unit (row_weights_x u) (λ (r : TopologyRow). ordered_row r && fits_row r) row_unit l.rows
      (all_and ordered_row fits_row l.rows (and_r (ordered (map topology_y l.rows)) (list_all ordered_row l.rows) o) f)

  layer_unit_y : (l : TopologyLayer) → T (ordered_layer l && fits_layer l) → T (list_all unit_weight (layer_weights_y u l))
  unfolding layer_weights_y
  layer_unit_y l h =
      let o = and_l (ordered_layer l) (fits_layer l) h in
      let f = rows_of_lem l (and_r (ordered_layer l) (fits_layer l) h) in
      go l.rows (and_l (ordered (map topology_y l.rows)) (list_all ordered_row l.rows) o) (ys_fit l.rows f)
    where
      go : (rs : List TopologyRow) → T (ordered (map topology_y rs)) → T (list_all (fits binary64) (map topology_y rs)) → T (list_all unit_weight (weights_of (pick_of (map topology_y rs) u) (map row_anchors rs)))
      go [] o f = spread_none (pick_of [] u)
      go (r ∷ rs) o f = spread_unit (pick_of (map topology_y (r ∷ rs)) u) (map row_anchors (r ∷ rs)) (pick_unit (map topology_y (r ∷ rs)) u o f fu tu (omega arith))

  module _ (t : List TopologyLayer) (oz : T (ordered (map topology_z t))) (ol : T (list_all ordered_layer t)) (ft : T (list_all fits_layer t)) where
    layers : T (list_all (λ (l : TopologyLayer). ordered_layer l && fits_layer l) t)
    layers = all_and ordered_layer fits_layer t ol ft

    -- every weight is finite and from 0 to 1
    pub weights_unit : (a : Axis) → T (list_all unit_weight (weights_on a t u))
    unfolding weights_on
    weights_unit X = concat_unit (layer_weights_x u) (λ (l : TopologyLayer). ordered_layer l && fits_layer l) layer_unit_x t layers
    weights_unit Y = concat_unit (layer_weights_y u) (λ (l : TopologyLayer). ordered_layer l && fits_layer l) layer_unit_y t layers
    weights_unit Z = go t oz (zs_fit t ft)
      where
        go : (ls : List TopologyLayer) → T (ordered (map topology_z ls)) → T (list_all (fits binary64) (map topology_z ls)) → T (list_all unit_weight (weights_of (layer_pick (map topology_z ls) u) (map layer_anchors ls)))
        go [] o f = spread_none (layer_pick [] u)
        go (l ∷ ls) o f = spread_unit (layer_pick (map topology_z (l ∷ ls)) u) (map layer_anchors (l ∷ ls)) (layer_pick_unit (map topology_z (l ∷ ls)) u o f fu lo hi (omega arith))

-- ---- sums of weights
added_clear : (s : Float) (name : ℕ) (ws : List Weight) → T (clear s) → T (list_all unit_weight ws) → T (clear (added_up s name ws))
unfolding added_up
added_clear s name [] c h = c
added_clear s name (w ∷ ws) c h = added_clear (cond (eqb w.name name) (s ⊕ w.weight) s) name ws (go (eqb w.name name)) (and_r (unit_weight w) (list_all unit_weight ws) h)
  where
    x : Float
    x = w.weight

    low : T (le zero64 x)
    low = and_l (le zero64 x) (le x one64) (and_r (finite x) (is_between zero64 one64 x) (and_l (unit_weight w) (list_all unit_weight ws) h))

    go : (b : Bool) → T (clear (cond b (s ⊕ x) s))
    go true = add_from_zero binary64 s x c low
    go false = c

-- ---- a response has no sign
pub response_clear : (a : Axis) (t : List TopologyLayer) (u : Float) (name : ℕ) → T (ordered (map topology_z t)) → T (list_all ordered_layer t) → T (list_all fits_layer t) → T (fits binary64 u) → T (le zero64 u) → T (le u one64) → T (clear (response_on a t u name))
unfolding response_on
response_clear a t u name oz ol ft fu lo hi = added_clear zero64 name (weights_on a t u) tt (weights_unit u fu lo hi t oz ol ft a)
