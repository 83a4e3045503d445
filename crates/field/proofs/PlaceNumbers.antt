-- Every number of a place is a double, and it is clear (NaN, or the sign is clear) where the end responses are. A filled store: its length, its numbers, and what stays. Assumes nothing.
use Prim.Native.Nat.{ℕ, zero, suc, ◌+◌, ◌-◌, ◌/◌, ◌%◌, ◌<◌}
use mathlib.Core.Path.{◌≡◌, ap, ap₂, ◌∙◌}
use mathlib.Core.Bool.{Bool, true, false, ◌&&◌, cond}
use mathlib.Core.List.{List, [], ◌∷◌}
use native.Mathlib.Omega.{arith}
use borrow.Author.Tests.{le-leb}
use lib.Dec.{T, leb, ltb, eqb}
use lib.Ieee.{Float, nan, binary64, fits}
use lib.ListN.{length, get_or}
use Rattle.doubles.specs.Arithmetic.{◌⊕◌, one64, zero64}
use Rattle.doubles.proofs.Signs.{clear}
use Rattle.doubles.proofs.Laws.{add-fits}
use Rattle.layout.specs.Topology.{TopologyLayer}
use Rattle.layout.specs.Room.{Room, names_in, active_in}
use Rattle.field.specs.Knots.{Axis, X, Y, Z}
use Rattle.field.specs.Responses.{Weight, added_up, weights_on, response_on}
use Rattle.field.specs.Tables.{sampled_on}
use Rattle.field.specs.Place.{end_numbers, row_number, row_written, place_number, place_start, filled_from, filled}
use Rattle.field.proofs.Patching.{patched_length, get_or_patched}
use Rattle.field.proofs.Tables.{sampled_on_clear, sampled_on_fits}

-- ---- what the tables' numbers and the end responses have, and NaN, every number of a place has
module _ (P : Float → Type 0) (none : P nan) (t : List TopologyLayer) (tables : (a : Axis) (i j name : ℕ) → P (sampled_on a t i j name)) (lower : (a : Axis) (name : ℕ) → P (response_on a t zero64 name)) (upper : (a : Axis) (name : ℕ) → P (response_on a t one64 name)) where
  ends_have : (name e : ℕ) → P (get_or (end_numbers t name) e nan)
  unfolding end_numbers
  ends_have name zero = lower X name
  ends_have name (suc zero) = upper X name
  ends_have name (suc (suc zero)) = lower Y name
  ends_have name (suc (suc (suc zero))) = upper Y name
  ends_have name (suc (suc (suc (suc zero)))) = lower Z name
  ends_have name (suc (suc (suc (suc (suc zero))))) = upper Z name
  ends_have name (suc (suc (suc (suc (suc (suc e)))))) = none

  choice : (b : Bool) {x y : Float} → P x → P y → P (cond b x y)
  choice true p q = p
  choice false p q = q

  pub row_has : (r name : ℕ) → P (row_number t r name)
  unfolding row_number
  row_has r name =
      choice (ltb r 700) (tables X (r / 20) (r % 20) name)
      (choice (ltb r 1400) (tables Y ((r - 700) / 20) ((r - 700) % 20) name)
      (choice (ltb r 1480) (tables Z ((r - 1400) / 20) ((r - 1400) % 20) name) (ends_have name (r - 1480))))

  pub place_has : (names : List ℕ) (k : ℕ) → P (place_number t names k)
  unfolding place_number
  place_has names k = row_has (k / length names) (get_or names (k % length names) 0)

-- ---- clear, where the end responses are
pub place_clear : (t : List TopologyLayer) → ((a : Axis) (name : ℕ) → T (clear (response_on a t zero64 name))) → ((a : Axis) (name : ℕ) → T (clear (response_on a t one64 name))) → (names : List ℕ) (k : ℕ) → T (clear (place_number t names k))
place_clear t lower upper = place_has (λ (x : Float). T (clear x)) tt t (λ a i j name. sampled_on_clear a t i j name) lower upper

-- ---- doubles
added_fits : (s : Float) (name : ℕ) (ws : List Weight) → T (fits binary64 s) → T (fits binary64 (added_up s name ws))
unfolding added_up
added_fits s name [] h = h
added_fits s name (w ∷ ws) h = added_fits (cond (eqb w.name name) (s ⊕ w.weight) s) name ws (go (eqb w.name name))
  where
    go : (b : Bool) → T (fits binary64 (cond b (s ⊕ w.weight) s))
    go true = add-fits s w.weight
    go false = h

pub responses_fit : (a : Axis) (t : List TopologyLayer) (u : Float) (name : ℕ) → T (fits binary64 (response_on a t u name))
unfolding response_on
responses_fit a t u name = added_fits zero64 name (weights_on a t u) (unfold fits in tt)

pub place_fits : (t : List TopologyLayer) (names : List ℕ) (k : ℕ) → T (fits binary64 (place_number t names k))
place_fits t =
    place_has (λ (x : Float). T (fits binary64 x)) (unfold fits in tt) t
    (λ a i j name. sampled_on_fits a t i j name)
    (λ a name. responses_fit a t zero64 name)
    (λ a name. responses_fit a t one64 name)

-- ---- a filled store
module _ (r : Room) (p : ℕ) (store : List Float) where
  abbrev writes : ℕ → Bool
  writes i = leb (place_start p) i && row_written r.layers ((i - place_start p) / active_in r)

  abbrev number : ℕ → Float
  number i = place_number r.layers (names_in r) (i - place_start p)

  pub filled_length : length (filled r p store) ≡ length store
  unfolding filled filled_from
  filled_length = patched_length writes number store

  -- number k of the place, where its row is written
  pub filled_at : (k : ℕ) → place_start p + k < length store → row_written r.layers (k / active_in r) ≡ true → get_or (filled r p store) (place_start p + k) nan ≡ place_number r.layers (names_in r) k
  unfolding filled filled_from
  filled_at k h w =
      let e : place_start p + k - place_start p ≡ k = omega arith in
      get_or_patched writes number store (place_start p + k) nan h
      ∙ ap (λ (j : ℕ). cond (leb (place_start p) (place_start p + k) && row_written r.layers (j / active_in r)) (place_number r.layers (names_in r) j) (get_or store (place_start p + k) nan)) e
      ∙ ap (λ (b : Bool). cond b (place_number r.layers (names_in r) k) (get_or store (place_start p + k) nan)) (ap₂ ◌&&◌ (le-leb (place_start p) (place_start p + k) (omega arith)) w)
