-- One turn of the loop over the groups. Assumes nothing.
use Prim.Native.Nat.{ℕ, ◌+◌, ◌≤◌, ◌<◌}
use mathlib.Core.Path.{◌≡◌, refl}
use mathlib.Core.List.{List}
use native.Mathlib.Nat.{le_refl, le_trans}
use native.Mathlib.Numerals.{add-one}
use lib.Dec.{T}
use lib.Ieee.{Float, nan}
use lib.Ieee.Scale.{finite}
use lib.ListN.{length, get_or}
use Rattle.field.specs.Steps.Flat.{iterate, pick_added, group_pick, response_added, Grouped}

pub run_more : (n : ℕ) (g : ℕ → List Float → List Float) (out : List Float) → iterate (n + 1) g out ≡ g n (iterate n g out)
unfolding iterate
run_more n g out = rw add-one

module _ (at parts : List ℕ) (v : List Float) (groups : List ℕ) where
  -- ---- one group more
  module _ (u : Float) (out : List Float) where
    pub response_none : response_added at parts v groups 0 u out ≡ out
    unfolding response_added iterate
    response_none = refl

    pub response_more : (g : ℕ) → response_added at parts v groups (g + 1) u out ≡ pick_added at parts (group_pick v groups u g) (response_added at parts v groups g u out)
    unfolding response_added
    response_more g = run_more g _ out

  -- a group's first coordinate is finite
  module _ (count : ℕ) (u : Float) (t : T (finite u)) (k : Grouped v groups count) (g : ℕ) (h : g < count) where
    pub group_within : get_or groups (g + 1) 0 ≤ length v
    group_within = le_trans (k.ends g h) k.within

    pub group_first : T (finite (get_or v (get_or groups g 0) nan))
    group_first = k.finites g (get_or groups g 0) h (le_refl (get_or groups g 0)) (k.some g h)
