-- What the code works out on flat lists: coordinate i has the anchors from parts[i] up to parts[i + 1], group g the coordinates from groups[g] up to groups[g + 1], and anchor a is that of the active channel at[a]. Definitions only.
use Rattle.std.specs.Prelude.{ℕ, suc, ◌+◌, ◌≤◌, ◌<◌, List, [], ◌∷◌, T, Float, length, get_or, set}
use Prim.Native.Nat as Nat
use Rattle.std.specs.Float.{nan}
use Rattle.std.specs.Float.Ieee.Scale.{finite}
use Rattle.std.proofs.Math.Seq.{slice}
use Rattle.doubles.specs.Arithmetic.{◌⊕◌, one64}
use Rattle.field.specs.declared.Pick.{Pick}
use Rattle.field.specs.declared.Pick.TheVariants.{One, Two}
use Rattle.field.specs.Responses.{pick_of}

-- a pick among coordinates that begin at a
abbrev pub shifted : ℕ → Pick → Pick
shifted a (One i) = One (a + i)
shifted a (Two i v w) = Two (a + i) v w

-- behind the last coordinate of a pick
abbrev pub pick_end : Pick → ℕ
pick_end (One i) = i + 1
pick_end (Two i v w) = i + 2

-- w added to the number of channel k in a row of responses, for each k of a list in turn
unfoldable pub added_at : Float → List ℕ → List Float → List Float
added_at w [] row = row
added_at w (k ∷ ks) row = added_at w ks (set row k (get_or row k nan ⊕ w))

-- the channels of the anchors of coordinate i
abbrev pub part_at : List ℕ → List ℕ → ℕ → List ℕ
part_at at parts i = slice (get_or parts i 0) (get_or parts (i + 1) 0) at

-- the weights of a pick added
unfoldable pub pick_added : List ℕ → List ℕ → Pick → List Float → List Float
unfolding added_at
pick_added at parts (One i) row = added_at one64 (part_at at parts i) row
pick_added at parts (Two i v w) row = added_at w (part_at at parts (i + 1)) (added_at v (part_at at parts i) row)

-- g 0, g 1 up to g (n - 1), one after another
unfoldable pub iterate : ℕ → (ℕ → List Float → List Float) → List Float → List Float
iterate Nat.zero g out = out
iterate (suc n) g out = g n (iterate n g out)

-- the pick of group g
unfoldable pub group_pick : List Float → List ℕ → Float → ℕ → Pick
unfolding pick_of
group_pick v groups u g = let a = get_or groups g 0 in shifted a (pick_of (slice a (get_or groups (g + 1) 0) v) u)

-- the response at u added, group after group
unfoldable pub response_added : List ℕ → List ℕ → List Float → List ℕ → ℕ → Float → List Float → List Float
unfolding iterate pick_added group_pick
response_added at parts v groups count u row = iterate count (λ (g : ℕ). pick_added at parts (group_pick v groups u g)) row

-- ---- what the lists keep to

-- n coordinates' anchors are within `at`, and each has one of 24 places
pub record Parted (at parts : List ℕ) (n : ℕ) : Type 0 where
  pub many : n < length parts
  pub ends : (i : ℕ) → i ≤ n → get_or parts i 0 ≤ length at
  pub places : (i a : ℕ) → i ≤ n → a < get_or parts i 0 → get_or at a 0 < 24

-- each group has a coordinate, and its coordinates are finite
pub record Grouped (v : List Float) (groups : List ℕ) (count : ℕ) : Type 0 where
  pub many : count < length groups
  pub some : (g : ℕ) → g < count → get_or groups g 0 < get_or groups (g + 1) 0
  pub ends : (g : ℕ) → g < count → get_or groups (g + 1) 0 ≤ get_or groups count 0
  pub within : get_or groups count 0 ≤ length v
  pub finites : (g i : ℕ) → g < count → get_or groups g 0 ≤ i → i < get_or groups (g + 1) 0 → T (finite (get_or v i nan))
