-- `project` by its test: what is left in the gains. Assumes nothing.
use Prim.Native.Nat.{ℕ}
use mathlib.Core.Path.{◌≡◌}
use mathlib.Core.Bool.{Bool, true, false}
use mathlib.Core.List.{List, ◌++◌}
use lib.Ieee.{Float}
use lib.ListN.{length, take, drop}
use Rattle.layout.specs.declared.Centre.{Centre}
use Rattle.gains.specs.Lookup.{channels}
use Rattle.gains.specs.Diffuse.{diffuse_of}
use Rattle.gains.specs.Gains.{normalized_of, blended, blend_of, clamped_centre, rows_in, gains_of, projectable, projected}

-- the field, normalised
abbrev pub field_of : List Float → ℕ → ℕ → Bool → Float → Centre → List Float
field_of store p n deep r c = normalized_of (channels n (λ (k : ℕ). diffuse_of (rows_in store p n k) deep (clamped_centre c) r))

module _ (store : List Float) (p n : ℕ) (deep : Bool) (mean : ℕ) (r : Float) (c : Centre) (points gains : List Float) where
  pub projected_yes : projectable (length store) p n (length points) (length gains) ≡ true → blended (blend_of mean r) (take n points) (field_of store p n deep r c) ++ drop n gains ≡ projected store p n deep mean r c points gains
  unfolding projected gains_of
  projected_yes h = rw h

  pub projected_no : projectable (length store) p n (length points) (length gains) ≡ false → gains ≡ projected store p n deep mean r c points gains
  unfolding projected
  projected_no h = rw h
