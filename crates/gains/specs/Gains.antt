-- Normalising and the blend: the gains of an object over a place. Definitions only.
use Rattle.std.specs.Prelude.{ℕ, Bool, ◌&&◌, ◌||◌, cond, List, ◌++◌, map, leb, ltb, eqb, pos, Float, length, take, drop}
use Rattle.std.specs.Float.{binary64}
use Rattle.std.specs.Float.Ieee.{lt, le}
use Rattle.std.specs.Float.Ieee.Scale.{finite}
use Rattle.doubles.specs.Arithmetic.{◌⊕◌, ◌⊗◌, ◌⊘◌, dec, from_int, one64, zero64}
use Rattle.approximations.specs.Circular.{sine_of, cosine_of}
use Rattle.doubles.specs.Norm.{sum_squares}
use Rattle.doubles.specs.Range.{clamp_to}
use Rattle.doubles.specs.Root.{sqrt_of}
use Rattle.layout.specs.declared.Centre.{Centre}
use Rattle.gains.specs.declared.Blend.{Blend}
use Rattle.gains.specs.declared.Blend.TheVariants.{Point, Both, Field}
use Rattle.lists.specs.Lists.{zip_with}
use Rattle.extent.specs.Kernel.{threshold}
use Rattle.gains.specs.Lookup.{channels}
use Rattle.gains.specs.Diffuse.{Rows, place_rows, diffuse_of}
use Rattle.field.specs.Place.{place_start, store_size}

-- squares folded in channel order from 0, product rounded, then sum; each over the root. Folded sum 0 or not finite: all 0
unfoldable pub normalized_of : List Float → List Float
unfolding sqrt_of
normalized_of v = let s = sum_squares v in cond (finite s && lt zero64 s) (map (λ (x : Float). x ⊘ sqrt_of binary64 s) v) (map (λ (x : Float). zero64) v)

-- ---- the blend: mean 0 or radius below 0.000025, the point gains; radius ≤ 0.05, both; else the field
abbrev pub both_of : Float → Blend
both_of r =
    let a = dec 3141592653589793 15 ⊗ clamp_to zero64 one64 (from_int (pos 20) ⊗ r) ⊘ from_int (pos 2) in
    Both (dec 5 1 ⊗ cosine_of a) (dec 5 1 ⊗ sine_of a)

unfoldable pub blend_of : ℕ → Float → Blend
unfolding clamp_to cosine_of sine_of
blend_of mean r = cond (eqb mean 0 || lt r threshold) Point (cond (le r (dec 5 2)) (both_of r) Field)

-- both: the weighted sum; field: a half of it; both normalised again
unfoldable pub blended : Blend → List Float → List Float → List Float
unfolding normalized_of
blended Point points field = points
blended (Both a b) points field = normalized_of (zip_with (λ (p d : Float). a ⊗ p ⊕ b ⊗ d) points field)
blended Field points field = normalized_of (map (λ (d : Float). dec 5 1 ⊗ d) field)

-- ---- the centre is clamped to 0..1
abbrev pub clamped_centre : Centre → Centre
clamped_centre c = record { x = clamp_to zero64 one64 c.x; y = clamp_to zero64 one64 c.y; z = clamp_to zero64 one64 c.z }

-- the rows of channel k in place p of the store
abbrev pub rows_in : List Float → ℕ → ℕ → ℕ → Rows
rows_in store p n = place_rows store (place_start p) n

-- the gains of an object: rows of each of n channels, whether there is Z, mean and radius, centre and point gains
unfoldable pub gains_of : (ℕ → Rows) → ℕ → Bool → ℕ → Float → Centre → List Float → List Float
unfolding blend_of blended diffuse_of clamp_to normalized_of
gains_of rows n deep mean r c points = blended (blend_of mean r) points (normalized_of (channels n (λ (k : ℕ). diffuse_of (rows k) deep (clamped_centre c) r)))

-- ---- what `project` asks: one of eight places in the store, at most 24 channels, and point gains and slots for each
abbrev pub projectable : ℕ → ℕ → ℕ → ℕ → ℕ → Bool
projectable size p n given room = ltb p 8 && leb n 24 && leb store_size size && leb n given && leb n room

-- what it leaves in the gains: the first n slots written, later ones left
unfoldable pub projected : List Float → ℕ → ℕ → Bool → ℕ → Float → Centre → List Float → List Float → List Float
unfolding gains_of
projected store p n deep mean r c points gains =
    cond (projectable (length store) p n (length points) (length gains)) (gains_of (rows_in store p n) n deep mean r c (take n points) ++ drop n gains) gains
