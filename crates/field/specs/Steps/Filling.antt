-- What the code holds and writes on the way to a filled place. Definitions only.
use Rattle.std.specs.Prelude.{ℕ, ◌*◌, ◌/◌, ◌<◌, List, [], ◌≡◌, Float, length, get_or, replicate}
use Rattle.std.specs.Float.{nan, binary64}
use Rattle.std.specs.Float.Ieee.{of_bits}
use Rattle.layout.specs.declared.Layout.{Layout}
use Rattle.layout.specs.Channels.{active_names, active_count}
use Rattle.layout.specs.Topology.{topology_of}
use Rattle.layout.specs.Room.{Room, names_in}
use Rattle.field.specs.Knots.{Axis, sample_count, sample}
use Rattle.field.specs.Responses.{response_on}
use Rattle.field.specs.Patched.{patched, within}
use Rattle.field.specs.Place.{row_written, place_number}

-- a row of responses for each sample: those of the active channels
pub record ResponsesOn (a : Axis) (l : Layout) (rows : List (List Float)) : Type 0 where
  pub values : (s k : ℕ) → s < sample_count a → k < active_count l → get_or (get_or rows s []) k nan ≡ response_on a (topology_of l) (sample a s) (get_or (active_names l) k 0)

-- a row in which no response is added
abbrev pub no_responses : List Float
no_responses = replicate 24 (of_bits binary64 0)

-- rows a up to b of a place written
abbrev pub rows_filled : Layout → ℕ → ℕ → List Float → List Float
rows_filled l a b place = patched (within (a * active_count l) (b * active_count l)) (place_number (topology_of l) (active_names l)) place

-- the rows of X and Y, and those of Z
abbrev pub filled_xy : Layout → List Float → List Float
filled_xy l place = rows_filled l 1480 1484 (rows_filled l 0 1400 place)

abbrev pub filled_z : Layout → List Float → List Float
filled_z l place = rows_filled l 1484 1486 (rows_filled l 1400 1480 place)

-- a place with the field of a room written into it
unfoldable pub place_filled : Room → List Float → List Float
unfolding patched place_number
place_filled r place =
    let t = r.layers in
    let names = names_in r in
    patched (λ (i : ℕ). row_written t (i / length names)) (place_number t names) place
