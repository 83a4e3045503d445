-- A place of the store: which number stands where, and the store with a place filled. Definitions only.
use Rattle.std.specs.Prelude.{ℕ, ◌-◌, ◌*◌, ◌/◌, ◌%◌, Bool, ◌&&◌, ◌||◌, not, cond, List, [], ◌∷◌, leb, ltb, eqb, Float, length, get_or}
use Rattle.std.specs.Float.{nan}
use Rattle.doubles.specs.Arithmetic.{zero64, one64}
use Rattle.layout.specs.Topology.{TopologyLayer}
use Rattle.layout.specs.Questions.{first_no, layout_questions}
use Rattle.layout.specs.Room.{Room, names_in}
use Rattle.keys.specs.InKey.{layout_in, room_in}
use Rattle.field.specs.Knots.{X, Y, Z}
use Rattle.field.specs.Responses.{response_on}
use Rattle.field.specs.Tables.{sampled_on}
use Rattle.field.specs.Patched.{patched}

-- A place is rows of n numbers, one for each active channel: X (700 rows: centre, radius), Y (700), Z (80), then the end responses X0 X1 Y0 Y1 Z0 Z1.
unfoldable pub end_numbers : List TopologyLayer → ℕ → List Float
unfolding response_on
end_numbers t name =
    response_on X t zero64 name
    ∷ response_on X t one64 name
    ∷ response_on Y t zero64 name
    ∷ response_on Y t one64 name
    ∷ response_on Z t zero64 name
    ∷ response_on Z t one64 name
    ∷ []

unfoldable pub row_number : List TopologyLayer → ℕ → ℕ → Float
unfolding sampled_on end_numbers
row_number t r name =
    cond (ltb r 700) (sampled_on X t (r / 20) (r % 20) name)
    (cond (ltb r 1400) (sampled_on Y t ((r - 700) / 20) ((r - 700) % 20) name)
    (cond (ltb r 1480) (sampled_on Z t ((r - 1400) / 20) ((r - 1400) % 20) name) (get_or (end_numbers t name) (r - 1480) nan)))

-- the rows of Z, Z0 and Z1
abbrev pub row_of_z : ℕ → Bool
row_of_z r = (leb 1400 r && ltb r 1480) || leb 1484 r

-- with one layer Z, Z0 and Z1 are not written
abbrev pub row_written : List TopologyLayer → ℕ → Bool
row_written t r = ltb r 1486 && (ltb 1 (length t) || not (row_of_z r))

-- the k-th number of a place
unfoldable pub place_number : List TopologyLayer → List ℕ → ℕ → Float
unfolding row_number
place_number t names k = row_number t (k / length names) (get_or names (k % length names) 0)

-- the store with the field of a room written into the place that begins at base
unfoldable pub filled_from : Room → ℕ → List Float → List Float
unfolding patched place_number
filled_from r base store =
    let t = r.layers in
    let names = names_in r in
    patched
    (λ (i : ℕ). leb base i && row_written t ((i - base) / length names))
    (λ (i : ℕ). place_number t names (i - base))
    store

-- how many doubles a place has, and how many a store of eight places
abbrev pub place_size : ℕ
place_size = 35664

abbrev pub store_size : ℕ
store_size = 285312

-- place p begins at 35,664 × p
abbrev pub place_start : ℕ → ℕ
place_start p = place_size * p

-- the store with place p filled with the field of a room
unfoldable pub filled : Room → ℕ → List Float → List Float
unfolding filled_from
filled r p store = filled_from r (place_start p) store

-- what `fill_place` asks: questions 1 to 6 of the layout in a key, a store of eight places, and one of them
abbrev pub fillable : List ℕ → ℕ → List Float → Bool
fillable key p store = eqb (first_no (layout_questions (layout_in key))) 0 && leb store_size (length store) && ltb p 8

-- where it is so, the place is filled with the field of the room in the key; else the store stays
abbrev pub filled_where : List ℕ → ℕ → List Float → List Float
filled_where key p store = cond (fillable key p store) (filled (room_in key) p store) store
