-- Same rooms fill a place alike: no number of a place depends on the sign of a zero coordinate. Assumes nothing.
use Prim.Native.Nat.{ℕ, ◌-◌, ◌/◌, ◌%◌}
use mathlib.Core.Path.{◌≡◌, refl, sym, ap, ap₂, ◌∙◌}
use mathlib.Core.Bool.{Bool, ◌&&◌, ◌||◌, not, cond}
use mathlib.Core.List.{List, map}
use lib.Dec.{T, leb, ltb}
use lib.Ieee.{Float, nan}
use lib.Ieee.Scale.{finite}
use lib.ListN.{length, get_or}
use Rattle.doubles.specs.Arithmetic.{one64, zero64}
use Rattle.std.specs.List.{filter}
use Rattle.layout.specs.declared.Channel.{Channel}
use Rattle.layout.specs.Channels.{active, channel_name}
use Rattle.layout.specs.Topology.{TopologyLayer}
use Rattle.layout.specs.Room.{Room, names_in, active_in}
use Rattle.layout.specs.Same.{same_room}
use Rattle.layout.proofs.SameRooms.{same_channels}
use Rattle.layout.proofs.SoundRoom.{SoundRoom}
use Rattle.layout.proofs.TopologyCut.{mapped_layer}
use Rattle.keys.proofs.Back.{back, back_alike}
use Rattle.extent.specs.Kernel.{kernel_of, exponent_of}
use Rattle.field.specs.Knots.{Axis, X, Y, Z, is_z, sample_count, sample, centre_knot, radius_knot}
use Rattle.field.specs.Responses.{response_on}
use Rattle.field.specs.Tables.{sampled_on}
use Rattle.field.specs.Place.{end_numbers, row_number, row_of_z, row_written, place_number, place_start, filled_from, filled}
use Rattle.field.proofs.Patching.{patched_cong}
use Rattle.field.proofs.ResponseSamples.{sample_finite}
use Rattle.field.proofs.Tables.{sampled_cong}
use Rattle.field_laws.proofs.SameTopologies.{TopologyAlike, each_length, same_topology, mapped_topology}
use Rattle.field_laws.proofs.SameResponses.{response_same}

-- ---- where the responses are the same, so are the numbers made of them
module _ (t v : List TopologyLayer) (responses : (axis : Axis) (u : Float) (name : ℕ) → T (finite u) → response_on axis t u name ≡ response_on axis v u name) where
  sampled_same : (axis : Axis) (i j name : ℕ) → sampled_on axis t i j name ≡ sampled_on axis v i j name
  unfolding sampled_on
  sampled_same axis i j name =
      let kernel : ℕ → Float = λ s. kernel_of (sample axis s) (centre_knot axis i) (radius_knot j) (is_z axis) in
      sampled_cong kernel kernel (λ s. response_on axis t (sample axis s) name) (λ s. response_on axis v (sample axis s) name) (exponent_of (radius_knot j)) (sample_count axis)
      (λ s l. refl) (λ s l. responses axis (sample axis s) name (sample_finite axis s l))

  ends_same : (name : ℕ) → end_numbers t name ≡ end_numbers v name
  unfolding end_numbers
  ends_same name =
      rw (responses X zero64 name tt, responses X one64 name tt, responses Y zero64 name tt, responses Y one64 name tt, responses Z zero64 name tt, responses Z one64 name tt)

  row_same : (r name : ℕ) → row_number t r name ≡ row_number v r name
  unfolding row_number
  row_same r name =
      ap₂ (cond (ltb r 700)) (sampled_same X (r / 20) (r % 20) name)
      (ap₂ (cond (ltb r 1400)) (sampled_same Y ((r - 700) / 20) ((r - 700) % 20) name)
      (ap₂ (cond (ltb r 1480)) (sampled_same Z ((r - 1400) / 20) ((r - 1400) % 20) name) (ap (λ (l : List Float). get_or l (r - 1480) nan) (ends_same name))))

  number_same : (names others : List ℕ) → names ≡ others → (k : ℕ) → place_number t names k ≡ place_number v others k
  unfolding place_number
  number_same names others e k =
      row_same (k / length names) (get_or names (k % length names) 0)
      ∙ ap (λ (l : List ℕ). row_number v (k / length l) (get_or l (k % length l) 0)) e

-- ---- the laws
module _ (a b : Room) (sound : SoundRoom a) (channels : a.channels ≡ b.channels) (alike : TopologyAlike a.layers b.layers) where
  alike_response : (axis : Axis) (u : Float) (name : ℕ) → T (finite u) → response_on axis a.layers u name ≡ response_on axis b.layers u name
  alike_response axis u name f = response_same u f a.layers b.layers alike sound.z_ordered sound.layers_ordered axis name

  alike_names : names_in a ≡ names_in b
  alike_names = ap (λ (l : List Channel). map channel_name (filter active l)) channels

  alike_written : (r : ℕ) → row_written a.layers r ≡ row_written b.layers r
  alike_written r = ap (λ (n : ℕ). ltb r 1486 && (ltb 1 n || not (row_of_z r))) (each_length alike)

  alike_place : (k : ℕ) → place_number a.layers (names_in a) k ≡ place_number b.layers (names_in b) k
  alike_place = number_same a.layers b.layers alike_response (names_in a) (names_in b) alike_names

  -- rooms with the same channels and topologies that are alike fill a place alike
  pub alike_filled : (p : ℕ) (store : List Float) → filled a p store ≡ filled b p store
  unfolding filled filled_from
  alike_filled p store =
      patched_cong
      (λ i. leb (place_start p) i && row_written a.layers ((i - place_start p) / active_in a))
      (λ i. leb (place_start p) i && row_written b.layers ((i - place_start p) / active_in b))
      (λ i. place_number a.layers (names_in a) (i - place_start p))
      (λ i. place_number b.layers (names_in b) (i - place_start p))
      store
      (λ i l.
      ap (λ (w : Bool). leb (place_start p) i && w)
      (alike_written ((i - place_start p) / active_in a) ∙ ap (λ (n : List ℕ). row_written b.layers ((i - place_start p) / length n)) alike_names))
      (λ i l w. alike_place (i - place_start p))

-- same rooms do
module _ (a b : Room) (sound : SoundRoom a) (other : SoundRoom b) (h : T (same_room a b)) where
  alike : TopologyAlike a.layers b.layers
  alike = same_topology a b sound.doubles other.doubles h

  pub same_filled : (p : ℕ) (store : List Float) → filled a p store ≡ filled b p store
  same_filled = alike_filled a b sound (same_channels a b h) alike

-- and a room with the coordinates that the patterns of its key stand for
pub back_filled : (r : Room) → SoundRoom r → (p : ℕ) (store : List Float) → filled (record { channels = r.channels; layers = map (mapped_layer back) r.layers }) p store ≡ filled r p store
back_filled r sound p store =
    sym (alike_filled r (record { channels = r.channels; layers = map (mapped_layer back) r.layers }) sound refl (mapped_topology back back_alike r.layers sound.doubles) p store)
