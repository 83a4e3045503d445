-- Every number of the place of a room is clear. Assumes nothing.
use Prim.Native.Nat.{ℕ}
use lib.Dec.{T}
use lib.Ieee.{fits, le, lt, eq}
use Rattle.doubles.specs.Arithmetic.{one64, zero64}
use Rattle.doubles.proofs.Signs.{clear}
use Rattle.layout.specs.Room.{Room, names_in}
use Rattle.layout.proofs.SoundRoom.{SoundRoom}
use Rattle.field.specs.Place.{place_number}
use Rattle.field.proofs.ResponseWeights.{response_clear}
use Rattle.field.proofs.PlaceNumbers.{place_clear}

pub room_place_clear : (r : Room) → SoundRoom r → (k : ℕ) → T (clear (place_number r.layers (names_in r) k))
unfolding fits le lt eq
room_place_clear r s =
    place_clear r.layers
    (λ axis name. response_clear axis r.layers zero64 name s.z_ordered s.layers_ordered s.doubles tt tt tt)
    (λ axis name. response_clear axis r.layers one64 name s.z_ordered s.layers_ordered s.doubles tt tt tt)
    (names_in r)
