-- The place begins where `filled` says.
use mathlib.Core.Path.{◌∙◌, ap}
use native.Mathlib.Omega.{arith}
use Prim.Native.Nat.{◌-◌, ◌*◌}
use lib.ListN.{length}
use borrow.Rule.Slice.PartMut.{put_mid}
use Rattle.layout.specs.Room.{room_of}
use Rattle.field.specs.Place.{filled}
use Rattle.field.proofs.PlaceRows.{place_from}
use Rattle.field.proofs.place.fill.Goals as goal

pub returns : goal.returns
unfolding filled
returns c =
    let a = c.args in
    let s = a.store.now in
    ap (put_mid (35664 * a.p) (length s - 35664 * a.p) s) (rw c.new.ensures at c.fill_rows.ensures)
    ∙ place_from (room_of a.l) (35664 * a.p) s (omega (arith, c.requires.0, c.requires.1))
