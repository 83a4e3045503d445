-- The number of layers in the key of an accepted room is how many layers the room has.
use mathlib.Core.Path.{sym, ap, ◌∙◌}
use lib.Dec.{ltb}
use Rattle.keys.specs.InKey.{layout_in}
use Rattle.keys.proofs.InKey.{sized}
use Rattle.keys.proofs.InKey as inKey
use Rattle.layout.proofs.RoomLists.{depth_is}
use Rattle.layout.proofs.QuestionsAccepted.{accepted}
use Rattle.selector.proofs.room_key.RoomKey.has_z.Goals as goal

pub returns : goal.returns
returns c =
    let s = c.args.self in
    let l = layout_in s.key.now in
    let z = sized s.key.now s.long in
    ap (ltb 1) (sym (depth_is l z (accepted l z.channels z.layers z.rows z.anchors s.accepted) ∙ inKey.depth_is s.key.now s.long))
