-- Equality of rooms as a key has it: doubles compared as numbers, so that −0 equals 0. Definitions only.
use Rattle.std.specs.Prelude.{Bool, ◌&&◌, eqb}
use Rattle.std.specs.Bool.{beq}
use Rattle.std.specs.Float.Ieee.{eq}
use Rattle.lists.specs.Lists.{all_same}
use Rattle.layout.specs.declared.Channel.{Channel}
use Rattle.layout.specs.declared.Anchor.{Anchor}
use Rattle.layout.specs.Topology.{TopologyRow, TopologyLayer}
use Rattle.layout.specs.Room.{Room}

abbrev pub same_channel : Channel → Channel → Bool
same_channel a b = eqb a.name b.name && beq a.enabled b.enabled && beq a.lfe b.lfe

abbrev pub same_anchor : Anchor → Anchor → Bool
same_anchor a b = eqb a.name b.name && eq a.x b.x

abbrev pub same_row : TopologyRow → TopologyRow → Bool
same_row a b = eq a.y b.y && all_same same_anchor a.anchors b.anchors

abbrev pub same_layer : TopologyLayer → TopologyLayer → Bool
same_layer a b = eq a.z b.z && all_same same_row a.rows b.rows

unfoldable pub same_room : Room → Room → Bool
same_room a b = all_same same_channel a.channels b.channels && all_same same_layer a.layers b.layers
