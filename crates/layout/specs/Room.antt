-- A room as lists: what a layout is once its counts have been asked about; entries past a count are no part of it. Definitions only.
use Rattle.std.specs.Prelude.{ℕ, List, map, length}
use Rattle.lists.specs.Lists.{flatten}
use Rattle.std.specs.List.{filter}
use Rattle.layout.specs.declared.Channel.{Channel}
use Rattle.layout.specs.declared.Anchor.{Anchor}
use Rattle.layout.specs.declared.Layout.{Layout}
use Rattle.layout.specs.Channels.{channels_of, channel_name, active}
use Rattle.layout.specs.Topology.{TopologyRow, TopologyLayer, topology_of}

pub record Room : Type 0 where
  pub channels : List Channel
  pub layers : List TopologyLayer

-- the room of a layout
abbrev pub room_of : Layout → Room
room_of l = record { channels = channels_of l; layers = topology_of l }

-- the names of the active channels, in list order, and n: how many there are
abbrev pub names_in : Room → List ℕ
names_in r = map channel_name (filter active r.channels)

abbrev pub active_in : Room → ℕ
active_in r = length (names_in r)

-- all rows, layer after layer, and all anchors, row after row
abbrev pub rows_in : Room → List TopologyRow
rows_in r = flatten (map (λ (y : TopologyLayer). y.rows) r.layers)

abbrev pub anchors_in : Room → List Anchor
anchors_in r = flatten (map (λ (w : TopologyRow). w.anchors) (rows_in r))
