-- The channels of a layout. Definitions only.
use Rattle.std.specs.Prelude.{ℕ, Bool, false, ◌&&◌, not, List, map, take, length}
use Rattle.std.specs.List.{filter}
use Rattle.layout.specs.declared.Channel.{Channel}
use Rattle.layout.specs.declared.Layout.{Layout}

-- entries past the count are no part of the layout
abbrev pub channels_of : Layout → List Channel
channels_of l = take l.used l.channels

-- enabled and not LFE
abbrev pub active : Channel → Bool
active c = c.enabled && not c.lfe

abbrev pub channel_name : Channel → ℕ
channel_name c = c.name

-- the names of the active channels, in list order
abbrev pub active_names : Layout → List ℕ
active_names l = map channel_name (filter active (channels_of l))

-- n: how many channels are active
abbrev pub active_count : Layout → ℕ
active_count l = length (active_names l)

-- what stands past the end of a list of channels
abbrev pub no_channel : Channel
no_channel = record { name = 0; enabled = false; lfe = false }
