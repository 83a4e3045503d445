-- The layout in a key: what any 156 numbers hold. Definitions only.
use Rattle.std.specs.Prelude.{ℕ, ◌||◌, List, eqb, Float, get_or}
use Rattle.std.specs.Float.{binary64}
use Rattle.std.specs.Float.Ieee.{of_bits}
use Rattle.std.proofs.Math.Seq.{slice}
use Rattle.lists.specs.Lists.{zip_with}
use Rattle.layout.specs.declared.Channel.{Channel}
use Rattle.layout.specs.declared.Layer.{Layer}
use Rattle.layout.specs.declared.Row.{Row}
use Rattle.layout.specs.declared.Anchor.{Anchor}
use Rattle.layout.specs.declared.Layout.{Layout}
use Rattle.layout.specs.Room.{Room, room_of}

-- the double of a pattern
abbrev pub double : ℕ → Float
double b = of_bits binary64 b

-- flags 1 and 3 say enabled, 2 and 3 LFE
abbrev pub channel_in : ℕ → ℕ → Channel
channel_in name flags = record { name = name; enabled = eqb flags 1 || eqb flags 3; lfe = eqb flags 2 || eqb flags 3 }

abbrev pub layer_in : ℕ → ℕ → Layer
layer_in count z = record { z = double z; count = count }

abbrev pub row_in : ℕ → ℕ → Row
row_in count y = record { y = double y; count = count }

abbrev pub anchor_in : ℕ → ℕ → Anchor
anchor_in name x = record { name = name; x = double x }

-- where the parts of a key begin
abbrev pub flags_at : ℕ
flags_at = 24

abbrev pub layer_counts_at : ℕ
layer_counts_at = 48

abbrev pub row_counts_at : ℕ
row_counts_at = 52

abbrev pub anchor_names_at : ℕ
anchor_names_at = 76

abbrev pub zs_at : ℕ
zs_at = 100

abbrev pub ys_at : ℕ
ys_at = 104

abbrev pub xs_at : ℕ
xs_at = 128

abbrev pub used_at : ℕ
used_at = 152

abbrev pub depth_at : ℕ
depth_at = 153

unfoldable pub layout_in : List ℕ → Layout
layout_in key =
    record {
      channels = zip_with channel_in (slice 0 flags_at key) (slice flags_at layer_counts_at key);
      used = get_or key used_at 0;
      layers = zip_with layer_in (slice layer_counts_at row_counts_at key) (slice zs_at ys_at key);
      depth = get_or key depth_at 0;
      rows = zip_with row_in (slice row_counts_at anchor_names_at key) (slice ys_at xs_at key);
      anchors = zip_with anchor_in (slice anchor_names_at zs_at key) (slice xs_at used_at key);
    }

-- the room in a key
abbrev pub room_in : List ℕ → Room
room_in key = room_of (layout_in key)
