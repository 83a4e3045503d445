-- A key as `pack` writes it, from a layout whose counts may say more than there is. Definitions only.
use Rattle.std.specs.Prelude.{ℕ, List, [], ◌∷◌, ◌++◌, map}
use Rattle.std.proofs.Math.Seq.{paste}
use Rattle.layout.specs.declared.Layer.{Layer}
use Rattle.layout.specs.declared.Row.{Row}
use Rattle.layout.specs.declared.Anchor.{Anchor}
use Rattle.layout.specs.declared.Layout.{Layout}
use Rattle.layout.specs.Channels.{channels_of, channel_name}
use Rattle.layout.specs.Topology.{used_layers, used_rows, used_anchors, layer_count, layer_z, row_count, row_y, anchor_name, anchor_x}
use Rattle.keys.specs.Keys.{filled_to, flag_number, pattern}

abbrev pub z_pattern : Layer → ℕ
z_pattern y = pattern (layer_z y)

abbrev pub y_pattern : Row → ℕ
y_pattern r = pattern (row_y r)

abbrev pub x_pattern : Anchor → ℕ
x_pattern a = pattern (anchor_x a)

-- the numbers of a layout, as far as its arrays reach; those of its room where questions 1 to 6 are all answered yes
unfoldable pub packed_numbers : Layout → ℕ → List ℕ
packed_numbers l epoch =
    filled_to 24 (map channel_name (channels_of l))
    ++ filled_to 24 (map flag_number (channels_of l))
    ++ filled_to 4 (map layer_count (used_layers l))
    ++ filled_to 24 (map row_count (used_rows l))
    ++ filled_to 24 (map anchor_name (used_anchors l))
    ++ filled_to 4 (map z_pattern (used_layers l))
    ++ filled_to 24 (map y_pattern (used_rows l))
    ++ filled_to 24 (map x_pattern (used_anchors l))
    ++ (l.used ∷ l.depth ∷ epoch ∷ 0 ∷ [])

-- the first n of xs from place a on, and of ys from place b on
abbrev pub two_parts : ℕ → List ℕ → ℕ → List ℕ → ℕ → List ℕ → List ℕ
two_parts a xs b ys n key = paste (paste key a xs n) b ys n
