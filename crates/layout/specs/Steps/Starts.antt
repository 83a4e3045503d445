-- Where each part of a layout begins: the sums of the counts before it, none above 24, which is as far as the places reach; and what stands past the end of a list. Definitions only.
use Rattle.std.specs.Prelude.{ℕ, ◌+◌, min, List, [], ◌∷◌, map, get_or}
use Rattle.std.specs.Float.{nan}
use Rattle.lists.specs.Lists.{index_of}
use Rattle.layout.specs.Channels.{active_names}
use Rattle.layout.specs.declared.Anchor.{Anchor}
use Rattle.layout.specs.declared.Row.{Row}
use Rattle.layout.specs.declared.Layer.{Layer}
use Rattle.layout.specs.declared.Layout.{Layout}
use Rattle.layout.specs.Topology.{row_count, layer_count}

abbrev pub starts_from : ℕ → List ℕ → List ℕ
starts_from s [] = s ∷ []
starts_from s (c ∷ cs) = s ∷ starts_from (min (s + c) 24) cs

abbrev pub row_starts : Layout → List ℕ
row_starts l = starts_from 0 (map layer_count l.layers)

abbrev pub anchor_starts : Layout → List ℕ
anchor_starts l = starts_from 0 (map row_count l.rows)

-- where each layer's anchors begin
abbrev pub layer_starts : Layout → List ℕ
layer_starts l = map (λ (r : ℕ). get_or (anchor_starts l) r 0) (row_starts l)

-- the place, among the active channels, of the channel that an anchor names
abbrev pub anchor_index : Layout → Anchor → ℕ
anchor_index l a = index_of a.name (active_names l)

-- ---- what stands past the end of a list
abbrev pub no_anchor : Anchor
no_anchor = record { name = 0; x = nan }

abbrev pub no_row : Row
no_row = record { y = nan; count = 0 }

abbrev pub no_layer : Layer
no_layer = record { z = nan; count = 0 }
