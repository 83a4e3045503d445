-- A layout made entry by entry. Definitions only.
use Rattle.std.specs.Prelude.{ℕ, ◌+◌, ◌-◌, ◌^◌, Bool, false, ◌&&◌, cond, List, ltb, leb, Float, replicate, set, get_or, length}
use Rattle.doubles.specs.Arithmetic.{zero64}
use Rattle.layout.specs.declared.Channel.{Channel}
use Rattle.layout.specs.declared.Anchor.{Anchor}
use Rattle.layout.specs.declared.Row.{Row}
use Rattle.layout.specs.declared.Layer.{Layer}
use Rattle.layout.specs.declared.Layout.{Layout}
use Rattle.layout.specs.Topology.{used_rows, used_anchors}
use Rattle.layout.specs.Steps.Starts.{no_row, no_layer}

-- no channels and no layers
abbrev pub empty_layout : Layout
empty_layout =
    record {
      channels = replicate 24 (record { name = 0; enabled = false; lfe = false });
      used = 0;
      layers = replicate 4 (record { z = zero64; count = 0 });
      depth = 0;
      rows = replicate 24 (record { y = zero64; count = 0 });
      anchors = replicate 24 (record { name = 0; x = zero64 });
    }

-- one more, and the largest count stays
abbrev pub one_more : ℕ → ℕ
one_more n = cond (ltb n (2 ^ 64 - 1)) (n + 1) n

-- a list with x at a place; where there is no such place, the list itself
abbrev pub put : {A : Type 0} → List A → ℕ → A → List A
put l i x = cond (ltb i (length l)) (set l i x) l

-- one channel more. Without a place for it only the count rises
abbrev pub with_channel : Layout → Channel → Layout
with_channel l c = record { channels = put l.channels l.used c; used = one_more l.used; layers = l.layers; depth = l.depth; rows = l.rows; anchors = l.anchors }

-- one layer more, with no rows. Without a place for it only the count rises
abbrev pub with_layer : Layout → Float → Layout
with_layer l z = record { channels = l.channels; used = l.used; layers = put l.layers l.depth (record { z = z; count = 0 }); depth = one_more l.depth; rows = l.rows; anchors = l.anchors }

-- the layer with one row more, and the row with one anchor more
abbrev pub with_row_in : Layer → Layer
with_row_in l = record { z = l.z; count = one_more l.count }

abbrev pub with_anchor_in : Row → Row
with_anchor_in r = record { y = r.y; count = one_more r.count }

-- ---- the last layer, where there is one with a place, and its last row
abbrev pub has_layer : Layout → Bool
has_layer l = leb 1 l.depth && leb l.depth 4

abbrev pub last_layer : Layout → Layer
last_layer l = get_or l.layers (l.depth - 1) no_layer

abbrev pub has_row : Layout → Bool
has_row l = has_layer l && leb 1 (last_layer l).count

abbrev pub last_row : Layout → Row
last_row l = get_or l.rows (length (used_rows l) - 1) no_row

-- one row more in the last layer, with no anchors. Without a place for it only the layer's count rises; without a layer nothing changes
unfoldable pub with_row : Layout → Float → Layout
with_row l y =
    cond (has_layer l)
    (record {
      channels = l.channels;
      used = l.used;
      layers = set l.layers (l.depth - 1) (with_row_in (last_layer l));
      depth = l.depth;
      rows = put l.rows (length (used_rows l)) (record { y = y; count = 0 });
      anchors = l.anchors;
    })
    l

-- one anchor more in the last row. Without a place for it only the row's count rises; where the last layer has no row nothing changes
unfoldable pub with_anchor : Layout → Anchor → Layout
with_anchor l a =
    cond (has_row l)
    (record {
      channels = l.channels;
      used = l.used;
      layers = l.layers;
      depth = l.depth;
      rows = set l.rows (length (used_rows l) - 1) (with_anchor_in (last_row l));
      anchors = put l.anchors (length (used_anchors l)) a;
    })
    l
