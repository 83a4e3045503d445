-- What a layout with six answers "yes" guarantees, in the words of the code that walks its flat lists. Definitions only.
use Rattle.std.specs.Prelude.{ℕ, suc, ◌≤◌, ◌<◌, ◌≡◌, map, T, length, get_or, take}
use Rattle.std.proofs.Math.Seq.{slice}
use Rattle.lists.specs.Lists.{elem, all_distinct, total}
use Rattle.std.specs.List.{list_all}
use Rattle.layout.specs.declared.Layout.{Layout}
use Rattle.layout.specs.Name.{valid_name}
use Rattle.layout.specs.Channels.{channels_of, channel_name, active_names, active_count}
use Rattle.layout.specs.Topology.{topology_of, used_layers, used_rows, used_anchors, anchor_x, row_y, row_count, layer_z, layer_count}
use Rattle.layout.specs.Steps.Starts.{row_starts, anchor_starts, no_row, no_layer, no_anchor}
use Rattle.layout.specs.Questions.{ordered, ordered_layer, topology_z}

pub record Accepted (l : Layout) : Type 0 where
  -- 1 to 24 channels, 1 to 4 layers, 1 to 24 active channels
  pub some_channels : 1 ≤ l.used
  pub few_channels : l.used ≤ 24
  pub some_layers : 1 ≤ l.depth
  pub few_layers : l.depth ≤ 4
  pub some_active : 1 ≤ active_count l
  pub few_active : active_count l ≤ 24
  -- each layer has 1 to 6 rows, each row an anchor
  pub some_rows : (i : ℕ) → i < l.depth → 1 ≤ (get_or l.layers i no_layer).count
  pub few_rows : (i : ℕ) → i < l.depth → (get_or l.layers i no_layer).count ≤ 6
  pub some_anchors : (i : ℕ) → i < length (used_rows l) → 1 ≤ (get_or l.rows i no_row).count
  -- at most 24 rows and 24 anchors in all, and the lists have as many as the counts say
  pub most_rows : length (used_rows l) ≤ 24
  pub most_anchors : length (used_anchors l) ≤ 24
  pub row_total : length (used_rows l) ≡ total (map layer_count (used_layers l))
  pub anchor_total : length (used_anchors l) ≡ total (map row_count (used_rows l))
  -- each start is the sum of the counts before it
  pub row_start : (i : ℕ) → i ≤ l.depth → get_or (row_starts l) i 0 ≡ total (map layer_count (take i l.layers))
  pub anchor_start : (i : ℕ) → i ≤ length (used_rows l) → get_or (anchor_starts l) i 0 ≡ total (map row_count (take i l.rows))
  -- coordinates are finite, from -1 to 1 and strictly ascending: of the topology, and of the flat lists between the starts
  pub z_ordered : T (ordered (map topology_z (topology_of l)))
  pub layers_ordered : T (list_all ordered_layer (topology_of l))
  pub zs_ordered : T (ordered (take l.depth (map layer_z l.layers)))
  pub ys_ordered : (i : ℕ) → i < l.depth → T (ordered (slice (get_or (row_starts l) i 0) (get_or (row_starts l) (suc i) 0) (map row_y l.rows)))
  pub xs_ordered : (i : ℕ) → i < length (used_rows l) → T (ordered (slice (get_or (anchor_starts l) i 0) (get_or (anchor_starts l) (suc i) 0) (map anchor_x l.anchors)))
  -- each anchor names an active channel; the channels' names are valid, and none stands twice
  pub anchor_active : (i : ℕ) → i < length (used_anchors l) → T (elem (get_or l.anchors i no_anchor).name (active_names l))
  pub channels_valid : T (list_all valid_name (map channel_name (channels_of l)))
  pub channels_distinct : T (all_distinct (map channel_name (channels_of l)))
