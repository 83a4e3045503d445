-- What `derive_selected_layout` answers about a key and leaves in it: an equation for any 156 numbers.
-- `selection_questions` and `selected_key` are its interface; what follows them serves the code alone. Definitions only.
use Rattle.std.specs.Prelude.{ℕ, suc, ◌+◌, Bool, false, cond, List, [], ◌∷◌, ◌++◌, map, eqb, length, take, drop, set, replicate}
use Rattle.std.specs.Float.{binary64}
use Rattle.std.specs.Float.Ieee.{to_bits}
use Rattle.std.proofs.Math.Seq.{slice}
use Rattle.std.specs.List.{filter}
use Rattle.layout.specs.declared.Anchor.{Anchor}
use Rattle.layout.specs.Topology.{TopologyRow, TopologyLayer, anchor_name, anchor_x}
use Rattle.layout.specs.Questions.{Question, first_no, layout_questions, topology_y, topology_z}
use Rattle.layout.specs.Room.{Room, rows_in, anchors_in}
use Rattle.region.specs.declared.RegionHorizontalState.{RegionHorizontalState}
use Rattle.region.specs.declared.RegionSemanticState.{RegionSemanticState}
use Rattle.region.specs.Zones.{is_default}
use Rattle.classes.specs.Classes.{bed_of}
use Rattle.rules.specs.Rules.{is_classed}
use Rattle.keys.specs.Keys.{rows_of_layer, anchors_of_row}
use Rattle.keys.specs.InKey.{layout_in, room_in}
use Rattle.kept_anchors.specs.Steps.Kept.{picked, parts_over}
use Rattle.selection.specs.Selection.{has_anchors, has_rows, stays, selected_room, question9, question10}

-- ---- a key with other layers

abbrev pub z_bits : TopologyLayer → ℕ
z_bits y = to_bits binary64 (topology_z y)

abbrev pub y_bits : TopologyRow → ℕ
y_bits w = to_bits binary64 (topology_y w)

abbrev pub x_bits : Anchor → ℕ
x_bits a = to_bits binary64 (anchor_x a)

-- the layers, rows and anchors of r over those of the room in the key, and their number; channels, epoch and what lies past the counts stay
unfoldable pub with_layers : List ℕ → Room → List ℕ
with_layers key r =
    let layers = parts_over 48 100 (length (room_in key).layers) (map rows_of_layer r.layers) (map z_bits r.layers) key in
    let rows = parts_over 52 104 (length (rows_in (room_in key))) (map anchors_of_row (rows_in r)) (map y_bits (rows_in r)) layers in
    let anchors = parts_over 76 128 (length (anchors_in (room_in key))) (map anchor_name (anchors_in r)) (map x_bits (anchors_in r)) rows in
    set anchors 153 (length r.layers)

-- ---- the interface

-- questions 1 to 6 of the layout in the key, and 9 and 10 of its room
unfoldable pub selection_questions : RegionSemanticState → List ℕ → List Question
unfolding layout_questions
selection_questions s key =
    layout_questions (layout_in key)
    ++ (record { number = 9; yes = question9 s (room_in key) }
    ∷ record { number = 10; yes = question10 s (room_in key) }
    ∷ [])

-- the key afterwards: as it was where it is refused and in the default state
unfoldable pub selected_key : RegionSemanticState → List ℕ → List ℕ
unfolding with_layers selection_questions
selected_key s key =
    cond (eqb (first_no (selection_questions s key)) 0) (cond (is_default s) key (with_layers key (selected_room s (room_in key)))) key

-- ---- one flag for each of the 24 anchors: whether it stays

abbrev pub row_flags : (Anchor → Bool) → List TopologyRow → List Bool
row_flags t [] = []
row_flags t (w ∷ ws) = map t w.anchors ++ row_flags t ws

abbrev pub layer_flags : (ℕ → TopologyLayer → Anchor → Bool) → ℕ → List TopologyLayer → List Bool
layer_flags t i [] = []
layer_flags t i (y ∷ ys) = row_flags (t i y) y.rows ++ layer_flags t (suc i) ys

abbrev pub kept_flags : RegionSemanticState → Room → List Bool
kept_flags s r = let f = layer_flags (stays s r) 0 r.layers in f ++ drop (length f) (replicate 24 false)

-- whether a flag is set
abbrev pub is_set : Bool → Bool
is_set b = b

-- ---- the layers with just the anchors whose flags are set

-- each row keeps the anchors whose flags are set; the next row's flags follow
abbrev pub picked_rows : List Bool → List TopologyRow → List TopologyRow
picked_rows flags [] = []
picked_rows flags (w ∷ ws) =
    record { y = w.y; anchors = picked flags w.anchors } ∷ picked_rows (drop (length w.anchors) flags) ws

-- how many anchors rows have
abbrev pub anchor_number : List TopologyRow → ℕ
anchor_number [] = 0
anchor_number (w ∷ ws) = length w.anchors + anchor_number ws

abbrev pub picked_layers : List Bool → List TopologyLayer → List TopologyLayer
picked_layers flags [] = []
picked_layers flags (y ∷ ys) =
    record { z = y.z; rows = picked_rows flags y.rows } ∷ picked_layers (drop (anchor_number y.rows) flags) ys

-- empty rows and layers go
abbrev pub without_empty_rows : TopologyLayer → TopologyLayer
without_empty_rows y = record { z = y.z; rows = filter has_anchors y.rows }

abbrev pub kept_topology : List Bool → List TopologyLayer → List TopologyLayer
kept_topology flags ys = filter has_rows (map without_empty_rows (picked_layers flags ys))

abbrev pub kept_room : List Bool → Room → Room
kept_room flags r = record { channels = r.channels; layers = kept_topology flags r.layers }

-- ---- what the parts of the code answer

-- the flags with those of one layer, whose names are those from at up to end
abbrev pub flagged_from : (ℕ → Bool) → List ℕ → ℕ → ℕ → List Bool → List Bool
flagged_from p names at end old = take at old ++ (map p (slice at end names) ++ drop end old)

-- whether the speaker of a name has a class
abbrev pub has_class : RegionHorizontalState → Bool → ℕ → Bool
has_class h five n = is_classed (bed_of h n five)
