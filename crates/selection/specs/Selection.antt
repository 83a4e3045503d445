-- The room that a region state selects, by document 01. Definitions only.
use Rattle.std.specs.Prelude.{ℕ, suc, Bool, true, false, ◌&&◌, ◌||◌, not, cond, List, [], ◌∷◌, map, eqb, leb, length}
use Rattle.std.specs.Float.Ieee.{lt, eq}
use Rattle.doubles.specs.Arithmetic.{zero64}
use Rattle.std.specs.List.{list_all, list_any, filter}
use Rattle.layout.specs.declared.Anchor.{Anchor}
use Rattle.layout.specs.Channels.{channel_name}
use Rattle.layout.specs.Topology.{TopologyRow, TopologyLayer}
use Rattle.region.specs.declared.RegionSemanticState.{RegionSemanticState}
use Rattle.rules.specs.Rules.{is_kept, is_classed}
use Rattle.region.specs.Zones.{is_include, is_no_constraints, is_default}
use Rattle.classes.specs.Classes.{bed_of, outside_five, is_flc}
use Rattle.layout.specs.Room.{Room}

-- Five-x holds if no channel, active or not, is Lb, Rb, BL, BR, Lw or Rw
abbrev pub five_x : Room → Bool
five_x r = not (list_any outside_five (map channel_name r.channels))

-- whether a channel is FLc
abbrev pub is222 : Room → Bool
is222 r = list_any is_flc (map channel_name r.channels)

-- If a channel is FLc, layers with z > 0 are upper; otherwise only the second of exactly two layers is upper, whatever its z
abbrev pub upper : Room → ℕ → TopologyLayer → Bool
upper r i y = cond (is222 r) (lt zero64 y.z) (eqb (length r.layers) 2 && eqb i 1)

-- and with FLc those with z < 0 keep all
abbrev pub keeps_all : Room → TopologyLayer → Bool
keeps_all r y = is222 r && lt y.z zero64

-- Upper layers go whole under Exclude and else stay whole. Elsewhere an anchor without a class is dropped
abbrev pub stays : RegionSemanticState → Room → ℕ → TopologyLayer → Anchor → Bool
stays s r i y a = cond (upper r i y) (is_include s.top) (keeps_all r y || is_kept (bed_of s.horizontal a.name (five_x r)))

-- the anchors that pass, layer by layer; empty rows and layers go
abbrev pub is_empty : {A : Type 0} → List A → Bool
is_empty [] = true
is_empty (x ∷ xs) = false

abbrev pub has_anchors : TopologyRow → Bool
has_anchors w = not (is_empty w.anchors)

abbrev pub has_rows : TopologyLayer → Bool
has_rows y = not (is_empty y.rows)

abbrev pub passing : (Anchor → Bool) → TopologyRow → TopologyRow
passing t w = record { y = w.y; anchors = filter t w.anchors }

abbrev pub passing_from : (ℕ → TopologyLayer → Anchor → Bool) → ℕ → List TopologyLayer → List TopologyLayer
passing_from t i [] = []
passing_from t i (y ∷ ys) = record { z = y.z; rows = filter has_anchors (map (passing (t i y)) y.rows) } ∷ passing_from t (suc i) ys

-- the default state selects the room itself
abbrev pub selected_room : RegionSemanticState → Room → Room
selected_room s r = cond (is_default s) r (record { channels = r.channels; layers = filter has_rows (passing_from (stays s r) 0 r.layers) })

-- 9. Does the selection leave an anchor?
abbrev pub question9 : RegionSemanticState → Room → Bool
question9 s r = leb 1 (length (selected_room s r).layers)

-- 10. If the horizontal state is not NoConstraints, has each anchor of the lent layout's layers with z = 0 a class, dropped or not?
abbrev pub classed_row : Bool → RegionSemanticState → TopologyRow → Bool
classed_row five s w = list_all (λ (a : Anchor). is_classed (bed_of s.horizontal a.name five)) w.anchors

abbrev pub classed_layer : Bool → RegionSemanticState → TopologyLayer → Bool
classed_layer five s y = not (eq y.z zero64) || list_all (classed_row five s) y.rows

abbrev pub question10 : RegionSemanticState → Room → Bool
question10 s r = is_no_constraints s.horizontal || list_all (classed_layer (five_x r) s) r.layers
