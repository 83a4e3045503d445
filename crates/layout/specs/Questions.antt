-- Questions 1 to 6 of document 01, in its words and order. Definitions only.
use Rattle.std.specs.Prelude.{ℕ, Bool, ◌&&◌, cond, List, [], ◌∷◌, map, eqb, leb, Float}
use Rattle.std.specs.Float.Ieee.{lt}
use Rattle.std.specs.Float.Ieee.Scale.{finite}
use Rattle.doubles.specs.Arithmetic.{one64, minus_one64}
use Rattle.doubles.specs.Range.{is_between}
use Rattle.lists.specs.Lists.{elem, all_distinct, chain, total}
use Rattle.std.specs.List.{list_all, list_any}
use Rattle.layout.specs.declared.Layout.{Layout}
use Rattle.layout.specs.Name.{valid_name}
use Rattle.layout.specs.Channels.{channels_of, channel_name, active, active_names}
use Rattle.layout.specs.Topology.{TopologyRow, TopologyLayer, topology_of, used_layers, used_rows, used_anchors, anchor_name, anchor_x, layer_count, row_count}

-- ---- a list of questions with their numbers; the refusal is the number of the first "no", and 0 where there is none
pub record Question : Type 0 where
  pub number : ℕ
  pub yes : Bool

abbrev pub first_no : List Question → ℕ
first_no [] = 0
first_no (q ∷ qs) = cond q.yes (first_no qs) q.number

-- the first of two refusals, 0 being none
abbrev pub or_else : ℕ → ℕ → ℕ
or_else p q = cond (eqb p 0) q p

abbrev pub from_to : ℕ → ℕ → ℕ → Bool
from_to a b n = leb a n && leb n b

-- 1. Are there 1 to 24 channels, each name 1 to 8 bytes from 33 to 126 and then zeros up to eight, no two equal?
unfoldable pub question1 : Layout → Bool
unfolding valid_name
question1 l =
    let names = map channel_name (channels_of l) in
    from_to 1 24 l.used && list_all valid_name names && all_distinct names

-- 2. Are there 1 to 4 layers?
abbrev pub question2 : Layout → Bool
question2 l = from_to 1 4 l.depth

-- 3. Is a channel active?
abbrev pub question3 : Layout → Bool
question3 l = list_any active (channels_of l)

-- 4. Has each layer 1 to 6 rows, each row an anchor, and the layout at most 24 anchors?
unfoldable pub question4 : Layout → Bool
question4 l =
    list_all (from_to 1 6) (map layer_count (used_layers l))
    && list_all (leb 1) (map row_count (used_rows l))
    && leb (total (map row_count (used_rows l))) 24

-- finite, and from -1 to 1
abbrev pub in_room : Float → Bool
in_room x = finite x && is_between minus_one64 one64 x

-- each in the room, and strictly ascending
abbrev pub ordered : List Float → Bool
ordered xs = list_all in_room xs && chain lt xs

abbrev pub ordered_row : TopologyRow → Bool
ordered_row r = ordered (map anchor_x r.anchors)

abbrev pub topology_y : TopologyRow → Float
topology_y r = r.y

abbrev pub topology_z : TopologyLayer → Float
topology_z l = l.z

abbrev pub ordered_layer : TopologyLayer → Bool
ordered_layer l = ordered (map topology_y l.rows) && list_all ordered_row l.rows

-- 5. Is each layer z, row y and anchor x finite, from −1 to 1, and strictly ascending (z over layers, y within a layer, x within a row)?
unfoldable pub question5 : Layout → Bool
question5 l = ordered (map topology_z (topology_of l)) && list_all ordered_layer (topology_of l)

-- 6. Does each anchor name an active channel?
unfoldable pub question6 : Layout → Bool
question6 l = list_all (λ (n : ℕ). elem n (active_names l)) (map anchor_name (used_anchors l))

unfoldable pub layout_questions : Layout → List Question
unfolding question1 question4 question5 question6
layout_questions l =
    record { number = 1; yes = question1 l }
    ∷ record { number = 2; yes = question2 l }
    ∷ record { number = 3; yes = question3 l }
    ∷ record { number = 4; yes = question4 l }
    ∷ record { number = 5; yes = question5 l }
    ∷ record { number = 6; yes = question6 l }
    ∷ []
