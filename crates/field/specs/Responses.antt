-- Axis responses: how much each channel answers to a coordinate. Definitions only.
use Rattle.std.specs.Prelude.{ℕ, ◌+◌, ◌-◌, cond, List, [], ◌∷◌, ◌++◌, map, eqb, pos, Float, length, get_or}
use Rattle.std.specs.Float.{nan, binary64}
use Rattle.std.specs.Float.Ieee.{lt, le}
use Rattle.doubles.specs.Arithmetic.{◌⊕◌, ◌⊖◌, ◌⊗◌, ◌⊘◌, dec, from_int, zero64, one64}
use Rattle.doubles.specs.Floor.{floor_of}
use Rattle.approximations.specs.Circular.{sine_of, cosine_of}
use Rattle.lists.specs.Lists.{flatten}
use Rattle.layout.specs.declared.Anchor.{Anchor}
use Rattle.layout.specs.Topology.{TopologyRow, TopologyLayer, anchor_x}
use Rattle.layout.specs.Questions.{topology_y, topology_z}
use Rattle.field.specs.Knots.{Axis, X, Y, Z}
use Rattle.field.specs.declared.Pick.{Pick}
use Rattle.field.specs.declared.Pick.TheVariants.{One, Two}

-- ---- which of a list of coordinates answer to u: `One i`, coordinate i with weight 1; `Two i v w`, coordinate i with v and the next with w

-- cosine and sine of PI × t / 2
unfoldable pub two_at : ℕ → Float → Pick
unfolding sine_of cosine_of
two_at i t = let a = dec 3141592653589793 15 ⊗ t ⊘ from_int (pos 2) in Two i (cosine_of a) (sine_of a)

-- how many coordinates, from the front, are below u
abbrev pub count_below : Float → List Float → ℕ
count_below u [] = 0
count_below u (x ∷ xs) = cond (lt x u) (1 + count_below u xs) 0

-- between coordinate k - 1 and coordinate k
abbrev pub pair_at : List Float → Float → ℕ → Pick
pair_at xs u k = let a = get_or xs (k - 1) nan in two_at (k - 1) ((u ⊖ a) ⊘ (get_or xs k nan ⊖ a))

-- the end one with weight 1 at or beyond an end, else the two neighbours
unfoldable pub pick_of : List Float → Float → Pick
unfolding two_at
pick_of xs u = cond (le u (get_or xs 0 nan)) (One 0) (cond (le (get_or xs (length xs - 1) nan) u) (One (length xs - 1)) (pair_at xs u (count_below u xs)))

-- With two layers the lower alone at coordinate ≤ 0, the upper alone if floor(32768 × c) ≥ 32767, else both; heights are not read. With others by z like rows.
unfoldable pub layer_pick : List Float → Float → Pick
unfolding pick_of two_at floor_of
layer_pick zs u =
    cond (eqb (length zs) 2)
    (cond (le u zero64) (One 0) (cond (le (from_int (pos 32767)) (floor_of binary64 (from_int (pos 32768) ⊗ u))) (One 1) (two_at 0 u)))
    (pick_of zs u)

-- ---- the anchors touched, in topology order, each with its weight
pub record Weight : Type 0 where
  pub name : ℕ
  pub weight : Float

abbrev pub weighted : Float → List Anchor → List Weight
weighted w [] = []
weighted w (a ∷ as') = record { name = a.name; weight = w } ∷ weighted w as'

-- a pick among parts of the anchors
abbrev pub weights_of : Pick → List (List Anchor) → List Weight
weights_of (One i) parts = weighted one64 (get_or parts i [])
weights_of (Two i v w) parts = weighted v (get_or parts i []) ++ weighted w (get_or parts (i + 1) [])

abbrev pub alone : Anchor → List Anchor
alone a = a ∷ []

abbrev pub row_anchors : TopologyRow → List Anchor
row_anchors r = r.anchors

abbrev pub layer_anchors : TopologyLayer → List Anchor
layer_anchors l = flatten (map row_anchors l.rows)

-- X takes every row
unfoldable pub row_weights_x : Float → TopologyRow → List Weight
unfolding pick_of
row_weights_x u r = weights_of (pick_of (map anchor_x r.anchors) u) (map alone r.anchors)

unfoldable pub layer_weights_x : Float → TopologyLayer → List Weight
unfolding row_weights_x
layer_weights_x u l = flatten (map (row_weights_x u) l.rows)

-- Y weights rows within each layer
unfoldable pub layer_weights_y : Float → TopologyLayer → List Weight
unfolding pick_of
layer_weights_y u l = weights_of (pick_of (map topology_y l.rows) u) (map row_anchors l.rows)

unfoldable pub weights_on : Axis → List TopologyLayer → Float → List Weight
unfolding layer_weights_x layer_weights_y layer_pick
weights_on X t u = flatten (map (layer_weights_x u) t)
weights_on Y t u = flatten (map (layer_weights_y u) t)
weights_on Z t u = weights_of (layer_pick (map topology_z t) u) (map layer_anchors t)

-- ---- a channel's response: the weights of the anchors with its name, added up in topology order from 0
unfoldable pub added_up : Float → ℕ → List Weight → Float
added_up s name [] = s
added_up s name (w ∷ ws) = added_up (cond (eqb w.name name) (s ⊕ w.weight) s) name ws

unfoldable pub response_on : Axis → List TopologyLayer → Float → ℕ → Float
unfolding added_up weights_on
response_on a t u name = added_up zero64 name (weights_on a t u)
