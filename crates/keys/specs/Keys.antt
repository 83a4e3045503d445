-- Keys: a room and an epoch as 156 numbers. Definitions only.
use Rattle.std.specs.Prelude.{ℕ, ◌+◌, ◌*◌, List, [], ◌∷◌, ◌++◌, map, Float, length, drop, replicate}
use Rattle.std.specs.Float.{binary64}
use Rattle.std.specs.Float.Ieee.{to_bits}
use Rattle.doubles.specs.Arithmetic.{◌⊕◌, zero64}
use Rattle.lists.specs.Lists.{bit}
use Rattle.layout.specs.declared.Channel.{Channel}
use Rattle.layout.specs.declared.Anchor.{Anchor}
use Rattle.layout.specs.Channels.{channel_name}
use Rattle.layout.specs.Topology.{TopologyRow, TopologyLayer, anchor_name, anchor_x}
use Rattle.layout.specs.Questions.{topology_y, topology_z}
use Rattle.layout.specs.Room.{Room, rows_in, anchors_in}

-- ---- one key: entries past a count are 0, and doubles stand by their patterns with −0 as 0

abbrev pub key_size : ℕ
key_size = 156

-- a list at the front of n zeros
abbrev pub filled_to : ℕ → List ℕ → List ℕ
filled_to n xs = xs ++ drop (length xs) (replicate n 0)

abbrev pub flag_number : Channel → ℕ
flag_number c = bit c.enabled + 2 * bit c.lfe

abbrev pub pattern : Float → ℕ
pattern x = to_bits binary64 (x ⊕ zero64)

abbrev pub rows_of_layer : TopologyLayer → ℕ
rows_of_layer y = length y.rows

abbrev pub anchors_of_row : TopologyRow → ℕ
anchors_of_row w = length w.anchors

unfoldable pub key_numbers : Room → ℕ → List ℕ
key_numbers r epoch =
    filled_to 24 (map channel_name r.channels)
    ++ filled_to 24 (map flag_number r.channels)
    ++ filled_to 4 (map rows_of_layer r.layers)
    ++ filled_to 24 (map anchors_of_row (rows_in r))
    ++ filled_to 24 (map anchor_name (anchors_in r))
    ++ filled_to 4 (map (λ (y : TopologyLayer). pattern (topology_z y)) r.layers)
    ++ filled_to 24 (map (λ (w : TopologyRow). pattern (topology_y w)) (rows_in r))
    ++ filled_to 24 (map (λ (a : Anchor). pattern (anchor_x a)) (anchors_in r))
    ++ (length r.channels ∷ length r.layers ∷ epoch ∷ 0 ∷ [])
