-- What the numbers of a key say of the accepted layout in it.
use Prim.Native.Nat.{ℕ, ◌+◌, ◌<◌, ◌≤◌}
use mathlib.Core.Path.{◌≡◌, sym, ap, ◌∙◌, subst}
use mathlib.Core.Bool.{not}
use mathlib.Core.List.{List, map}
use native.Mathlib.Omega.{arith}
use lib.Ieee.{Float, nan}
use lib.ListN.{length, get_or, take, drop, get_or-map}
use lib.Seq.{slice, get_or-take, get_or-drop, take-take, length-slice}
use Rattle.std.specs.List.{list_any}
use Rattle.std.proofs.lemmas.List.{drop-take, take-map, get_or-map as get_or-map_in}
use Rattle.layout.specs.declared.Layout.{Layout}
use Rattle.layout.specs.Steps.Accepted.{Accepted}
use Rattle.layout.specs.Channels.{channels_of, channel_name}
use Rattle.layout.specs.Room.{room_of}
use Rattle.layout.specs.Topology.{used_anchors, layer_z, anchor_name}
use Rattle.layout.specs.Steps.Starts.{no_layer}
use Rattle.layout.proofs.Sizes.{Sized}
use Rattle.layout.proofs.TopologyLists.{take_taken}
use Rattle.keys.specs.InKey.{double, layout_in}
use Rattle.keys.proofs.InKey.{names_are, zs_are, anchor_names_are, sized as in-sized}
use Rattle.classes.specs.Classes.{outside_five, is_flc}
use Rattle.selection.specs.Selection.{five_x, is222}

pub mapped : {A B : Type 0} (f : A → B) (m : ℕ) (xs : List A) → map f (take m xs) ≡ take (length (take m xs)) (map f xs)
mapped f m xs = ap (map f) (sym (take_taken m xs)) ∙ sym (take-map f (length (take m xs)) xs)

pub at_part : (key : List ℕ) (a n i : ℕ) → i < n → get_or (slice a (a + n) key) i 0 ≡ get_or key (a + i) 0
at_part key a n i h = ap (λ (l : List ℕ). get_or l i 0) (drop-take a n key) ∙ get_or-take n (drop a key) i 0 h ∙ get_or-drop a key i 0

-- ---- what the code is given
pub record Given (l : Layout) (key : List ℕ) (used depth : ℕ) : Type 0 where
  pub is : l ≡ layout_in key
  pub long : length key ≡ 156
  pub accepted : Accepted l
  pub channels : used ≡ l.used
  pub layers : depth ≡ l.depth

module _ {l : Layout} {key : List ℕ} {used depth : ℕ} (g : Given l key used depth) where
  pub sized : Sized l
  sized = subst Sized (sym g.is) (in-sized key g.long)

  pub few : l.depth ≤ 4
  few = g.accepted.few_layers

  -- ---- the names of the channels
  key_names : take used key ≡ map channel_name (channels_of l)
  key_names =
      sym
      (sym (take-map channel_name l.used l.channels)
      ∙ ap (take l.used) (ap (λ (x : Layout). map channel_name x.channels) g.is ∙ names_are key g.long)
      ∙ take-take l.used 24 key g.accepted.few_channels
      ∙ ap (λ (n : ℕ). take n key) (sym g.channels))

  pub five_is : not (list_any outside_five (take used key)) ≡ five_x (room_of l)
  five_is = ap (λ (ns : List ℕ). not (list_any outside_five ns)) key_names

  pub flc_is : list_any is_flc (take used key) ≡ is222 (room_of l)
  flc_is = ap (list_any is_flc) key_names

  -- ---- the layers, the rows and the anchors
  pub key_z : (i : ℕ) → i < l.depth → double (get_or key (100 + i) 0) ≡ (get_or l.layers i no_layer).z
  key_z i h =
      let j : i < length (slice 100 104 key) = omega (arith, h, few, length-slice 100 104 key (omega (arith, g.long))) in
      ap double (sym (at_part key 100 4 i (omega (arith, few))))
      ∙ sym (get_or-map_in double (slice 100 104 key) i 0 nan j)
      ∙ ap (λ (v : List Float). get_or v i nan) (sym (ap (λ (x : Layout). map layer_z x.layers) g.is ∙ zs_are key g.long))
      ∙ get_or-map layer_z l.layers i no_layer

  pub key_anchors : (a b : ℕ) → b ≤ length (used_anchors l) → slice a b (drop 76 key) ≡ slice a b (map anchor_name l.anchors)
  key_anchors a b h =
      let n : length (used_anchors l) ≤ 24 = g.accepted.most_anchors in
      ap (drop a) (sym (take-take b 24 (drop 76 key) (omega arith)) ∙ ap (take b) (sym (drop-take 76 24 key) ∙ sym (ap (λ (x : Layout). map anchor_name x.anchors) g.is ∙ anchor_names_are key g.long)))
