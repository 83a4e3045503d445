-- Zeros, and then each part is written into its own.
use Prim.Native.Nat.{ℕ, ◌+◌, min}
use mathlib.Core.Path.{◌≡◌, ◌∙◌}
use mathlib.Core.List.{List, map}
use native.Mathlib.Nat.{zero-add}
use native.Mathlib.Omega.{arith}
use borrow.Author.Rules.{rules}
use lib.ListN.{length, take, set, replicate}
use Rattle.std.specs.List.{fold}
use Rattle.std.proofs.iter.runs.Made.{chains}
use Rattle.lists.specs.Lists.{total}
use Rattle.lists.proofs.Loops.{long}
use Rattle.lists.proofs.Sums.{fold_up_to}
use Rattle.lists.proofs.Takes.{take_min}
use Rattle.layout.specs.declared.Anchor.{Anchor}
use Rattle.layout.specs.declared.Channel.{Channel}
use Rattle.layout.specs.declared.Layer.{Layer}
use Rattle.layout.specs.declared.Row.{Row}
use Rattle.layout.specs.declared.Layout.{Layout}
use Rattle.layout.specs.Channels.{channels_of, channel_name}
use Rattle.keys.specs.Keys.{flag_number}
use Rattle.keys.specs.Steps.{packed_numbers, z_pattern, y_pattern, x_pattern, two_parts}
use Rattle.layout.specs.Topology.{layer_count, row_count, anchor_name, used_layers, used_rows, used_anchors}
use Rattle.layout.proofs.Sizes.{Sized}
use Rattle.channels.proofs.Written.{covered_is}
use Rattle.keys.proofs.KeyWhole.{key_written}
use Rattle.keys.proofs.packing.pack.Goals as goal

-- how many rows and anchors the counts reach
module _ (l : Layout) (s : Sized l) where
  rows_reached : (ys : List Layer) → ys ≡ used_layers l → (n : ℕ) → n ≡ fold (λ (n : ℕ) (y : Layer). min (n + layer_count y) 24) 0 ys → n ≡ min (total (map layer_count (used_layers l))) 24
  rows_reached ys p n e = e ∙ fold_up_to layer_count 24 ys 0 (omega arith) ∙ rw (p, zero-add)

  anchors_reached : (rs : List Row) → rs ≡ used_rows l → (n : ℕ) → n ≡ fold (λ (n : ℕ) (r : Row). min (n + row_count r) 24) 0 rs → n ≡ min (total (map row_count (used_rows l))) 24
  anchors_reached rs p n e = e ∙ fold_up_to row_count 24 rs 0 (omega arith) ∙ rw (p, zero-add)

  layers_are : (d : ℕ) → d ≡ min l.depth 4 → take d l.layers ≡ used_layers l
  layers_are d e = rw e (take_min l.depth 4 l.layers (omega (arith, s.layers)))

  rows_are : (n : ℕ) → n ≡ min (total (map layer_count (used_layers l))) 24 → take n l.rows ≡ used_rows l
  rows_are n e = rw e (take_min (total (map layer_count (used_layers l))) 24 l.rows (omega (arith, s.rows)))

  anchors_are : (n : ℕ) → n ≡ min (total (map row_count (used_rows l))) 24 → take n l.anchors ≡ used_anchors l
  anchors_are n e = rw e (take_min (total (map row_count (used_rows l))) 24 l.anchors (omega (arith, s.anchors)))

pub shared_ref_as_front-rows : goal.shared_ref_as_front-rows
shared_ref_as_front-rows c =
    let l = c.args.l in
    let s : Sized l = search (rules, long) in
    let n = rows_reached l s _ (layers_are l s _ c.covered_layers.ensures) c.fold-row_count.result (search (rules, chains)) in
    omega arith

pub shared_ref_as_front-anchors : goal.shared_ref_as_front-anchors
shared_ref_as_front-anchors c =
    let l = c.args.l in
    let s : Sized l = search (rules, long) in
    let n = rows_reached l s _ (layers_are l s _ c.covered_layers.ensures) c.fold-row_count.result (search (rules, chains)) in
    let m = anchors_reached l s _ (rows_are l s _ n) c.fold-anchor_count.result (search (rules, chains)) in
    omega arith

-- four keys, each from the one before
four : (l : Layout) → Sized l → (epoch : ℕ) (k₁ k₂ k₃ k₄ : List ℕ) (cs : List Channel) (ys : List Layer) (rs : List Row) (hs : List Anchor)
    → cs ≡ channels_of l → ys ≡ used_layers l → rs ≡ used_rows l → hs ≡ used_anchors l
    → k₁ ≡ two_parts 0 (map channel_name cs) 24 (map flag_number cs) (length cs) (replicate 156 0)
    → k₂ ≡ two_parts 48 (map layer_count ys) 100 (map z_pattern ys) (length ys) k₁
    → k₃ ≡ two_parts 52 (map row_count rs) 104 (map y_pattern rs) (length rs) k₂
    → k₄ ≡ two_parts 76 (map anchor_name hs) 128 (map x_pattern hs) (length hs) k₃
    → set (set (set k₄ 152 l.used) 153 l.depth) 154 epoch ≡ packed_numbers l epoch
four l s epoch k₁ k₂ k₃ k₄ cs ys rs hs c y r a e f g h = rw (h, g, f, e, a, r, y, c) (key_written l s epoch)

pub returns : goal.returns
returns c =
    let l = c.args.l in
    let s : Sized l = search (rules, long) in
    let layers = layers_are l s _ c.covered_layers.ensures in
    let n = rows_reached l s _ layers c.fold-row_count.result (search (rules, chains)) in
    let rows = rows_are l s _ n in
    let m = anchors_reached l s _ rows c.fold-anchor_count.result (search (rules, chains)) in
    let anchors = anchors_are l s _ m in
    let channels = covered_is l _ s.channels c.covered.ensures in
    four l s c.args.epoch _ _ _ _ _ _ _ _ channels layers rows anchors c.write.ensures c.write-2.ensures c.write-3.ensures c.write-4.ensures
