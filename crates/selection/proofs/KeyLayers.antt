-- The layers of an accepted layout, one after another in its key: their anchors, flags and classes.
use Prim.Native.Nat.{ℕ, suc, ◌+◌, ◌-◌, ◌<◌, ◌≤◌}
use mathlib.Core.Path.{◌≡◌, refl, sym, ap, ap₂, ◌∙◌}
use mathlib.Core.Bool.{Bool, not, true, false, ◌&&◌, ◌||◌}
use mathlib.Core.List.{List, ◌++◌, map}
use native.Mathlib.Numerals.{add-one}
use native.Mathlib.Omega.{arith}
use lib.Ieee.{Float, eq}
use lib.ListN.{length, get_or, take, drop, replicate}
use lib.Seq.{slice, drop-drop}
use borrow.Rule.Slice.PartMut.{put_mid}
use Rattle.std.specs.Prelude.{slice_range}
use Rattle.doubles.specs.Arithmetic.{zero64}
use Rattle.lists.specs.Lists.{total}
use Rattle.std.specs.List.{list_all, list_any}
use Rattle.layout.specs.declared.Layout.{Layout}
use Rattle.layout.specs.Steps.Accepted.{Accepted}
use Rattle.layout.specs.Topology.{used_layers, used_rows, used_anchors, layer_count, row_count, anchor_name}
use Rattle.layout.specs.Steps.Starts.{row_starts, layer_starts}
use Rattle.layout.proofs.TopologyLists.{total_within}
use Rattle.layout.proofs.TopologyRanges.{row_most}
use Rattle.keys.specs.InKey.{double, layout_in, room_in}
use Rattle.keys.proofs.InKey.{used_is, depth_is}
use Rattle.region.specs.declared.RegionSemanticState.{RegionSemanticState}
use Rattle.region.specs.Zones.{is_no_constraints}
use Rattle.classes.specs.Classes.{outside_five, is_flc}
use Rattle.rules.specs.declared.rule.Rule.{Rule}
use Rattle.rules.specs.Steps.{rule_of, stays_by}
use Rattle.selection.specs.Selection.{question10}
use Rattle.selection.specs.Steps.{kept_flags, flagged_from, has_class}
use Rattle.selection.proofs.FlagLayers.{Layered, layered_none, layered_more, layered_done, classed_from, classed_more, classed_done as done, classed_all}
use Rattle.selection.proofs.LayerAnchors.{layer_start, layer_start_rises, layer_start_most}
use Rattle.selection.proofs.KeyStarts.{part_within}
use Rattle.selection.proofs.KeyEntries.{mapped, Given, sized, few, five_is, flc_is, key_z, key_anchors}

-- ---- what the code is given
pub given : (key : List ℕ) → length key ≡ 156 → Accepted (layout_in key) → Given (layout_in key) key (get_or key 152 0) (get_or key 153 0)
given key long a = record { is = refl; long = long; accepted = a; channels = sym (used_is key long); layers = sym (depth_is key long) }

pub depth_few : (key : List ℕ) → length key ≡ 156 → Accepted (layout_in key) → get_or key 153 0 ≤ 4
depth_few key long a = omega (arith, depth_is key long, a.few_layers)

pub used_few : (key : List ℕ) → length key ≡ 156 → Accepted (layout_in key) → get_or key 152 0 ≤ 24
used_few key long a = omega (arith, used_is key long, a.few_channels)

module _ {l : Layout} {key : List ℕ} {used depth : ℕ} (g : Given l key used depth) (i : ℕ) (h : i < depth) where
  abbrev at : ℕ
  at = get_or (layer_starts l) i 0

  abbrev end : ℕ
  end = get_or (layer_starts l) (i + 1) 0

  inside : i < l.depth
  inside = omega (arith, g.layers)

  end_is : end ≡ get_or (layer_starts l) (suc i) 0
  end_is = rw add-one

  pub rises : at ≤ end
  rises = omega (arith, end_is, layer_start_rises l (sized g) i (omega (arith, few g, inside)))

  pub most : end ≤ 24
  most = omega (arith, end_is, layer_start_most l (sized g) (suc i) (omega (arith, few g, inside)))

  fits : end ≤ length (used_anchors l)
  fits =
      let n = length (used_rows l) in
      let ns = map row_count l.rows in
      let t = ap total (mapped row_count (total (map layer_count (used_layers l))) l.rows) in
      let m = row_most l (sized g).layers (sized g).rows g.accepted (suc i) inside in
      omega (arith, end_is, layer_start l (sized g) (suc i) (omega (arith, few g, inside)), total_within (get_or (row_starts l) (suc i) 0) n ns m, t, g.accepted.anchor_total)

  -- the names of the layer's anchors
  names : slice at end (drop 76 key) ≡ slice at end (map anchor_name l.anchors)
  names = key_anchors g at end fits

  part : slice_range key (76 + at) (76 + end) ≡ slice at end (drop 76 key)
  part = part_within key 76 at end rises

  module _ (s : RegionSemanticState) where
    pub flags_next : (kept r : List Bool) (rule : Rule) (flc five : Bool) → Layered l (sized g) (few g) s kept i →
        r ≡ flagged_from (stays_by rule) (drop 76 key) at end kept →
        rule ≡ rule_of flc five s depth i (double (get_or key (100 + i) 0)) → flc ≡ list_any is_flc (take used key) → five ≡ not (list_any outside_five (take used key)) → Layered l (sized g) (few g) s r (i + 1)
    flags_next kept r rule flc five v er eu ew ef =
        layered_more l (sized g) (few g) s kept i v r rule flc five inside
        (er ∙ ap (λ (ns : List Bool). take at kept ++ (ns ++ drop end kept)) (ap (map (stays_by rule)) names))
        (eu ∙ ap₂ (λ (d : ℕ) (z : Float). rule_of flc five s d i z) g.layers (key_z g i inside))
        (ew ∙ flc_is g)
        (ef ∙ five_is g)

    pub classed_next : (five r : Bool) →
        r ≡ (not (eq (double (get_or key (100 + i) 0)) zero64) || list_all (has_class s.horizontal five) (slice_range key (76 + at) (76 + end))) →
        classed_from l (sized g) (few g) s five i ≡ (r && classed_from l (sized g) (few g) s five (i + 1))
    classed_next five r er =
        classed_more l (sized g) (few g) s five r i inside
        (er ∙ ap₂ (λ (z : Float) (ns : List ℕ). not (eq z zero64) || list_all (has_class s.horizontal five) ns) (key_z g i inside) (part ∙ names))

-- ---- the loops over the layers
module _ (key : List ℕ) (s : RegionSemanticState) where
  -- the key holds an accepted room
  abbrev Room : Layout → Type 0
  Room l = Given l key (get_or key 152 0) (get_or key 153 0)

  -- the flags of the first i layers are written
  abbrev pub FlagsTo : List Bool → ℕ → Type 0
  FlagsTo kept i = (l : Layout) (g : Room l) → Layered l (sized g) (few g) s kept i

  pub flags_none : FlagsTo (replicate 24 false) 0
  flags_none l g = layered_none l (sized g) (few g) s

  -- the flags of a layer are written between those before and those behind
  written : (p : ℕ → Bool) (kept flags : List Bool) (a b : ℕ) → a ≤ b → flags ≡ map p (slice_range key (76 + a) (76 + b)) → put_mid a (b - a) kept flags ≡ flagged_from p (drop 76 key) a b kept
  written p kept flags a b h e =
      let f : a + (b - a) ≡ b = omega arith in
      ap₂ (λ (xs : List Bool) (ys : List Bool). take a kept ++ (xs ++ ys)) (e ∙ ap (map p) (part_within key 76 a b h)) (drop-drop (b - a) a kept ∙ ap (λ (n : ℕ). drop n kept) f)

  -- one layer more, whose anchors begin and end where the starts say
  pub flags_more : (starts : List ℕ) → starts ≡ layer_starts (layout_in key) → (kept flags : List Bool) (i : ℕ) (rule : Rule) (flc five : Bool) (z : Float) → i < get_or key 153 0 → FlagsTo kept i →
      get_or starts i 0 ≤ get_or starts (i + 1) 0 → flags ≡ map (stays_by rule) (slice_range key (76 + get_or starts i 0) (76 + get_or starts (i + 1) 0)) →
      rule ≡ rule_of flc five s (get_or key 153 0) i z → z ≡ double (get_or key (100 + i) 0) → flc ≡ list_any is_flc (take (get_or key 152 0) key) → five ≡ not (list_any outside_five (take (get_or key 152 0) key)) → FlagsTo (put_mid (get_or starts i 0) (get_or starts (i + 1) 0 - get_or starts i 0) kept flags) (i + 1)
  flags_more starts e kept flags i rule flc five z h f rise er eu ez ew ef l g =
      let q : starts ≡ layer_starts l = e ∙ ap layer_starts (sym g.is) in
      flags_next g i h s kept _ rule flc five (f l g)
      (written (stays_by rule) kept flags (get_or starts i 0) (get_or starts (i + 1) 0) rise er ∙ ap (λ (v : List ℕ). flagged_from (stays_by rule) (drop 76 key) (get_or v i 0) (get_or v (i + 1) 0) kept) q)
      (eu ∙ ap (rule_of flc five s (get_or key 153 0) i) ez)
      ew ef

  -- at the end all are written
  pub flags_done : length key ≡ 156 → Accepted (layout_in key) → (kept : List Bool) (i : ℕ) → FlagsTo kept i → get_or key 153 0 ≤ i → kept ≡ kept_flags s (room_in key)
  flags_done long a kept i f h =
      let g = given key long a in
      layered_done (layout_in key) (sized g) (few g) s kept i (f _ g) (omega (arith, g.layers))

  -- whether the layers that are left have classes
  abbrev left : (l : Layout) → Room l → Bool → ℕ → Bool
  left l g five i = classed_from l (sized g) (few g) s five i

  abbrev pub ClassedFrom : Bool → ℕ → Type 0
  ClassedFrom five i = (l : Layout) (g : Room l) → left l g five 0 ≡ left l g five i

  pub classed_none : (five : Bool) → ClassedFrom five 0
  classed_none five l g = refl

  -- one layer more
  module _ (starts : List ℕ) (e : starts ≡ layer_starts (layout_in key)) (five r : Bool) (i : ℕ) (z : Float) (h : i < get_or key 153 0) (ez : z ≡ double (get_or key (100 + i) 0))
      (er : r ≡ (not (eq z zero64) || list_all (has_class s.horizontal five) (slice_range key (76 + get_or starts i 0) (76 + get_or starts (i + 1) 0)))) where
    one : (l : Layout) (g : Room l) → left l g five i ≡ (r && left l g five (i + 1))
    one l g =
        let q : starts ≡ layer_starts l = e ∙ ap layer_starts (sym g.is) in
        classed_next g i h s five r
        (er ∙ ap₂ (λ (x : Float) (v : List ℕ). not (eq x zero64) || list_all (has_class s.horizontal five) (slice_range key (76 + get_or v i 0) (76 + get_or v (i + 1) 0))) ez q)

    pub classed_step : ClassedFrom five i → r ≡ true → ClassedFrom five (i + 1)
    classed_step f t l g = f l g ∙ one l g ∙ ap (λ (b : Bool). b && left l g five (i + 1)) t

    pub classed_not : (long : length key ≡ 156) (a : Accepted (layout_in key)) → r ≡ false → left (layout_in key) (given key long a) five i ≡ false
    classed_not long a t = let g = given key long a in one _ g ∙ ap (λ (b : Bool). b && left (layout_in key) g five (i + 1)) t

  module _ (long : length key ≡ 156) (a : Accepted (layout_in key)) where
    -- what the layers that are left answer is the answer
    pub classed_answer : (free five b : Bool) (i : ℕ) → ClassedFrom five i → free ≡ is_no_constraints s.horizontal → free ≡ false → five ≡ not (list_any outside_five (take (get_or key 152 0) key)) →
        left (layout_in key) (given key long a) five i ≡ b → b ≡ question10 s (room_in key)
    classed_answer free five b i f ef n ev q =
        let g = given key long a in
        classed_all (layout_in key) (sized g) (few g) s free five b ef n (ev ∙ five_is g) (f _ g ∙ q)

    pub classed_done : (five : Bool) (i : ℕ) → get_or key 153 0 ≤ i → left (layout_in key) (given key long a) five i ≡ true
    classed_done five i h = let g = given key long a in done (layout_in key) (sized g) (few g) s five i (omega (arith, g.layers))
