-- What the layout in a key has, part by part: this holds of any 156 numbers.
use Prim.Native.Nat.{ℕ, ◌+◌, ◌-◌, ◌≤◌}
use mathlib.Core.Path.{◌≡◌, refl, sym, ◌∙◌}
use mathlib.Core.Bool.{Bool, true, false, not, ◌&&◌, ◌||◌}
use mathlib.Core.List.{List, map}
use native.Mathlib.Omega.{arith}
use borrow.Author.Tests.{eqb-true, ne_eqb}
use lib.Dec.{eqb}
use lib.ListN.{length, get_or}
use lib.Seq.{slice, length-slice}
use Rattle.lists.proofs.Zips.{zip_length, zip_firsts, zip_seconds}
use Rattle.layout.specs.declared.Layout.{Layout}
use Rattle.layout.specs.Channels.{channel_name, active}
use Rattle.layout.specs.Topology.{layer_count, layer_z, row_count, row_y, anchor_name, anchor_x}
use Rattle.layout.proofs.Sizes.{Sized}
use Rattle.keys.specs.InKey.{double, channel_in, layer_in, row_in, anchor_in, layout_in}

-- flags 1 say active
flag_active : (name f : ℕ) → active (channel_in name f) ≡ eqb f 1
flag_active name f = go (eqb f 1) (eqb f 2) (eqb f 3) refl refl refl
  where
    apart : (n : ℕ) → (n ≡ 1 → ⊥) → eqb f 1 ≡ true → eqb f n ≡ false
    apart n h e = ne_eqb f n (λ q. h (sym q ∙ eqb-true f 1 e))

    go : (a b c : Bool) → eqb f 1 ≡ a → eqb f 2 ≡ b → eqb f 3 ≡ c → ((eqb f 1 || eqb f 3) && not (eqb f 2 || eqb f 3)) ≡ eqb f 1
    go true b c p q r = rw (apart 2 (λ z. omega arith) p, apart 3 (λ z. omega arith) p, p)
    go false true c p q r = rw (p, q) (none (eqb f 3))
      where
        none : (x : Bool) → (x && false) ≡ false
        none true = refl
        none false = refl
    go false false true p q r = rw (p, q, r)
    go false false false p q r = rw (p, q, r)

-- ---- the parts
module _ (key : List ℕ) (long : length key ≡ 156) where
  abbrev l : Layout
  l = layout_in key

  part : (a b : ℕ) → b ≤ 156 → length (slice a b key) ≡ b - a
  part a b h = length-slice a b key (omega (arith, long))

  both24 : (a b : ℕ) → a + 24 ≤ 156 → b + 24 ≤ 156 → length (slice a (a + 24) key) ≡ length (slice b (b + 24) key)
  both24 a b h k = omega (arith, part a (a + 24) h, part b (b + 24) k)

  pub used_is : l.used ≡ get_or key 152 0
  unfolding layout_in
  used_is = refl

  pub depth_is : l.depth ≡ get_or key 153 0
  unfolding layout_in
  depth_is = refl

  pub names_are : map channel_name l.channels ≡ slice 0 24 key
  unfolding layout_in
  names_are = zip_firsts channel_in channel_name (λ a b. refl) (slice 0 24 key) (slice 24 48 key) (both24 0 24 (omega arith) (omega arith))

  pub actives_are : map active l.channels ≡ map (λ (f : ℕ). eqb f 1) (slice 24 48 key)
  unfolding layout_in
  actives_are = zip_seconds channel_in active (λ (f : ℕ). eqb f 1) flag_active (slice 0 24 key) (slice 24 48 key) (both24 0 24 (omega arith) (omega arith))

  pub layer_counts_are : map layer_count l.layers ≡ slice 48 52 key
  unfolding layout_in
  layer_counts_are = zip_firsts layer_in layer_count (λ a b. refl) (slice 48 52 key) (slice 100 104 key) (omega (arith, part 48 52 (omega arith), part 100 104 (omega arith)))

  pub zs_are : map layer_z l.layers ≡ map double (slice 100 104 key)
  unfolding layout_in
  zs_are = zip_seconds layer_in layer_z double (λ a b. refl) (slice 48 52 key) (slice 100 104 key) (omega (arith, part 48 52 (omega arith), part 100 104 (omega arith)))

  pub row_counts_are : map row_count l.rows ≡ slice 52 76 key
  unfolding layout_in
  row_counts_are = zip_firsts row_in row_count (λ a b. refl) (slice 52 76 key) (slice 104 128 key) (both24 52 104 (omega arith) (omega arith))

  pub ys_are : map row_y l.rows ≡ map double (slice 104 128 key)
  unfolding layout_in
  ys_are = zip_seconds row_in row_y double (λ a b. refl) (slice 52 76 key) (slice 104 128 key) (both24 52 104 (omega arith) (omega arith))

  pub anchor_names_are : map anchor_name l.anchors ≡ slice 76 100 key
  unfolding layout_in
  anchor_names_are = zip_firsts anchor_in anchor_name (λ a b. refl) (slice 76 100 key) (slice 128 152 key) (both24 76 128 (omega arith) (omega arith))

  pub xs_are : map anchor_x l.anchors ≡ map double (slice 128 152 key)
  unfolding layout_in
  xs_are = zip_seconds anchor_in anchor_x double (λ a b. refl) (slice 76 100 key) (slice 128 152 key) (both24 76 128 (omega arith) (omega arith))

  pub sized : Sized l
  unfolding layout_in
  sized =
      record {
        channels = zip_length channel_in (slice 0 24 key) (slice 24 48 key) (both24 0 24 (omega arith) (omega arith)) ∙ part 0 24 (omega arith);
        layers = zip_length layer_in (slice 48 52 key) (slice 100 104 key) (omega (arith, part 48 52 (omega arith), part 100 104 (omega arith))) ∙ part 48 52 (omega arith);
        rows = zip_length row_in (slice 52 76 key) (slice 104 128 key) (both24 52 104 (omega arith) (omega arith)) ∙ part 52 76 (omega arith);
        anchors = zip_length anchor_in (slice 76 100 key) (slice 128 152 key) (both24 76 128 (omega arith) (omega arith)) ∙ part 76 100 (omega arith);
      }
