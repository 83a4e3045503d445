-- What owning a layout and a centre tells of a call's types: its arrays have their lengths, and its coordinates are doubles.
use mathlib.Core.Path.{sym, subst}
use mathlib.Core.List.{List, [], ◌∷◌, map}
use lib.Dec.{T}
use lib.Ieee.{binary64, fits}
use mir.Val.{Val}
use mir.Facts.{yes_and}
use denote.Array.{each}
use denote.Shadow.{shadow}
use Rattle.std.specs.List.{list_all}
use Rattle.layout.specs.declared.Anchor.{Anchor}
use Rattle.layout.specs.declared.Row.{Row}
use Rattle.layout.specs.declared.Layer.{Layer}
use Rattle.layout.specs.Topology.{layer_z, row_y, anchor_x}
use Rattle.layout.specs.declared.Layout.{Layout}
use Rattle.layout.specs.contracts.Layout as layout
use Rattle.layout.specs.contracts.Anchor as anchor
use Rattle.layout.specs.contracts.Row as row
use Rattle.layout.specs.contracts.Layer as layer
use Rattle.layout.specs.contracts.Centre as centre
use borrow.Author.Rules.{rules}
use Rattle.lists.proofs.Loops.{long}
use Rattle.selector.specs.Call.{Call, Typed}

pub zs_owned : (xs : List Layer) (us : List Val) → shadow (each layer.the_row.Denot layer.the_row.own_val xs us) → T (list_all (fits binary64) (map layer_z xs))
zs_owned [] us s = tt
zs_owned (x ∷ xs) [] s = absurd s
zs_owned (x ∷ xs) (u ∷ us) s = yes_and (fits binary64 x.z) (list_all (fits binary64) (map layer_z xs)) (subst T (sym s.0.1.1.0.1) tt) (zs_owned xs us s.1)

pub ys_owned : (xs : List Row) (us : List Val) → shadow (each row.the_row.Denot row.the_row.own_val xs us) → T (list_all (fits binary64) (map row_y xs))
ys_owned [] us s = tt
ys_owned (x ∷ xs) [] s = absurd s
ys_owned (x ∷ xs) (u ∷ us) s = yes_and (fits binary64 x.y) (list_all (fits binary64) (map row_y xs)) (subst T (sym s.0.1.1.0.1) tt) (ys_owned xs us s.1)

pub xs_owned : (xs : List Anchor) (us : List Val) → shadow (each anchor.the_row.Denot anchor.the_row.own_val xs us) → T (list_all (fits binary64) (map anchor_x xs))
xs_owned [] us s = tt
xs_owned (x ∷ xs) [] s = absurd s
xs_owned (x ∷ xs) (u ∷ us) s = yes_and (fits binary64 x.x) (list_all (fits binary64) (map anchor_x xs)) (subst T (sym s.0.1.1.1.0.1) tt) (xs_owned xs us s.1)

-- of a layout
pub layout_owned : (l : Layout) (us : List Val) → shadow (layout.the_row.own_val l us) → T (list_all (fits binary64) (map layer_z l.layers)) × T (list_all (fits binary64) (map row_y l.rows)) × T (list_all (fits binary64) (map anchor_x l.anchors))
layout_owned l us s =
    (zs_owned l.layers s.1.1.1.1.0.0 s.1.1.1.1.0.1.1, ys_owned l.rows s.1.1.1.1.1.1.0.0 s.1.1.1.1.1.1.0.1.1, xs_owned l.anchors s.1.1.1.1.1.1.1.0.0 s.1.1.1.1.1.1.1.0.1.1)

-- of a call
pub call_owned : (c : Call) (us vs : List Val) → shadow (layout.the_row.own_val c.layout us) → shadow (centre.the_row.own_val c.centre vs) → Typed c
call_owned c us vs s t =
    let lent = layout_owned c.layout us s in
    record {
      channels = search (rules, long);
      layers = search (rules, long);
      rows = search (rules, long);
      anchors = search (rules, long);
      zs = lent.0;
      ys = lent.1;
      xs = lent.2;
      centre = (subst T (sym t.1.1.0.1) tt, subst T (sym t.1.1.1.0.1) tt, subst T (sym t.1.1.1.1.0.1) tt);
    }
