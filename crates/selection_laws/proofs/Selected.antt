-- Selection in a layout's key, told by the room of document 01: what is refused, the key that is left, and the room in it.
use Prim.Native.Nat.{ℕ, ◌≤◌}
use mathlib.Core.Path.{◌≡◌, refl, sym, ap, ap₂, ◌∙◌, subst}
use mathlib.Core.Bool.{Bool, true, false}
use mathlib.Core.List.{List, map}
use native.Mathlib.Omega.{arith}
use borrow.Author.Tests.{leb-true}
use lib.Dec.{T, leb}
use lib.Ieee.{binary64, fits}
use lib.ListN.{length, set}
use Rattle.std.specs.List.{list_all}
use Rattle.layout.specs.declared.Layout.{Layout}
use Rattle.layout.specs.Steps.Accepted.{Accepted}
use Rattle.layout.specs.Room.{Room, room_of, rows_in, anchors_in}
use Rattle.layout.specs.Topology.{layer_z, row_y, anchor_x, anchor_name}
use Rattle.layout.specs.Questions.{first_no, layout_questions}
use Rattle.layout.proofs.QuestionsAccepted.{accepted}
use Rattle.layout.proofs.Sizes.{Sized}
use Rattle.region.specs.declared.RegionSemanticState.{RegionSemanticState}
use Rattle.region.specs.Zones.{is_default}
use Rattle.keys.specs.Keys.{rows_of_layer, anchors_of_row, key_numbers}
use Rattle.keys.specs.Steps.{packed_numbers}
use Rattle.keys.specs.InKey.{layout_in, room_in}
use Rattle.keys.proofs.Packed.{packed_room}
use Rattle.keys.proofs.Asked.{asked_same}
use Rattle.keys.proofs.RoomBack.{back_room, room_back}
use Rattle.selection.specs.Selection.{selected_room, question9, question10}
use Rattle.kept_anchors.specs.Steps.Kept.{parts_over}
use Rattle.selection.specs.Steps.{z_bits, y_bits, x_bits, with_layers, kept_flags, kept_room, selected_key}
use Rattle.selection.proofs.Answers.{default_key, other_key, default_room, other_room}
use Rattle.selection_laws.proofs.BackRoom.{layers_number, rows_number, anchors_number, layer_counts_back, row_counts_back, names_back, zs_back, ys_back, xs_back, selected_back, nine_back, ten_back}
use Rattle.selection_laws.proofs.KeyOver.{z_pat, y_pat, x_pat, key_over}
use Rattle.selection_laws.proofs.FlatRoom.{flat_room, flat_room_lem, flat_sized, flat_zs, flat_ys, flat_xs}
use Rattle.selection_laws.proofs.KeptQuestions.{kept_within, lent_zs, kept_zs_fit, kept_ys_fit, kept_xs_fit, kept_yes}

-- ---- a room that is a layout's: one whose questions 1 to 6 are answered yes, and whose coordinates are doubles
pub record Laid (q : Room) : Type 0 where
  pub layout : Layout
  pub sized : Sized layout
  pub none : first_no (layout_questions layout) ≡ 0
  pub yes : Accepted layout
  pub zs : T (list_all (fits binary64) (map layer_z layout.layers))
  pub ys : T (list_all (fits binary64) (map row_y layout.rows))
  pub xs : T (list_all (fits binary64) (map anchor_x layout.anchors))
  pub room : room_of layout ≡ q

module _ {q : Room} (p : Laid q) (e : ℕ) where
  -- its key is the layout's
  pub laid_key : packed_numbers p.layout e ≡ key_numbers q e
  laid_key = sym (packed_room p.layout p.sized p.yes e) ∙ ap (λ (r : Room). key_numbers r e) p.room

  -- questions 1 to 6 of what is in it are answered yes
  pub laid_asked : first_no (layout_questions (layout_in (key_numbers q e))) ≡ 0
  laid_asked = ap (λ (k : List ℕ). first_no (layout_questions (layout_in k))) (sym laid_key) ∙ asked_same p.layout p.sized p.zs p.ys p.xs e ∙ p.none

  -- and its room is in it, with the coordinates as their patterns have them
  pub laid_back : room_in (key_numbers q e) ≡ back_room q
  laid_back = ap room_in (sym laid_key) ∙ room_back p.layout p.sized p.yes e ∙ ap back_room p.room

-- ---- the key of a layout with the layers of the room that is kept
module _ (l : Layout) (s : Sized l) (a : Accepted l) (bs : List Bool) (e : ℕ) where
  abbrev r : Room
  r = room_of l

  abbrev q : Room
  q = kept_room bs r

  abbrev whole : ℕ → ℕ → ℕ → List ℕ → List ℕ → List ℕ → List ℕ → List ℕ → List ℕ → List ℕ → ℕ → List ℕ
  whole n1 n2 n3 c z w y m x key d = set (parts_over 76 128 n3 m x (parts_over 52 104 n2 w y (parts_over 48 100 n1 c z key))) 153 d

  with_layers_lem : with_layers (packed_numbers l e) (back_room q) ≡ key_numbers q e
  unfolding with_layers
  with_layers_lem =
      let b = back_room q in
      let k = packed_numbers l e in
      let i : room_in k ≡ back_room r = room_back l s a e in
      let n1 = ap (λ (u : Room). length u.layers) i ∙ layers_number r in
      let n2 = ap (λ (u : Room). length (rows_in u)) i ∙ rows_number r in
      let n3 = ap (λ (u : Room). length (anchors_in u)) i ∙ anchors_number r in
      let c0 = map rows_of_layer b.layers in
      let z0 = map z_bits b.layers in
      let w0 = map anchors_of_row (rows_in b) in
      let y0 = map y_bits (rows_in b) in
      let m0 = map anchor_name (anchors_in b) in
      let x0 = map x_bits (anchors_in b) in
      let N1 = length r.layers in
      let N2 = length (rows_in r) in
      let N3 = length (anchors_in r) in
      let c1 = map rows_of_layer q.layers in
      let z1 = map z_pat q.layers in
      let w1 = map anchors_of_row (rows_in q) in
      let y1 = map y_pat (rows_in q) in
      let m1 = map anchor_name (anchors_in q) in
      ap₂ (λ (f g : ℕ). whole f g (length (anchors_in (room_in k))) c0 z0 w0 y0 m0 x0 k (length b.layers)) n1 n2
      ∙ ap₂ (λ (f g : ℕ). whole N1 N2 f c0 z0 w0 y0 m0 x0 k g) n3 (layers_number q)
      ∙ ap₂ (λ (f g : List ℕ). whole N1 N2 N3 f g w0 y0 m0 x0 k (length q.layers)) (layer_counts_back q) (zs_back q)
      ∙ ap₂ (λ (f g : List ℕ). whole N1 N2 N3 c1 z1 f g m0 x0 k (length q.layers)) (row_counts_back q) (ys_back q)
      ∙ ap₂ (λ (f g : List ℕ). whole N1 N2 N3 c1 z1 w1 y1 f g k (length q.layers)) (names_back q) (xs_back q)
      ∙ ap (λ (f : List ℕ). whole N1 N2 N3 c1 z1 w1 y1 m1 (map x_pat (anchors_in q)) f (length q.layers)) (sym (packed_room l s a e))
      ∙ key_over q r (kept_within l s a bs) e

-- ---- a layout whose arrays have all their places and whose coordinates are doubles; a state; an epoch
module _ (l : Layout) (s : Sized l) (zs : T (list_all (fits binary64) (map layer_z l.layers))) (ys : T (list_all (fits binary64) (map row_y l.rows))) (xs : T (list_all (fits binary64) (map anchor_x l.anchors))) (t : RegionSemanticState) where
  module _ (none : first_no (layout_questions l) ≡ 0) where
    yes : Accepted l
    yes = accepted l s.channels s.layers s.rows s.anchors none

    -- (1) questions 9 and 10 of the room in the key
    pub nine_in_key : (e : ℕ) → question9 t (room_in (packed_numbers l e)) ≡ question9 t (room_of l)
    nine_in_key e = ap (question9 t) (room_back l s yes e) ∙ nine_back t (room_of l) (lent_zs l s yes (kept_flags t (room_of l)) zs ys xs)

    pub ten_in_key : (e : ℕ) → question10 t (room_in (packed_numbers l e)) ≡ question10 t (room_of l)
    ten_in_key e = ap (question10 t) (room_back l s yes e) ∙ ten_back t (room_of l) (lent_zs l s yes (kept_flags t (room_of l)) zs ys xs)

    module _ (nine : question9 t (room_of l) ≡ true) where
      -- (5) the selected room is a layout's
      pub selected_laid : Laid (selected_room t (room_of l))
      selected_laid = go (is_default t) refl
        where
          lent : Laid (room_of l)
          lent = record { layout = l; sized = s; none = none; yes = yes; zs = zs; ys = ys; xs = xs; room = refl }

          kept : is_default t ≡ false → Laid (kept_room (kept_flags t (room_of l)) (room_of l))
          kept d =
              let bs = kept_flags t (room_of l) in
              let q = kept_room bs (room_of l) in
              let w = kept_within l s yes bs in
              let m = flat_room q in
              let h : 1 ≤ length q.layers = leb-true 1 (length q.layers) (ap (λ (u : Room). leb 1 (length u.layers)) (sym (other_room t (room_of l) d)) ∙ nine) in
              let z : Sized m = flat_sized q w.channels (omega (arith, w.layers, w.fewer_layers)) (omega (arith, w.rows, w.fewer_rows)) (omega (arith, w.anchors, w.fewer_anchors)) in
              let n = kept_yes l s yes bs none h in
              record {
                layout = m;
                sized = z;
                none = n;
                yes = accepted m z.channels z.layers z.rows z.anchors n;
                zs = flat_zs q (kept_zs_fit l s yes bs zs ys xs);
                ys = flat_ys q (kept_ys_fit l s yes bs zs ys xs);
                xs = flat_xs q (kept_xs_fit l s yes bs zs ys xs);
                room = flat_room_lem q;
              }

          go : (b : Bool) → is_default t ≡ b → Laid (selected_room t (room_of l))
          go true d = subst Laid (sym (default_room t (room_of l) d)) lent
          go false d = subst Laid (sym (other_room t (room_of l) d)) (kept d)

      -- (3) and (4): questions 1 to 6 of its key, and the room in it
      pub selected_asked : (e : ℕ) → first_no (layout_questions (layout_in (key_numbers (selected_room t (room_of l)) e))) ≡ 0
      selected_asked e = laid_asked selected_laid e

      pub selected_room_back : (e : ℕ) → room_in (key_numbers (selected_room t (room_of l)) e) ≡ back_room (selected_room t (room_of l))
      selected_room_back e = laid_back selected_laid e

      -- (2) the key that is left
      pub key_selected : (e : ℕ) → question10 t (room_of l) ≡ true → selected_key t (packed_numbers l e) ≡ key_numbers (selected_room t (room_of l)) e
      key_selected e ten = go (is_default t) refl
        where
          asked : first_no (layout_questions (layout_in (packed_numbers l e))) ≡ 0
          asked = asked_same l s zs ys xs e ∙ none

          nine' : question9 t (room_in (packed_numbers l e)) ≡ true
          nine' = nine_in_key e ∙ nine

          ten' : question10 t (room_in (packed_numbers l e)) ≡ true
          ten' = ten_in_key e ∙ ten

          go : (b : Bool) → is_default t ≡ b → selected_key t (packed_numbers l e) ≡ key_numbers (selected_room t (room_of l)) e
          go true d =
              sym (default_key t (packed_numbers l e) asked nine' ten' d)
              ∙ sym (packed_room l s yes e)
              ∙ ap (λ (u : Room). key_numbers u e) (sym (default_room t (room_of l) d))
          go false d =
              sym (other_key t (packed_numbers l e) asked nine' ten' d)
              ∙ ap (with_layers (packed_numbers l e)) (ap (selected_room t) (room_back l s yes e) ∙ selected_back t (room_of l) (lent_zs l s yes (kept_flags t (room_of l)) zs ys xs) ∙ ap back_room (other_room t (room_of l) d))
              ∙ with_layers_lem l s yes (kept_flags t (room_of l)) e
              ∙ ap (λ (u : Room). key_numbers u e) (sym (other_room t (room_of l) d))
