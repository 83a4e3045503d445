-- The whole call: refused by a question before question 11, or answered by what it wants; and a room read back from its key is served alike.
use Prim.Native.Nat.{ℕ}
use mathlib.Core.Path.{◌≡◌, refl, sym, ap, ap₂, ◌∙◌}
use mathlib.Core.Bool.{Bool, cond}
use mathlib.Core.List.{List, ◌++◌, map, append_assoc}
use borrow.Author.Tests.{ne_eqb}
use lib.Dec.{eqb, ltb}
use lib.Ieee.{Float}
use lib.ListN.{length, length-map}
use Rattle.layout.specs.Questions.{Question, first_no, or_else, layout_questions}
use Rattle.layout.specs.Room.{Room}
use Rattle.layout.proofs.SoundRoom.{SoundRoom}
use Rattle.layout.proofs.QuestionLists.{Numbered, numbered_append, first_or_lem, layout_numbered, or_none, or_first}
use Rattle.layout.proofs.TopologyCut.{mapped_layer}
use Rattle.extent.specs.Extent.{extent_questions}
use Rattle.extent.proofs.Readings.{extent_numbered}
use Rattle.field.specs.Place.{filled}
use Rattle.field_laws.proofs.SamePlaces.{back_filled}
use Rattle.layout.specs.declared.Centre.{Centre}
use Rattle.gains.specs.Gains.{projected}
use Rattle.keys.proofs.Back.{back}
use Rattle.keys.proofs.RoomBack.{back_room}
use Rattle.std.specs.Prelude.{Option, Some, None}
use Rattle.cache.specs.declared.Word.TheVariants.{Unused, Kept, Built}
use Rattle.cache.specs.Questions.{lent_questions, state_questions}
use Rattle.cache.specs.Places.{with_key, slot_of, new_place, ring_after}
use Rattle.selector.specs.Call.{Call, Found, Answer, Wanted, lent_room, answered, zone_questions, argument_questions, call_questions, wanted, accepted_with, newly_built, keyed_by, served, refused_by, answer_of}
use Rattle.selector.specs.Steps.{later_questions, later_answer}
use Rattle.selector.proofs.Questions.{zone_numbered}

-- ---- before question 11
module _ (c : Call) (f : Found) where
  abbrev pub before : List Question
  before = layout_questions c.layout ++ (extent_questions c.extent ++ zone_questions c.flags (lent_room c))

  before_numbered : Numbered before
  before_numbered =
      numbered_append (layout_questions c.layout) _ (layout_numbered c.layout)
      (numbered_append (extent_questions c.extent) _ (extent_numbered c.extent) (zone_numbered c.flags c))

  abbrev lent : List Question
  lent = lent_questions c.centre c.points (answered c) (length c.gains) (length f.store)

  abbrev state : List Question
  state = state_questions f.ring.count f.ring.oldest

  in_order : call_questions c f ≡ before ++ later_questions (wanted c) f
  unfolding call_questions argument_questions
  in_order =
      let a = layout_questions c.layout in
      let b = extent_questions c.extent in
      let z = zone_questions c.flags (lent_room c) in
      ap (λ (x : List Question). x ++ state) (ap (λ (x : List Question). a ++ x) (sym (append_assoc b z lent)) ∙ sym (append_assoc a (b ++ z) lent))
      ∙ append_assoc (a ++ (b ++ z)) lent state

  call_no : first_no (call_questions c f) ≡ or_else (first_no before) (first_no (later_questions (wanted c) f))
  call_no = ap first_no in_order ∙ first_or_lem before (later_questions (wanted c) f) before_numbered

  by : ℕ → Answer
  by q = cond (eqb q 0) (served (wanted c) f) (refused_by q c.gains f)

  answer_by : answer_of c f ≡ by (first_no (call_questions c f))
  unfolding answer_of by
  answer_by = refl

  -- a no among them
  pub call_refused : (first_no before ≡ 0 → ⊥) → answer_of c f ≡ refused_by (first_no before) c.gains f
  unfolding by
  call_refused n =
      answer_by
      ∙ ap by (call_no ∙ or_first (first_no before) (first_no (later_questions (wanted c) f)) n)
      ∙ ap (λ (b : Bool). cond b (served (wanted c) f) (refused_by (first_no before) c.gains f)) (ne_eqb (first_no before) 0 n)

  -- none
  pub call_later : first_no before ≡ 0 → answer_of c f ≡ later_answer (wanted c) f
  unfolding by later_answer
  call_later z = answer_by ∙ ap by (call_no ∙ or_none (first_no before) (first_no (later_questions (wanted c) f)) z)

-- ---- a room that is read back from its key
module _ (r : Room) (sound : SoundRoom r) (key : List ℕ) (n mean : ℕ) (radius : Float) (c : Centre) (points gains : List Float) (f : Found) where
  abbrev of : Room → Wanted
  of x = record { room = x; key = key; n = n; mean = mean; radius = radius; centre = c; points = points; gains = gains }

  deep : length (map (mapped_layer back) r.layers) ≡ length r.layers
  deep = length-map r.layers (mapped_layer back)

  gains_back : (store : List Float) (p : ℕ) → projected store p n (ltb 1 (length (map (mapped_layer back) r.layers))) mean radius c points gains ≡ projected store p n (ltb 1 (length r.layers)) mean radius c points gains
  gains_back store p = ap (λ (k : ℕ). projected store p n (ltb 1 k) mean radius c points gains) deep

  built_back : newly_built (of (back_room r)) f ≡ newly_built (of r) f
  built_back =
      let p = new_place f.ring in
      let whole : List Float → List Float → Answer = λ (s g : List Float). record { refusal = 0; n = n; word = Built; gains = g; found = record { keys = with_key f.keys p key; ring = ring_after f.ring; store = s } } in
      ap₂ whole (back_filled r sound p f.store)
      (gains_back (filled (back_room r) p f.store) p ∙ ap (λ (s : List Float). projected s p n (ltb 1 (length r.layers)) mean radius c points gains) (back_filled r sound p f.store))

  accepted_back : (word : _) (p : ℕ) → accepted_with word (of (back_room r)) f p ≡ accepted_with word (of r) f p
  accepted_back word p = ap (λ (g : List Float). record { refusal = 0; n = n; word = word; gains = g; found = f }) (gains_back f.store p)

  keyed_back : (s : Option ℕ) → keyed_by (of (back_room r)) f s ≡ keyed_by (of r) f s
  keyed_back (Some p) = accepted_back Kept p
  keyed_back None = built_back

  served_back : served (of (back_room r)) f ≡ served (of r) f
  unfolding served
  served_back = ap₂ (cond (eqb mean 0)) (accepted_back Unused 0) (keyed_back (slot_of f.keys f.ring key))

  pub later_back : later_answer (of (back_room r)) f ≡ later_answer (of r) f
  unfolding later_answer
  later_back = let q = first_no (later_questions (of r) f) in ap (λ (a : Answer). cond (eqb q 0) a (refused_by q gains f)) served_back
