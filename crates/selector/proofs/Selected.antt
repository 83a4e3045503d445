-- The call by its layout's key: the questions before question 11 are the call's, and what is wanted of the planned key is what the call wants.
use Prim.Native.Nat.{ℕ}
use mathlib.Core.Path.{◌≡◌, refl, sym, ap, ap₂, ◌∙◌, subst}
use mathlib.Core.Bool.{Bool, true, false, cond}
use mathlib.Core.List.{List, ◌++◌}
use native.Mathlib.Omega.{arith}
use borrow.Author.Tests.{eqb-true, eqb-false, ne_eqb}
use lib.Dec.{eqb}
use lib.Ieee.{Float}
use Rattle.layout.specs.declared.Layout.{Layout}
use Rattle.layout.specs.Questions.{Question, first_no, or_else, layout_questions}
use Rattle.std.specs.Prelude.{Result, Ok, Err}
use Rattle.layout.specs.declared.refusal.Refusal.{Refusal}
use Rattle.layout.specs.Refusals.{refusal_of, answer_by}
use Rattle.layout.proofs.RefusalLaws.{ok_says, err_says}
use Rattle.layout.specs.Room.{Room, active_in}
use Rattle.layout.specs.Topology.{TopologyLayer}
use Rattle.layout.proofs.Sizes.{Sized}
use Rattle.layout.proofs.SoundRoom.{SoundRoom, sound_room}
use Rattle.layout.proofs.QuestionLists.{first_or_lem, first_front, yes_first, layout_numbered, or_first}
use Rattle.extent.specs.declared.Reading.{Reading}
use Rattle.extent.specs.Extent.{extent_questions, reading_of, mean_of, mean_radius}
use Rattle.extent.proofs.Readings.{extent_numbered}
use Rattle.region.specs.declared.RegionSemanticState.{RegionSemanticState}
use Rattle.region.specs.Zones.{question8, is_default}
use Rattle.selection.specs.Selection.{question9, question10}
use Rattle.selection_laws.proofs.Selected.{nine_in_key, ten_in_key, selected_laid, selected_asked, selected_room_back, key_selected}
use Rattle.keys.specs.Keys.{key_numbers}
use Rattle.keys.specs.Steps.{packed_numbers}
use Rattle.keys.specs.InKey.{layout_in, room_in}
use Rattle.keys.proofs.Asked.{asked_same}
use Rattle.keys.proofs.RoomBack.{back_room}
use Rattle.cache.specs.declared.Word.TheVariants.{Unused}
use Rattle.selector.specs.Call.{Call, Found, Answer, Wanted, Typed, state_by, lent_room, answered, zone_questions, selected_of, answer_of}
use Rattle.selector.specs.declared.Reply.{Reply}
use Rattle.selector.specs.Steps.{plan_of, planned_key, wanted_in, later_answer, Leaves}
use Rattle.selector.proofs.Planned.{plan_first, plan_no, plan_is, wide}
use Rattle.selector.proofs.Whole.{before, call_refused, call_later, later_back}

module _ (c : Call) (t : Typed c) where
  abbrev l : Layout
  l = c.layout

  abbrev state : RegionSemanticState
  state = state_by c.flags

  abbrev pub packed : List ℕ
  packed = packed_numbers l c.epoch

  sized : Sized l
  sized = record { channels = t.channels; layers = t.layers; rows = t.rows; anchors = t.anchors }

  -- the selected room of an accepted layout is sound
  pub call_sound : first_no (layout_questions l) ≡ 0 → question9 state (lent_room c) ≡ true → SoundRoom (selected_of c)
  call_sound none nine =
      let p = selected_laid l sized t.zs t.ys t.xs state none nine in
      subst SoundRoom p.room (sound_room p.layout p.sized p.yes p.zs p.ys p.xs)

  module _ (f : Found) where
    before_first : first_no (before c f) ≡ or_else (first_no (layout_questions l)) (or_else (first_no (extent_questions c.extent)) (first_no (zone_questions c.flags (lent_room c))))
    before_first =
        first_or_lem (layout_questions l) (extent_questions c.extent ++ zone_questions c.flags (lent_room c)) (layout_numbered l)
        ∙ ap (or_else (first_no (layout_questions l))) (first_or_lem (extent_questions c.extent) (zone_questions c.flags (lent_room c)) (extent_numbered c.extent))

    zones_same : first_no (layout_questions l) ≡ 0 → zone_questions c.flags (room_in packed) ≡ zone_questions c.flags (lent_room c)
    unfolding zone_questions
    zones_same none =
        rw (nine_in_key l sized t.zs t.ys t.xs state none c.epoch, ten_in_key l sized t.zs t.ys t.xs state none c.epoch)

    abbrev rest : Room → ℕ
    rest r = or_else (first_no (extent_questions c.extent)) (first_no (zone_questions c.flags r))

    -- the questions before question 11
    pub plan_same : plan_no packed c.extent c.flags ≡ first_no (before c f)
    plan_same =
        plan_first packed c.extent c.flags
        ∙ ap (λ (n : ℕ). or_else n (rest (room_in packed))) (asked_same l sized t.zs t.ys t.xs c.epoch)
        ∙ go (eqb (first_no (layout_questions l)) 0) refl
        ∙ sym before_first
      where
        go : (b : Bool) → eqb (first_no (layout_questions l)) 0 ≡ b → or_else (first_no (layout_questions l)) (rest (room_in packed)) ≡ or_else (first_no (layout_questions l)) (rest (lent_room c))
        go true e = ap (λ (qs : List Question). or_else (first_no (layout_questions l)) (or_else (first_no (extent_questions c.extent)) (first_no qs))) (zones_same (eqb-true (first_no (layout_questions l)) 0 e))
        go false e =
            let n = first_no (layout_questions l) in
            or_first n (rest (room_in packed)) (eqb-false n 0 e) ∙ sym (or_first n (rest (lent_room c)) (eqb-false n 0 e))

    -- ---- where they have no no
    module _ (z : first_no (before c f) ≡ 0) where
      asked : (first_no (layout_questions l) ≡ 0) × (question9 state (lent_room c) ≡ true) × (question10 state (lent_room c) ≡ true)
      unfolding zone_questions
      asked =
          let s = first_front (layout_questions l) (extent_questions c.extent ++ zone_questions c.flags (lent_room c)) (layout_numbered l) z in
          let x = first_front (extent_questions c.extent) (zone_questions c.flags (lent_room c)) (extent_numbered c.extent) s.1 in
          let b = yes_first (question8 c.flags) _ 8 (omega arith) x.1 in
          let d = yes_first (question9 state (lent_room c)) _ 9 (omega arith) b.1 in
          let g = yes_first (question10 state (lent_room c)) _ 10 (omega arith) d.1 in
          (s.0, d.0, g.0)

      abbrev room : Room
      room = selected_of c

      abbrev key : List ℕ
      key = key_numbers room c.epoch

      planned_is : planned_key packed c.extent c.flags ≡ key
      planned_is =
          let a = asked in
          sym (wide packed c.extent c.flags (plan_same ∙ z)).1
          ∙ key_selected l sized t.zs t.ys t.xs state a.0 a.1 c.epoch a.2

      -- the planned key is that of an accepted room
      pub planned_yes : first_no (layout_questions (layout_in (planned_key packed c.extent c.flags))) ≡ 0
      planned_yes =
          let a = asked in
          ap (λ (k : List ℕ). first_no (layout_questions (layout_in k))) planned_is
          ∙ selected_asked l sized t.zs t.ys t.xs state a.0 a.1 c.epoch

      channels : active_in room ≡ answered c
      channels = go (is_default state) _
        where
          go : (b : Bool) (ys : List TopologyLayer) → active_in (cond b (lent_room c) (record { channels = (lent_room c).channels; layers = ys })) ≡ answered c
          go true ys = refl
          go false ys = refl

      -- and what is wanted of it is what the call wants
      pub planned_answer : later_answer (wanted_in (planned_key packed c.extent c.flags) (reading_of c.extent) c.centre c.points c.gains) f ≡ answer_of c f
      planned_answer =
          let a = asked in
          let of : Room → ℕ → Wanted = λ (r : Room) (n : ℕ). record { room = r; key = key; n = n; mean = mean_of c.extent; radius = mean_radius (mean_of c.extent); centre = c.centre; points = c.points; gains = c.gains } in
          let back = selected_room_back l sized t.zs t.ys t.xs state a.0 a.1 c.epoch in
          ap (λ (k : List ℕ). later_answer (wanted_in k (reading_of c.extent) c.centre c.points c.gains) f) planned_is
          ∙ ap (λ (w : Wanted). later_answer w f) (ap (λ (r : Room). of r (active_in r)) back ∙ ap (of (back_room room)) channels)
          ∙ later_back room (call_sound a.0 a.1) key (answered c) (mean_of c.extent) (mean_radius (mean_of c.extent)) c.centre c.points c.gains f
          ∙ sym (call_later c f z)

    -- ---- by the plan of the key that was packed
    module _ (key : List ℕ) (k : key ≡ packed) (p : Result Reading Refusal) (pl : p ≡ plan_of key c.extent c.flags) where
      abbrev no : ℕ
      no = plan_no packed c.extent c.flags

      told : p ≡ answer_by no (reading_of c.extent)
      told =
          pl
          ∙ ap (λ (x : List ℕ). plan_of x c.extent c.flags) k
          ∙ plan_is packed c.extent c.flags

      pub plan_refuses : (r : Refusal) (s : Reply) → p ≡ Err r → s ≡ record { outcome = Err r; ring = f.ring } → Leaves (answer_of c f) s f.keys f.store c.gains
      plan_refuses r s e m =
          let w = err_says no (reading_of c.extent) r (sym told ∙ e) in
          let n : first_no (before c f) ≡ 0 → ⊥ = λ z. w.0 (plan_same ∙ z) in
          let is : r ≡ refusal_of (first_no (before c f)) = w.1 ∙ ap refusal_of plan_same in
          subst (λ (a : Answer). Leaves a s f.keys f.store c.gains) (sym (call_refused c f n))
          (m ∙ ap (λ (i : Refusal). record { outcome = Err i; ring = f.ring }) is ∙ sym (ap (λ (b : Bool). record { outcome = cond b (Ok (record { n = 0; word = Unused })) (Err (refusal_of (first_no (before c f)))); ring = f.ring }) (ne_eqb _ 0 n)), (refl, (refl, refl)))

      module _ (reading : Reading) (e : p ≡ Ok reading) (key' : List ℕ) (k' : key' ≡ planned_key key c.extent c.flags) where
        says : (no ≡ 0) × (reading ≡ reading_of c.extent)
        says = ok_says no (reading_of c.extent) reading (sym told ∙ e)

        none : first_no (before c f) ≡ 0
        none = sym plan_same ∙ says.0

        left : key' ≡ planned_key packed c.extent c.flags
        left = k' ∙ ap (λ (x : List ℕ). planned_key x c.extent c.flags) k

        pub plan_yes : first_no (layout_questions (layout_in key')) ≡ 0
        plan_yes = ap (λ (x : List ℕ). first_no (layout_questions (layout_in x))) left ∙ planned_yes none

        pub plan_serves : (s : Reply) (keys' : List ℕ) (store' gains' : List Float) → Leaves (later_answer (wanted_in key' reading c.centre c.points c.gains) f) s keys' store' gains' → Leaves (answer_of c f) s keys' store' gains'
        plan_serves s keys' store' gains' h =
            let same : later_answer (wanted_in key' reading c.centre c.points c.gains) f ≡ answer_of c f =
            ap₂ (λ (x : List ℕ) (r : Reading). later_answer (wanted_in x r c.centre c.points c.gains) f) left says.1
            ∙ planned_answer none in
            subst (λ (a : Answer). Leaves a s keys' store' gains') same h
