-- The questions before question 11, asked of a key: their first no, and what the plan and the key are by it.
use Prim.Native.Nat.{ℕ}
use mathlib.Core.Path.{◌≡◌, refl, sym, ap, ◌∙◌}
use mathlib.Core.Bool.{Bool, true, false, cond}
use mathlib.Core.List.{List, [], ◌∷◌, ◌++◌}
use borrow.Author.Tests.{eq-eqb, ne_eqb}
use lib.Dec.{eqb}
use Rattle.std.specs.Prelude.{Result, Ok, Err}
use Rattle.layout.specs.declared.refusal.Refusal.{Refusal}
use Rattle.layout.specs.Refusals.{answer_by}
use Rattle.layout.specs.Questions.{Question, first_no, or_else, layout_questions}
use Rattle.layout.proofs.QuestionLists.{first_or_lem, layout_numbered, or_nothing}
use Rattle.layout.proofs.RefusalLaws.{ok_says, err_says, err_passes, ok_passes}
use Rattle.extent.specs.declared.Extent.{Extent}
use Rattle.extent.specs.declared.Reading.{Reading}
use Rattle.extent.specs.Extent.{extent_questions, reading_of}
use Rattle.extent.proofs.Readings.{extent_numbered}
use Rattle.region.specs.declared.RegionSemanticState.{RegionSemanticState}
use Rattle.region.specs.Zones.{zones_of, told, question8, is_default}
use Rattle.region.proofs.Readings.{refused_flags, state_flags}
use Rattle.selection.specs.Selection.{question9, question10, selected_room}
use Rattle.selection.specs.Steps.{with_layers, selection_questions, selected_key}
use Rattle.keys.specs.InKey.{layout_in, room_in}
use Rattle.selector.specs.Call.{state_in, state_by, zone_questions}
use Rattle.selector.specs.Steps.{asked_no, plan_questions, plan_of, planned_key}

-- what the flags are read as, by question 8
pub zones_answer : (flags : List Bool) (z : Result RegionSemanticState Refusal) → z ≡ zones_of flags → told z ≡ cond (question8 flags) 0 8 → z ≡ answer_by (cond (question8 flags) 0 8) (state_by flags)
zones_answer flags (Ok s) is said =
    let y = state_flags flags (Ok s) is said s refl in
    ap Ok (ap state_in is) ∙ rw y
zones_answer flags (Err r) is said =
    let w = refused_flags flags (Err r) is said r refl in
    ap Err w.0 ∙ rw w.1

-- a refusal, whatever the value beside it
pub err_any : {A B : Type 0} (q : ℕ) (a : A) (b : B) (r : Refusal) → answer_by q a ≡ Err r → answer_by q b ≡ Err r
err_any q a b r h = rw or_nothing at (err_passes q 0 a b r h)

-- question 8 is told before those behind it, and after n
split : (n m : ℕ) (b : Bool) → or_else n (cond b m 8) ≡ or_else (or_else n (cond b 0 8)) m
split n m b = go (eqb n 0) b refl
  where
    go : (t b : Bool) → eqb n 0 ≡ t → cond t (cond b m 8) n ≡ or_else (cond t (cond b 0 8) n) m
    go true true e = refl
    go true false e = refl
    go false b e = rw e

-- 7, 18 and 19 are told before 8
pub asked_zones : {A B C : Type 0} (e : Extent) (flags : List Bool) (a d : A) (z : B) (b : C) (r : Refusal) → answer_by (first_no (extent_questions e)) a ≡ Ok d → answer_by (cond (question8 flags) 0 8) z ≡ Err r → answer_by (asked_no e flags) b ≡ Err r
asked_zones e flags a d z b r h k =
    let q = cond (question8 flags) 0 8 in
    ok_passes (first_no (extent_questions e)) q a d b h ∙ err_any q z b r k

module _ (key : List ℕ) (e : Extent) (flags : List Bool) where
  abbrev pub layout_no : ℕ
  layout_no = first_no (layout_questions (layout_in key))

  abbrev extent_no : ℕ
  extent_no = first_no (extent_questions e)

  abbrev zone_no : ℕ
  zone_no = first_no (zone_questions flags (room_in key))

  abbrev pub plan_no : ℕ
  plan_no = first_no (plan_questions key e flags)

  -- 9 and 10, by a state
  abbrev behind : RegionSemanticState → List Question
  behind s =
      record { number = 9; yes = question9 s (room_in key) } ∷ record { number = 10; yes = question10 s (room_in key) } ∷ []

  abbrev behind_no : ℕ
  behind_no = first_no (behind (state_by flags))

  -- what is left of a plan and a key
  abbrev pub Planned : Result Reading Refusal → List ℕ → Type 0
  Planned p k = (p ≡ plan_of key e flags) × (k ≡ planned_key key e flags)

  pub plan_first : plan_no ≡ or_else layout_no (or_else extent_no zone_no)
  unfolding plan_questions
  plan_first =
      first_or_lem (layout_questions (layout_in key)) (extent_questions e ++ zone_questions flags (room_in key)) (layout_numbered (layout_in key))
      ∙ ap (or_else layout_no) (first_or_lem (extent_questions e) (zone_questions flags (room_in key)) (extent_numbered e))

  plan_split : plan_no ≡ or_else layout_no (or_else (asked_no e flags) behind_no)
  unfolding zone_questions
  plan_split = plan_first ∙ ap (or_else layout_no) (split extent_no behind_no (question8 flags))

  pub plan_is : plan_of key e flags ≡ answer_by plan_no (reading_of e)
  unfolding plan_of
  plan_is = refl

  -- by a no
  refused : (r : Refusal) → answer_by plan_no (reading_of e) ≡ Err r → Planned (Err r) key
  unfolding planned_key
  refused r h =
      let no = ne_eqb plan_no 0 (err_says plan_no (reading_of e) r h).0 in
      (sym (plan_is ∙ h), sym (ap (λ (b : Bool). cond b (selected_key (state_by flags) key) key) no))

  -- by none
  pub wide : plan_no ≡ 0 → Planned (Ok (reading_of e)) (selected_key (state_by flags) key)
  unfolding planned_key
  wide z =
      let yes = eq-eqb plan_no 0 z in
      (sym (plan_is ∙ rw yes), sym (ap (λ (b : Bool). cond b (selected_key (state_by flags) key) key) yes))

  module _ {A B : Type 0} (a d : A) (b : B) where
    -- 1 to 6
    pub layout_refused : (r : Refusal) → answer_by layout_no a ≡ Err r → Planned (Err r) key
    layout_refused r h =
        refused r (rw plan_split (err_passes layout_no (or_else (asked_no e flags) behind_no) a (reading_of e) r h))

    -- 7, 18, 19 and 8
    pub asked_refused : (r : Refusal) → answer_by layout_no a ≡ Ok d → answer_by (asked_no e flags) b ≡ Err r → Planned (Err r) key
    asked_refused r h k =
        refused r (rw plan_split (ok_passes layout_no (or_else (asked_no e flags) behind_no) a d (reading_of e) h ∙ err_passes (asked_no e flags) behind_no b (reading_of e) r k))

  -- what is selected by the state, and the refusal of it
  module _ {A : Type 0} (a d : A) (yes : asked_no e flags ≡ 0) (s : RegionSemanticState) (is : s ≡ state_by flags) where
    abbrev selection_no : ℕ
    selection_no = first_no (selection_questions s key)

    selection_is : selection_no ≡ plan_no
    unfolding selection_questions
    selection_is =
        first_or_lem (layout_questions (layout_in key)) (behind s) (layout_numbered (layout_in key))
        ∙ ap (λ (t : RegionSemanticState). or_else layout_no (first_no (behind t))) is
        ∙ sym (plan_split ∙ ap (λ (n : ℕ). or_else layout_no (or_else n behind_no)) yes)

    pub selection_refused : (r : Refusal) → answer_by selection_no a ≡ Err r → (k : List ℕ) → k ≡ selected_key s key → Planned (Err r) k
    unfolding selected_key
    selection_refused r h k w =
        let t = refused r (rw (← selection_is) (err_any selection_no a (reading_of e) r h)) in
        let n = ne_eqb selection_no 0 (err_says selection_no a r h).0 in
        (t.0, w ∙ ap (λ (b : Bool). cond b (cond (is_default s) key (with_layers key (selected_room s (room_in key)))) key) n ∙ t.1)

    pub selection_made : answer_by selection_no a ≡ Ok d → (k : List ℕ) → k ≡ selected_key s key → Planned (Ok (reading_of e)) k
    selection_made h k w =
        let t = wide (sym selection_is ∙ (ok_says selection_no a d h).0) in
        (t.0, w ∙ ap (λ (u : RegionSemanticState). selected_key u key) is ∙ t.1)
