-- What a key is answered and how it is left, by the answers to questions 1 to 6, 9 and 10; and question 9 by the flags.
use Prim.Native.Nat.{ℕ, zero, suc, ◌≤◌}
use mathlib.Core.Path.{◌≡◌, refl, sym, ap, ap₂, ◌∙◌}
use mathlib.Core.Bool.{Bool, true, false, cond, not, ◌&&◌, ◌||◌, true≢false, or-false}
use mathlib.Core.List.{List, [], ◌∷◌, ◌++◌, map}
use native.Mathlib.Omega.{arith}
use borrow.Author.Tests.{le-leb, ne_eqb}
use lib.Dec.{eqb, leb}
use lib.ListN.{length, drop, replicate}
use Rattle.std.specs.Prelude.{Result, Err}
use Rattle.std.specs.List.{list_all, list_any, filter}
use Rattle.layout.specs.declared.Anchor.{Anchor}
use Rattle.layout.specs.declared.refusal.Refusal.{Refusal}
use Rattle.layout.specs.Refusals.{answer_by}
use Rattle.layout.proofs.RefusalLaws.{err_says}
use Rattle.layout.specs.Questions.{first_no, layout_questions, question1, question2, question3, question4, question5, question6}
use Rattle.layout.specs.Room.{Room}
use Rattle.layout.specs.Topology.{TopologyRow, TopologyLayer}
use Rattle.region.specs.declared.RegionSemanticState.{RegionSemanticState}
use Rattle.region.specs.Zones.{is_default, is_include, is_no_constraints}
use Rattle.keys.specs.InKey.{layout_in, room_in}
use Rattle.selection.specs.Selection.{is_empty, has_anchors, has_rows, five_x, classed_layer, stays, passing, passing_from, selected_room, question9, question10}
use Rattle.selection.specs.Steps.{is_set, row_flags, layer_flags, kept_flags, kept_room, with_layers, selection_questions, selected_key}
use Rattle.selection.proofs.Tested.{kept_tested}

-- ---- the first "no"
abbrev by : Bool → Bool → Bool → Bool → Bool → Bool → ℕ → ℕ
by a b c d e f n = cond a (cond b (cond c (cond d (cond e (cond f n 6) 5) 4) 3) 2) 1

by_first : (a b c d e f : Bool) (n : ℕ) → by a b c d e f n ≡ cond (eqb (by a b c d e f 0) 0) n (by a b c d e f 0)
by_first true true true true true true n = refl
by_first true true true true true false n = refl
by_first true true true true false f n = refl
by_first true true true false e f n = refl
by_first true true false d e f n = refl
by_first true false c d e f n = refl
by_first false b c d e f n = refl

module _ (s : RegionSemanticState) (key : List ℕ) where
  abbrev asked : ℕ
  asked = first_no (layout_questions (layout_in key))

  abbrev last : ℕ
  last = cond (question9 s (room_in key)) (cond (question10 s (room_in key)) 0 10) 9

  pub first_no_lem : first_no (selection_questions s key) ≡ cond (eqb asked 0) last asked
  unfolding selection_questions layout_questions
  first_no_lem = let l = layout_in key in by_first (question1 l) (question2 l) (question3 l) (question4 l) (question5 l) (question6 l) last

  key_after_lem : (n : ℕ) → first_no (selection_questions s key) ≡ n → selected_key s key ≡ cond (eqb n 0) (cond (is_default s) key (with_layers key (selected_room s (room_in key)))) key
  unfolding selected_key
  key_after_lem n e = rw e

  -- the answer by a number
  abbrev pub answer : ℕ → Result (Unit {0}) Refusal
  answer n = answer_by n tt

  -- refused: the answer, and the key as it was
  abbrev Refused : ℕ → Type 0
  Refused n = (answer n ≡ answer (first_no (selection_questions s key))) × (key ≡ selected_key s key)

  stays_key : (n : ℕ) → (n ≡ 0 → ⊥) → first_no (selection_questions s key) ≡ n → Refused n
  stays_key n h e = (rw e, sym (key_after_lem n e ∙ ap (λ (b : Bool). cond b (cond (is_default s) key (with_layers key (selected_room s (room_in key)))) key) (ne_eqb n 0 h)))

  pub refused_1_to_6 : (r : Refusal) → answer asked ≡ Err r → (Err r ≡ answer (first_no (selection_questions s key))) × (key ≡ selected_key s key)
  refused_1_to_6 r e =
      let h = (err_says asked tt r e).0 in
      let k = stays_key asked h (first_no_lem ∙ ap (λ (b : Bool). cond b last asked) (ne_eqb asked 0 h)) in
      (sym e ∙ k.0, k.1)

  module _ (none : asked ≡ 0) where
    passed : first_no (selection_questions s key) ≡ last
    passed = first_no_lem ∙ ap (λ (m : ℕ). cond (eqb m 0) last m) none

    pub refused_9 : question9 s (room_in key) ≡ false → Refused 9
    refused_9 p = stays_key 9 (λ z. omega (arith, z)) (passed ∙ ap (λ (b : Bool). cond b (cond (question10 s (room_in key)) 0 10) 9) p)

    module _ (nine : question9 s (room_in key) ≡ true) where
      next : last ≡ cond (question10 s (room_in key)) 0 10
      next = ap (λ (b : Bool). cond b (cond (question10 s (room_in key)) 0 10) 9) nine

      pub refused_10 : question10 s (room_in key) ≡ false → Refused 10
      refused_10 p = stays_key 10 (λ z. omega (arith, z)) (passed ∙ next ∙ ap (λ (b : Bool). cond b 0 10) p)

      -- accepted: 0, and the key by the state
      module _ (ten : question10 s (room_in key) ≡ true) where
        none_no : first_no (selection_questions s key) ≡ 0
        none_no = passed ∙ next ∙ ap (λ (b : Bool). cond b 0 10) ten

        pub answer_0 : answer 0 ≡ answer (first_no (selection_questions s key))
        answer_0 = rw none_no

        by_state : selected_key s key ≡ cond (is_default s) key (with_layers key (selected_room s (room_in key)))
        by_state = key_after_lem 0 none_no

        pub default_key : is_default s ≡ true → key ≡ selected_key s key
        default_key d = sym (by_state ∙ ap (λ (b : Bool). cond b key (with_layers key (selected_room s (room_in key)))) d)

        pub other_key : is_default s ≡ false → with_layers key (selected_room s (room_in key)) ≡ selected_key s key
        other_key d = sym (by_state ∙ ap (λ (b : Bool). cond b key (with_layers key (selected_room s (room_in key)))) d)

-- ---- the default state
module _ (s : RegionSemanticState) (r : Room) where
  pub default_ten : is_default s ≡ true → question10 s r ≡ true
  default_ten e = go (is_no_constraints s.horizontal) e
    where
      go : (b : Bool) → (b && is_include s.top) ≡ true → (b || list_all (classed_layer (five_x r) s) r.layers) ≡ true
      go true q = refl
      go false q = absurd (true≢false (sym q))

  pub default_nine : is_default s ≡ true → 1 ≤ length r.layers → question9 s r ≡ true
  default_nine e h = ap (λ (b : Bool). leb 1 (length (cond b r (record { channels = r.channels; layers = filter has_rows (passing_from (stays s r) 0 r.layers) })).layers)) e ∙ le-leb 1 (length r.layers) h

  pub default_room : is_default s ≡ true → selected_room s r ≡ r
  default_room e = ap (λ (b : Bool). cond b r (record { channels = r.channels; layers = filter has_rows (passing_from (stays s r) 0 r.layers) })) e

  pub other_room : is_default s ≡ false → selected_room s r ≡ kept_room (kept_flags s r) r
  other_room e =
      ap (λ (b : Bool). cond b r (record { channels = r.channels; layers = filter has_rows (passing_from (stays s r) 0 r.layers) })) e
      ∙ ap (λ (ys : List TopologyLayer). record { channels = r.channels; layers = ys }) (sym (kept_tested (stays s r) r.layers _))

-- ---- a layer is left where a flag is set
any_append : (bs cs : List Bool) → list_any is_set (bs ++ cs) ≡ (list_any is_set bs || list_any is_set cs)
any_append [] cs = refl
any_append (true ∷ bs) cs = refl
any_append (false ∷ bs) cs = any_append bs cs

none_set : (n k : ℕ) → list_any is_set (drop n (replicate k false)) ≡ false
none_set zero zero = refl
none_set (suc n) zero = refl
none_set zero (suc k) = none_set zero k
none_set (suc n) (suc k) = none_set n k

anchors_left_lem : (p : Anchor → Bool) (xs : List Anchor) → list_any is_set (map p xs) ≡ not (is_empty (filter p xs))
anchors_left_lem p [] = refl
anchors_left_lem p (x ∷ xs) = go (p x) (anchors_left_lem p xs)
  where
    go : (b : Bool) → list_any is_set (map p xs) ≡ not (is_empty (filter p xs)) → (b || list_any is_set (map p xs)) ≡ not (is_empty (cond b (x ∷ filter p xs) (filter p xs)))
    go true e = refl
    go false e = e

rows_left_lem : (p : Anchor → Bool) (ws : List TopologyRow) → list_any is_set (row_flags p ws) ≡ not (is_empty (filter has_anchors (map (passing p) ws)))
rows_left_lem p [] = refl
rows_left_lem p (w ∷ ws) = any_append (map p w.anchors) (row_flags p ws) ∙ ap₂ ◌||◌ (anchors_left_lem p w.anchors) (rows_left_lem p ws) ∙ go (has_anchors (passing p w))
  where
    go : (b : Bool) → (b || not (is_empty (filter has_anchors (map (passing p) ws)))) ≡ not (is_empty (cond b (passing p w ∷ filter has_anchors (map (passing p) ws)) (filter has_anchors (map (passing p) ws))))
    go true = refl
    go false = refl

some_left : (b : Bool) (y : TopologyLayer) (ys : List TopologyLayer) → (b || leb 1 (length ys)) ≡ leb 1 (length (cond b (y ∷ ys) ys))
some_left true y ys = sym (le-leb 1 (suc (length ys)) (omega arith))
some_left false y ys = refl

layers_left : (t : ℕ → TopologyLayer → Anchor → Bool) (i : ℕ) (ys : List TopologyLayer) → list_any is_set (layer_flags t i ys) ≡ leb 1 (length (filter has_rows (passing_from t i ys)))
layers_left t i [] = refl
layers_left t i (y ∷ ys) =
    let z : TopologyLayer = record { z = y.z; rows = filter has_anchors (map (passing (t i y)) y.rows) } in
    any_append (row_flags (t i y) y.rows) (layer_flags t (suc i) ys)
    ∙ ap₂ ◌||◌ (rows_left_lem (t i y) y.rows) (layers_left t (suc i) ys)
    ∙ some_left (has_rows z) z (filter has_rows (passing_from t (suc i) ys))

pub nine_by_flags : (s : RegionSemanticState) (r : Room) → is_default s ≡ false → list_any is_set (kept_flags s r) ≡ question9 s r
nine_by_flags s r e =
    let f = layer_flags (stays s r) 0 r.layers in
    any_append f (drop (length f) (replicate 24 false))
    ∙ ap (λ (b : Bool). list_any is_set f || b) (none_set (length f) 24)
    ∙ or-false (list_any is_set f)
    ∙ layers_left (stays s r) 0 r.layers
    ∙ ap (λ (b : Bool). leb 1 (length (cond b r (record { channels = r.channels; layers = filter has_rows (passing_from (stays s r) 0 r.layers) })).layers)) (sym e)
