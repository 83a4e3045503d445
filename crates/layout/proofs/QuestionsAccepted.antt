-- Six answers "yes" make a layout `Accepted`.
use Prim.Native.Nat.{ℕ, zero, suc, ◌+◌, ◌≤◌, ◌<◌}
use mathlib.Core.Path.{◌≡◌, refl, sym, ◌∙◌}
use mathlib.Core.Bool.{Bool, true, false, ◌&&◌, cond}
use mathlib.Core.List.{List, [], ◌∷◌, map}
use native.Mathlib.Omega.{arith}
use lib.Dec.{leb, eqb}
use lib.Ieee.{Float}
use lib.ListN.{length, get_or, take, length-map, get_or-map}
use lib.Seq.{slice, get_or-take, length-take-le}
use borrow.Author.Tests.{leb-true, eqb-false, not-true}
use Rattle.lists.specs.Lists.{elem, all_distinct, total}
use Rattle.std.specs.List.{list_all}
use Rattle.std.proofs.lemmas.Bool.{and_parts}
use Rattle.std.proofs.lemmas.Float.{T_from_true}
use Rattle.layout.specs.declared.Layout.{Layout}
use Rattle.layout.specs.Name.{valid_name}
use Rattle.layout.specs.Channels.{channels_of, channel_name, active, active_names, active_count}
use Rattle.layout.specs.Topology.{topology_of, used_layers, used_rows, used_anchors, anchor_name, anchor_x, row_y, row_count, layer_z, layer_count}
use Rattle.layout.specs.Steps.Starts.{row_starts, anchor_starts, no_row, no_layer, no_anchor}
use Rattle.layout.specs.Questions.{first_no, layout_questions, question1, question2, question3, question4, question5, question6, from_to, ordered, ordered_layer, topology_z}
use Rattle.layout.specs.Steps.Counts.{parts_ordered}
use Rattle.layout.specs.Steps.Accepted.{Accepted}
use Rattle.layout.proofs.TopologyStarts.{start_sum}
use Rattle.layout.proofs.StartsFrom.{starts_length}
use Rattle.layout.proofs.ActiveNames.{count_most}
use Rattle.layout.proofs.QuestionsCounted.{within, total_most}
use Rattle.layout.proofs.QuestionsLoops.{all_at}
use Rattle.layout.proofs.QuestionsNamed.{any_count}
use Rattle.layout.proofs.QuestionsOrdered.{question5_flat}

-- ---- a test of each, of one

-- of what a function made of the first n
pub all_map_at : {A B : Type 0} (p : B → Bool) (f : A → B) (n : ℕ) (l : List A) (i : ℕ) (d : A) → list_all p (map f (take n l)) ≡ true → i < length (take n l) → i < n → p (f (get_or l i d)) ≡ true
all_map_at p f n l i d e h k =
    rw (← get_or-take n l i d k, ← get_or-map f (take n l) i d) (all_at p (map f (take n l)) i (f d) e (rw (length-map (take n l) f) h))

-- of the parts between starts, and of the first n of them
part_in : (xs : List Float) (starts : List ℕ) (i : ℕ) → parts_ordered xs starts ≡ true → suc i < length starts → ordered (slice (get_or starts i 0) (get_or starts (suc i) 0) xs) ≡ true
unfolding parts_ordered
part_in xs [] i e h = absurd (omega arith)
part_in xs (a ∷ []) i e h = absurd (omega arith)
part_in xs (a ∷ b ∷ starts) zero e h = (and_parts (ordered (slice a b xs)) (parts_ordered xs (b ∷ starts)) e).0
part_in xs (a ∷ b ∷ starts) (suc i) e h = part_in xs (b ∷ starts) i (and_parts (ordered (slice a b xs)) (parts_ordered xs (b ∷ starts)) e).1 (omega arith)

pub part_at : (xs : List Float) (starts : List ℕ) (n i : ℕ) → parts_ordered xs (take (n + 1) starts) ≡ true → i < n → n < length starts → ordered (slice (get_or starts i 0) (get_or starts (suc i) 0) xs) ≡ true
part_at xs starts n i e h k =
    rw (← get_or-take (n + 1) starts i 0 (omega arith), ← get_or-take (n + 1) starts (suc i) 0 (omega arith))
    (part_in xs (take (n + 1) starts) i e (rw (length-take-le (n + 1) starts (omega arith)) (omega arith)))

-- ---- the answers
abbrev Yes : Layout → Type 0
Yes l = (question1 l ≡ true) × (question2 l ≡ true) × (question3 l ≡ true) × (question4 l ≡ true) × (question5 l ≡ true) × (question6 l ≡ true)

yes_then : (b : Bool) (n k : ℕ) → cond b n (suc k) ≡ 0 → (b ≡ true) × (n ≡ 0)
yes_then true n k e = (refl, e)
yes_then false n k e = absurd (omega arith)

pub all_yes : (l : Layout) → first_no (layout_questions l) ≡ 0 → Yes l
unfolding layout_questions
all_yes l e =
    let a = yes_then (question1 l) _ _ e in
    let b = yes_then (question2 l) _ _ a.1 in
    let c = yes_then (question3 l) _ _ b.1 in
    let d = yes_then (question4 l) _ _ c.1 in
    let f = yes_then (question5 l) _ _ d.1 in
    let g = yes_then (question6 l) _ _ f.1 in
    (a.0, b.0, c.0, d.0, f.0, g.0)

-- ---- what each answer says
module _ (l : Layout) where
  pub yes1 : question1 l ≡ true → (from_to 1 24 l.used ≡ true) × (list_all valid_name (map channel_name (channels_of l)) ≡ true) × (all_distinct (map channel_name (channels_of l)) ≡ true)
  unfolding question1
  yes1 e =
      let names = map channel_name (channels_of l) in
      let p = and_parts (from_to 1 24 l.used && list_all valid_name names) (all_distinct names) e in
      let q = and_parts (from_to 1 24 l.used) (list_all valid_name names) p.0 in
      (q.0, q.1, p.1)

  yes3 : question3 l ≡ true → 1 ≤ active_count l
  yes3 e =
      let n = not-true (eqb (active_count l) 0) (sym (any_count active channel_name (channels_of l)) ∙ e) in
      let f = eqb-false (active_count l) 0 n in
      omega arith

  yes4 : question4 l ≡ true → (list_all (from_to 1 6) (map layer_count (used_layers l)) ≡ true) × (list_all (leb 1) (map row_count (used_rows l)) ≡ true) × (total (map row_count (used_rows l)) ≤ 24)
  unfolding question4
  yes4 e =
      let cs = map layer_count (used_layers l) in
      let ns = map row_count (used_rows l) in
      let p = and_parts (list_all (from_to 1 6) cs && list_all (leb 1) ns) (leb (total ns) 24) e in
      let q = and_parts (list_all (from_to 1 6) cs) (list_all (leb 1) ns) p.0 in
      (q.0, q.1, leb-true (total ns) 24 p.1)

  yes5 : question5 l ≡ true → (ordered (map topology_z (topology_of l)) ≡ true) × (list_all ordered_layer (topology_of l) ≡ true)
  unfolding question5
  yes5 e = and_parts (ordered (map topology_z (topology_of l))) (list_all ordered_layer (topology_of l)) e

  pub yes6 : question6 l ≡ true → list_all (λ (n : ℕ). elem n (active_names l)) (map anchor_name (used_anchors l)) ≡ true
  unfolding question6
  yes6 e = e

-- ---- the law
module _ (l : Layout) (channels : length l.channels ≡ 24) (layers : length l.layers ≡ 4) (rows : length l.rows ≡ 24) (anchors : length l.anchors ≡ 24) where
  pub accepted : first_no (layout_questions l) ≡ 0 → Accepted l
  accepted e =
      let y = all_yes l e in
      let cs = map layer_count (used_layers l) in
      let ns = map row_count (used_rows l) in
      let q1 = yes1 l y.0 in
      let used = within 1 24 l.used q1.0 in
      let depth = within 1 4 l.depth y.1 in
      let q3 = yes3 l y.2 in
      let q4 = yes4 l y.3 in
      let q5 = yes5 l y.4 in
      let q6 = yes6 l y.5 in
      let depth_is : length (used_layers l) ≡ l.depth = length-take-le l.depth l.layers (omega arith) in
      let few : total cs ≤ 24 = let m = total_most cs q4.0 in let n = length-map (used_layers l) layer_count in omega arith in
      let rows_are : length (used_rows l) ≡ total cs = length-take-le (total cs) l.rows (omega arith) in
      let anchors_are : length (used_anchors l) ≡ total ns = length-take-le (total ns) l.anchors (omega arith) in
      let flat = question5_flat l layers rows anchors depth.1 ∙ y.4 in
      let p = and_parts (ordered (take l.depth (map layer_z l.layers)) && parts_ordered (map row_y l.rows) (take (l.depth + 1) (row_starts l))) (parts_ordered (map anchor_x l.anchors) (take (length (used_rows l) + 1) (anchor_starts l))) flat in
      let zy = and_parts (ordered (take l.depth (map layer_z l.layers))) (parts_ordered (map row_y l.rows) (take (l.depth + 1) (row_starts l))) p.0 in
      let count : (i : ℕ) → i < l.depth → (1 ≤ (get_or l.layers i no_layer).count) × ((get_or l.layers i no_layer).count ≤ 6) =
      λ i h. within 1 6 (get_or l.layers i no_layer).count (all_map_at (from_to 1 6) layer_count l.depth l.layers i no_layer q4.0 (omega arith) h) in
      record {
        some_channels = used.0;
        few_channels = used.1;
        some_layers = depth.0;
        few_layers = depth.1;
        some_active = q3;
        few_active = count_most l channels;
        some_rows = λ i h. (count i h).0;
        few_rows = λ i h. (count i h).1;
        some_anchors = λ i h. leb-true 1 (get_or l.rows i no_row).count (all_map_at (leb 1) row_count (total cs) l.rows i no_row q4.1 h (omega arith));
        most_rows = omega arith;
        most_anchors = omega arith;
        row_total = rows_are;
        anchor_total = anchors_are;
        row_start = λ i h. start_sum layer_count l.layers i l.depth h (omega arith) few;
        anchor_start = λ i h. start_sum row_count l.rows i (total cs) (omega arith) (omega arith) q4.2;
        z_ordered = T_from_true _ q5.0;
        layers_ordered = T_from_true _ q5.1;
        zs_ordered = T_from_true _ zy.0;
        ys_ordered = λ i h. T_from_true _ (part_at (map row_y l.rows) (row_starts l) l.depth i zy.1 h (rw (starts_length 0 (map layer_count l.layers), length-map l.layers layer_count) (omega arith)));
        xs_ordered = λ i h. T_from_true _ (part_at (map anchor_x l.anchors) (anchor_starts l) (length (used_rows l)) i p.1 h (rw (starts_length 0 (map row_count l.rows), length-map l.rows row_count) (omega arith)));
        anchor_active = λ i h. T_from_true _ (all_map_at (λ (n : ℕ). elem n (active_names l)) anchor_name (total ns) l.anchors i no_anchor q6 h (omega arith));
        channels_valid = T_from_true _ q1.1;
        channels_distinct = T_from_true _ q1.2;
      }
