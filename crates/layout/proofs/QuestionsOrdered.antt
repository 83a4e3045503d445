-- Question 5 over the flat lists: the topology is ordered where its z, the rows between their starts and the anchors between theirs are.
use Prim.Native.Nat.{ℕ, ◌+◌, ◌≤◌}
use mathlib.Core.Path.{◌≡◌, refl, sym, ap, ap₂, ◌∙◌}
use mathlib.Core.Bool.{Bool, ◌&&◌, and_assoc}
use mathlib.Core.List.{List, [], ◌∷◌, map}
use native.Mathlib.Numerals.{add-one}
use native.Mathlib.Omega.{arith}
use lib.Ieee.{Float}
use lib.ListN.{length, take, length-map, length-take}
use Rattle.lists.specs.Lists.{chunks, total}
use Rattle.std.specs.List.{list_all}
use Rattle.std.proofs.lemmas.List.{take-map}
use Rattle.std.proofs.lemmas.List.Folds.{list_all-map}
use Rattle.layout.specs.declared.Anchor.{Anchor}
use Rattle.layout.specs.declared.Row.{Row}
use Rattle.layout.specs.declared.Layer.{Layer}
use Rattle.layout.specs.declared.Layout.{Layout}
use Rattle.layout.specs.Topology.{TopologyRow, rows_of, layers_of, used_layers, used_rows, anchor_x, row_y, row_count, layer_z, layer_count}
use Rattle.layout.specs.Steps.Starts.{starts_from, row_starts, anchor_starts}
use Rattle.layout.specs.Questions.{ordered, ordered_row, ordered_layer, question5, topology_y}
use Rattle.layout.specs.Steps.Counts.{parts_ordered}
use Rattle.layout.proofs.TopologyLists.{all_both, all_concat, map_chunks, concat_chunks, take_taken}
use Rattle.layout.proofs.TopologyStarts.{topology_anchors, topology_rows, rows_y, rows_anchors, rows_take, layers_z, layers_rows, parts, starts_parts, starts_take}

-- each part between starts
pub parts_ordered_lem : (xs : List Float) (starts : List ℕ) → parts_ordered xs starts ≡ list_all ordered (parts starts xs)
unfolding parts_ordered
parts_ordered_lem xs [] = refl
parts_ordered_lem xs (a ∷ []) = refl
parts_ordered_lem xs (a ∷ b ∷ starts) = rw (parts_ordered_lem xs (b ∷ starts))

-- the x of each row
pub rows_ordered : (rs : List Row) (xs : List Anchor) → list_all ordered_row (rows_of rs xs) ≡ list_all ordered (chunks (map row_count rs) (map anchor_x xs))
rows_ordered rs xs =
    sym (list_all-map (λ (l : List Anchor). ordered (map anchor_x l)) topology_anchors (rows_of rs xs))
    ∙ ap (list_all (λ (l : List Anchor). ordered (map anchor_x l))) (rows_anchors rs xs)
    ∙ sym (list_all-map ordered (map anchor_x) (chunks (map row_count rs) xs))
    ∙ ap (list_all ordered) (map_chunks anchor_x (map row_count rs) xs)

-- the y of each layer's rows, and the x of each of their rows
pub layers_ordered_lem : (ls : List Layer) (rs : List Row) (xs : List Anchor) →
    list_all ordered_layer (layers_of ls (rows_of rs xs))
    ≡ (list_all ordered (chunks (map layer_count ls) (map row_y rs)) && list_all ordered (chunks (map row_count (take (total (map layer_count ls)) rs)) (map anchor_x xs)))
layers_ordered_lem ls rs xs =
    let cs = map layer_count ls in
    let ts = rows_of rs xs in
    let y : List TopologyRow → Bool = λ l. ordered (map topology_y l) in
    sym (list_all-map (λ (l : List TopologyRow). y l && list_all ordered_row l) topology_rows (layers_of ls ts))
    ∙ ap (list_all (λ (l : List TopologyRow). y l && list_all ordered_row l)) (layers_rows ls ts)
    ∙ all_both y (list_all ordered_row) (chunks cs ts)
    ∙ ap₂ ◌&&◌
    (sym (list_all-map ordered (map topology_y) (chunks cs ts)) ∙ ap (list_all ordered) (map_chunks topology_y cs ts ∙ ap (chunks cs) (rows_y rs xs)))
    (all_concat ordered_row (chunks cs ts) ∙ ap (list_all ordered_row) (concat_chunks cs ts ∙ rows_take (total cs) rs xs) ∙ rows_ordered (take (total cs) rs) xs)

-- the first n parts by counts are those between the first n + 1 starts
pub parts_flat : {A : Type 0} (count : A → ℕ) (n : ℕ) (l : List A) (xs : List Float) → n ≤ length l → length xs ≤ 24 →
    list_all ordered (chunks (map count (take n l)) xs) ≡ parts_ordered xs (take (n + 1) (starts_from 0 (map count l)))
parts_flat count n l xs h k =
    ap (list_all ordered)
    (starts_parts (map count (take n l)) 0 xs k
    ∙ ap (λ (s : List ℕ). parts s xs)
    (ap (starts_from 0) (sym (take-map count n l)) ∙ starts_take n (map count l) 0 (rw (length-map l count) h) ∙ ap (λ (m : ℕ). take m (starts_from 0 (map count l))) (sym (add-one n))))
    ∙ sym (parts_ordered_lem xs (take (n + 1) (starts_from 0 (map count l))))

-- what the three parts of the code answer, together
pub question5_flat : (l : Layout) → length l.layers ≡ 4 → length l.rows ≡ 24 → length l.anchors ≡ 24 → l.depth ≤ 4 →
    (ordered (take l.depth (map layer_z l.layers))
    && parts_ordered (map row_y l.rows) (take (l.depth + 1) (row_starts l))
    && parts_ordered (map anchor_x l.anchors) (take (length (used_rows l) + 1) (anchor_starts l)))
    ≡ question5 l
unfolding question5
question5_flat l e f g h =
    let k = total (map layer_count (used_layers l)) in
    let used : take (length (used_rows l)) l.rows ≡ used_rows l = take_taken k l.rows in
    let few : length (used_rows l) ≤ length l.rows = simp length-take (omega arith) in
    sym
    (ap₂ ◌&&◌
    (ap ordered (layers_z (used_layers l) (rows_of l.rows l.anchors) ∙ sym (take-map layer_z l.depth l.layers)))
    (layers_ordered_lem (used_layers l) l.rows l.anchors
    ∙ ap₂ ◌&&◌
    (parts_flat layer_count l.depth l.layers (map row_y l.rows) (omega arith) (rw (length-map l.rows row_y) (omega arith)))
    (ap (λ (r : List Row). list_all ordered (chunks (map row_count r) (map anchor_x l.anchors))) (sym used)
    ∙ parts_flat row_count (length (used_rows l)) l.rows (map anchor_x l.anchors) few (rw (length-map l.anchors anchor_x) (omega arith))))
    ∙ sym (and_assoc (ordered (take l.depth (map layer_z l.layers))) _ _))
