-- What the code adds for a pick, and for one group after another, is the list of weights that `spread` says. Assumes nothing.
use Prim.Native.Nat.{ℕ, zero, suc, ◌+◌, ◌-◌, ◌≤◌, ◌<◌}
use mathlib.Core.Path.{◌≡◌, refl, sym, ap, ap₂, ◌∙◌}
use mathlib.Core.Bool.{Bool}
use mathlib.Core.List.{List, [], ◌∷◌, ◌++◌, map, append-nil, append_assoc}
use native.Mathlib.Nat.{add_assoc, le_trans, le_of_eq}
use native.Mathlib.Numerals.{add-one}
use native.Mathlib.Omega.{arith}
use lib.Dec.{T}
use lib.Ieee.{Float}
use lib.Ieee.Fits.{and_i, and_l, and_r}
use lib.Ieee.Scale.{finite}
use lib.ListN.{length, get_or}
use lib.Seq.{slice, length-slice}
use Rattle.doubles.specs.Arithmetic.{one64}
use Rattle.lists.specs.Lists.{elem, index_of, flatten}
use Rattle.lists.proofs.Chunks.{slice_map}
use Rattle.std.specs.List.{list_all}
use Rattle.layout.specs.declared.Anchor.{Anchor}
use Rattle.layout.specs.Steps.Starts.{no_anchor}
use Rattle.layout.proofs.Coordinates.{all_append}
use Rattle.field.specs.declared.Pick.{Pick}
use Rattle.field.specs.declared.Pick.TheVariants.{One, Two}
use Rattle.field.specs.Responses.{Weight, weighted, weights_of, pick_of}
use Rattle.field.specs.Steps.Flat.{shifted, pick_end, added_at, part_at, pick_added, group_pick, response_added, Grouped}
use Rattle.field.proofs.ResponseRows.{weight_added, weights_added, weights_append, named}
use Rattle.field.proofs.response.Picks.{get_or_slice, pick_end_lem, part_length, part_some, part_first}
use Rattle.field.proofs.response.Runs.{response_none, response_more, group_within, group_first}

-- ---- lists
module _ {A : Type 0} (p : A → Bool) (d : A) where
  pub all_at : (xs : List A) → ((i : ℕ) → i < length xs → T (p (get_or xs i d))) → T (list_all p xs)
  all_at [] h = tt
  all_at (x ∷ xs) h = and_i (p x) (list_all p xs) (h 0 (omega arith)) (all_at xs (λ i l. h (suc i) (omega arith)))

  pub all_in : (xs : List A) (i : ℕ) → T (list_all p xs) → i < length xs → T (p (get_or xs i d))
  all_in [] i t h = absurd (omega arith)
  all_in (x ∷ xs) zero t h = and_l (p x) (list_all p xs) t
  all_in (x ∷ xs) (suc i) t h = all_in xs i (and_r (p x) (list_all p xs) t) (omega arith)

-- W 0, W 1 up to W (n - 1), one after another
abbrev pub gathered : {A : Type 0} → (ℕ → List A) → ℕ → List A
gathered W zero = []
gathered W (suc n) = gathered W n ++ W n

module _ {A : Type 0} where
  gathered_front : (W : ℕ → List A) (n : ℕ) → gathered W (suc n) ≡ W 0 ++ gathered (λ (i : ℕ). W (suc i)) n
  gathered_front W zero = sym (append-nil (W 0))
  gathered_front W (suc n) = ap (λ (r : List A). r ++ W (suc n)) (gathered_front W n) ∙ append_assoc (W 0) (gathered (λ (i : ℕ). W (suc i)) n) (W (suc n))

  pub gathered_same : (U W : ℕ → List A) (n : ℕ) → ((i : ℕ) → i < n → U i ≡ W i) → gathered U n ≡ gathered W n
  gathered_same U W zero h = refl
  gathered_same U W (suc n) h = ap₂ (λ (a b : List A). a ++ b) (gathered_same U W n (λ i l. h i (omega arith))) (h n (omega arith))

  pub gathered_concat : {X : Type 0} (f : X → List A) (xs : List X) (d : X) → flatten (map f xs) ≡ gathered (λ (i : ℕ). f (get_or xs i d)) (length xs)
  gathered_concat f [] d = refl
  gathered_concat f (x ∷ xs) d = ap (λ (r : List A). f x ++ r) (gathered_concat f xs d) ∙ sym (gathered_front (λ (i : ℕ). f (get_or (x ∷ xs) i d)) (length xs))

  pub gathered_all : (p : A → Bool) (W : ℕ → List A) (n : ℕ) → ((i : ℕ) → i < n → T (list_all p (W i))) → T (list_all p (gathered W n))
  gathered_all p W zero h = tt
  gathered_all p W (suc n) h = all_append p (gathered W n) (W n) (gathered_all p W n (λ i l. h i (omega arith))) (h n (omega arith))

-- ---- the anchors of a part
module _ (names : List ℕ) where
  abbrev pub placed : Anchor → ℕ
  placed a = index_of a.name names

  abbrev pub active_anchor : Anchor → Bool
  active_anchor a = elem a.name names

  weighted_added : (w : Float) (xs : List Anchor) (out : List Float) → added_at w (map placed xs) out ≡ weights_added names (weighted w xs) out
  unfolding added_at
  weighted_added w [] out = refl
  weighted_added w (a ∷ xs) out = weighted_added w xs (weight_added names (record { name = a.name; weight = w }) out)

  weighted_named : (w : Float) (xs : List Anchor) → T (list_all active_anchor xs) → T (list_all (named names) (weighted w xs))
  weighted_named w [] h = tt
  weighted_named w (a ∷ xs) h = and_i (active_anchor a) (list_all (named names) (weighted w xs)) (and_l (active_anchor a) (list_all active_anchor xs) h) (weighted_named w xs (and_r (active_anchor a) (list_all active_anchor xs) h))

  -- of the first m anchors each names an active channel
  pub slice_active : (anchors : List Anchor) (m a b : ℕ) → m ≤ length anchors → ((i : ℕ) → i < m → T (active_anchor (get_or anchors i no_anchor))) → b ≤ m → T (list_all active_anchor (slice a b anchors))
  slice_active anchors m a b long h l =
      all_at active_anchor no_anchor (slice a b anchors)
      (λ i k.
      let e = length-slice a b anchors (le_trans l long) in
      rw (get_or_slice a b anchors i no_anchor (omega arith)) (h (a + i) (omega arith)))

  module _ (anchors : List Anchor) (parts : List ℕ) where
    -- the anchors of coordinate i
    abbrev pub anchors_at : ℕ → List Anchor
    anchors_at i = slice (get_or parts i 0) (get_or parts (i + 1) 0) anchors

    part_added : (w : Float) (i : ℕ) (out : List Float) → added_at w (part_at (map placed anchors) parts i) out ≡ weights_added names (weighted w (anchors_at i)) out
    part_added w i out = ap (λ (ks : List ℕ). added_at w ks out) (slice_map placed (get_or parts i 0) (get_or parts (i + 1) 0) anchors) ∙ weighted_added w (anchors_at i) out

    -- a pick among coordinates from a on, whose anchors are ps
    module _ (a n : ℕ) (ps : List (List Anchor)) (are : (i : ℕ) → i < n → get_or ps i [] ≡ anchors_at (a + i)) where
      pub pick_added_lem : (p : Pick) (out : List Float) → pick_end p ≤ n → pick_added (map placed anchors) parts (shifted a p) out ≡ weights_added names (weights_of p ps) out
      unfolding pick_added
      pick_added_lem (One i) out h = part_added one64 (a + i) out ∙ rw (are i (omega arith))
      pick_added_lem (Two i v w) out h =
          part_added w (a + i + 1) (added_at v (part_at (map placed anchors) parts (a + i)) out)
          ∙ ap (weights_added names (weighted w (anchors_at (a + i + 1)))) (part_added v (a + i) out)
          ∙ sym (weights_append names (weighted v (anchors_at (a + i))) (weighted w (anchors_at (a + i + 1))) out)
          ∙ rw (are i (omega arith), are (i + 1) (omega arith), add_assoc a i 1)

      pub pick_named : (p : Pick) → pick_end p ≤ n → ((i : ℕ) → i < n → T (list_all active_anchor (anchors_at (a + i)))) → T (list_all (named names) (weights_of p ps))
      pick_named (One i) h t = weighted_named one64 (get_or ps i []) (rw (are i (omega arith)) (t i (omega arith)))
      pick_named (Two i v w) h t =
          all_append (named names) (weighted v (get_or ps i [])) (weighted w (get_or ps (i + 1) []))
          (weighted_named v (get_or ps i []) (rw (are i (omega arith)) (t i (omega arith))))
          (weighted_named w (get_or ps (i + 1) []) (rw (are (i + 1) (omega arith)) (t (i + 1) (omega arith))))

    -- ---- group after group: P g has the anchors of each coordinate of group g
    module _
        (v : List Float)
        (groups : List ℕ)
        (count : ℕ)
        (k : Grouped v groups count)
        (P : ℕ → List (List Anchor))
        (are : (g : ℕ) → g < count → (i : ℕ) → i < get_or groups (g + 1) 0 - get_or groups g 0 → get_or (P g) i [] ≡ anchors_at (get_or groups g 0 + i))
        (u : Float)
        (t : T (finite u))
      where
        -- the coordinates of group g, and its weights
        abbrev pub group_of : ℕ → List Float
        group_of g = slice (get_or groups g 0) (get_or groups (g + 1) 0) v

        abbrev pub group_weights : ℕ → List Weight
        group_weights g = weights_of (pick_of (group_of g) u) (P g)

        group_end : (g : ℕ) → g < count → pick_end (pick_of (group_of g) u) ≤ get_or groups (g + 1) 0 - get_or groups g 0
        group_end g h =
            let a = get_or groups g 0 in
            let b = get_or groups (g + 1) 0 in
            let some = k.some g h in
            let long = group_within (map placed anchors) parts v groups count u t k g h in
            let e = pick_end_lem (group_of g) u (part_some v a b u some long) t (rw (part_first v a b u some long) (group_first (map placed anchors) parts v groups count u t k g h)) in
            le_trans e (le_of_eq (part_length v a b u some long))

        group_added : (g : ℕ) (out : List Float) → g < count → pick_added (map placed anchors) parts (group_pick v groups u g) out ≡ weights_added names (group_weights g) out
        unfolding group_pick
        group_added g out h = pick_added_lem (get_or groups g 0) (get_or groups (g + 1) 0 - get_or groups g 0) (P g) (are g h) (pick_of (group_of g) u) out (group_end g h)

        pub groups_added : (n : ℕ) (out : List Float) → n ≤ count → response_added (map placed anchors) parts v groups n u out ≡ weights_added names (gathered group_weights n) out
        groups_added zero out h = response_none (map placed anchors) parts v groups u out
        groups_added (suc n) out h =
            ap (λ (m : ℕ). response_added (map placed anchors) parts v groups m u out) (sym (add-one n))
            ∙ response_more (map placed anchors) parts v groups u out n
            ∙ group_added n (response_added (map placed anchors) parts v groups n u out) h
            ∙ ap (weights_added names (group_weights n)) (groups_added n out (omega arith))
            ∙ sym (weights_append names (gathered group_weights n) (group_weights n) out)

        pub groups_named : ((g : ℕ) → g < count → (i : ℕ) → i < get_or groups (g + 1) 0 - get_or groups g 0 → T (list_all active_anchor (anchors_at (get_or groups g 0 + i)))) → T (list_all (named names) (gathered group_weights count))
        groups_named h = gathered_all (named names) group_weights count (λ g l. pick_named (get_or groups g 0) (get_or groups (g + 1) 0 - get_or groups g 0) (P g) (are g l) (pick_of (group_of g) u) (group_end g l) (h g l))
