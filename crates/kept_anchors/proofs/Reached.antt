-- A loop over n counts knows where the next part begins: the sum of the counts before it, or 24 where that is more.
use Prim.Native.Nat.{ℕ, zero, suc, ◌+◌, ◌<◌, ◌≤◌, min}
use mathlib.Core.Path.{◌≡◌, refl, sym, ap, ap₂, ◌∙◌}
use mathlib.Core.Bool.{Bool}
use mathlib.Core.List.{List, [], ◌∷◌, ◌++◌, append-nil}
use native.Mathlib.Numerals.{add-one}
use native.Mathlib.Omega.{arith}
use lib.ListN.{length, take, drop, get_or}
use lib.Seq.{slice, drop-drop, take_all, get_or_at, get_or-take, get_or-drop, length-slice}
use Rattle.std.proofs.lemmas.List.{drop_more, drop_all, drop-take}
use Rattle.lists.specs.Lists.{total}
use Rattle.layout.proofs.TopologyLists.{drop_cap}
use Rattle.layout.proofs.TopologyStarts.{part_here}
use Rattle.kept_anchors.specs.Steps.Kept.{count_set, counts_of}

-- ---- n entries of a list from place a on
module _ (a n : ℕ) (l : List ℕ) where
  pub part_at : (i : ℕ) → i < n → get_or l (a + i) 0 ≡ get_or (slice a (a + n) l) i 0
  part_at i h = sym (ap (λ (t : List ℕ). get_or t i 0) (drop-take a n l) ∙ get_or-take n (drop a l) i 0 h ∙ get_or-drop a l i 0)

  pub part_long : a + n ≤ length l → length (slice a (a + n) l) ≡ n
  part_long h = length-slice a (a + n) l h ∙ omega arith

pub counts_long : (ns : List ℕ) (bs : List Bool) → length (counts_of ns bs) ≡ length ns
counts_long [] bs = refl
counts_long (n ∷ ns) bs = ap suc (counts_long ns (drop n bs))

total_more : (ns : List ℕ) (i : ℕ) → i < length ns → total (take (suc i) ns) ≡ total (take i ns) + get_or ns i 0
total_more [] i h = absurd (omega arith)
total_more (n ∷ ns) zero h = omega arith
total_more (n ∷ ns) (suc i) h = omega (arith, total_more ns i (omega arith))

count_at : (ns : List ℕ) (bs : List Bool) (i : ℕ) → i < length ns → get_or (counts_of ns bs) i 0 ≡ count_set (take (get_or ns i 0) (drop (total (take i ns)) bs))
count_at [] bs i h = absurd (omega arith)
count_at (n ∷ ns) bs zero h = refl
count_at (n ∷ ns) bs (suc i) h = count_at ns (drop n bs) i (omega arith) ∙ ap (λ (t : List Bool). count_set (take (get_or ns i 0) t)) (drop-drop (total (take i ns)) n bs)

-- ---- part i of n begins at `at`
pub record Reached (ns : List ℕ) (n at i : ℕ) : Type 0 where
  pub le : i ≤ n
  pub counts : length ns ≡ n
  pub start : at ≡ min (total (take i ns)) 24

module _ (ns : List ℕ) (n at i : ℕ) (w : Reached ns n at i) where
  pub reached_more : (c end : ℕ) → i < n → c ≡ get_or ns i 0 → end ≡ min (at + c) 24 → Reached ns n end (i + 1)
  reached_more c end h p q =
      let t = total_more ns i (omega (arith, w.counts)) in
      record { le = omega arith; counts = w.counts; start = rw add-one (omega (arith, t, p, q, w.start)) }

  -- how many flags are set in this part
  pub reached_count : (bs : List Bool) (c end : ℕ) → length bs ≡ 24 → i < n → c ≡ get_or ns i 0 → end ≡ min (at + c) 24 → count_set (slice at end bs) ≡ get_or (counts_of ns bs) i 0
  reached_count bs c end l h p q =
      ap (λ (e : ℕ). count_set (slice at e bs)) q
      ∙ ap count_set (sym (part_here at c bs (omega (arith, l))))
      ∙ ap (λ (s : ℕ). count_set (take c (drop s bs))) w.start
      ∙ ap (λ (t : List Bool). count_set (take c t)) (sym (drop_cap (total (take i ns)) 24 bs (omega (arith, l))))
      ∙ ap (λ (m : ℕ). count_set (take m (drop (total (take i ns)) bs))) p
      ∙ sym (count_at ns bs i (omega (arith, w.counts)))

-- ---- the first i of n numbers are written over
pub left_to_read : {A : Type 0} (front old : List A) (i : ℕ) (d : A) → length front ≡ i → i < length old → get_or (front ++ drop i old) i d ≡ get_or old i d
left_to_read {A = A} front old i d e h = ap (λ (l : List A). get_or (front ++ l) i d) (drop_more old i d h) ∙ get_or_at front (get_or old i d) (drop (i + 1) old) d i e

-- all are
pub counts_written : (ns : List ℕ) (bs : List Bool) (ls : List ℕ) (i : ℕ) → i ≡ length ns → ls ≡ take i (counts_of ns bs) ++ drop i ns → ls ≡ counts_of ns bs
counts_written ns bs ls i e w =
    let m = counts_long ns bs in
    w ∙ ap₂ (λ (l r : List ℕ). l ++ r) (take_all i (counts_of ns bs) (omega arith)) (drop_all i ns (omega arith)) ∙ append-nil (counts_of ns bs)
