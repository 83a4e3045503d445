-- Coordinates that are equal as numbers answer alike: the same ones are picked, with the same weights. Assumes nothing.
use Prim.Native.Nat.{ℕ, suc, ◌+◌, ◌-◌}
use mathlib.Core.Path.{◌≡◌, refl, sym, ap, ap₂, ◌∙◌}
use mathlib.Core.Bool.{Bool, true, false, cond}
use mathlib.Core.List.{List, ◌∷◌}
use native.Mathlib.Numerals.{one-add}
use native.Mathlib.Omega.{arith}
use lib.Dec.{T, eqb}
use lib.IntN.{pos}
use lib.Ieee.{Float, nan, binary64, lt, le, sub, add}
use lib.Ieee.Scale.{finite}
use lib.ListN.{length, get_or}
use mir.Facts.{and_yes}
use Rattle.doubles.specs.Arithmetic.{◌⊖◌, ◌⊗◌, ◌⊘◌, from_int, one64, minus_one64, zero64}
use Rattle.doubles.specs.Floor.{floor_of}
use Rattle.doubles.specs.Range.{is_between}
use Rattle.lists.specs.Lists.{chain_from}
use Rattle.std.specs.List.{list_all}
use Rattle.layout.specs.Questions.{in_room, ordered}
use Rattle.field.specs.declared.Pick.{Pick}
use Rattle.field.specs.declared.Pick.TheVariants.{One}
use Rattle.field.specs.Responses.{two_at, count_below, pair_at, pick_of, layer_pick}
use Rattle.field.proofs.ResponseOrder.{lt_of_not_le}
use Rattle.doubles.proofs.Alike.{Alike, same, lt_same, le_same, same_le, sub_same}
use Rattle.field_laws.proofs.SameTopologies.{Each, end, next, each_length}

module _ (u : Float) where
  -- as many are below u
  below_same : {xs ys : List Float} → Each Alike xs ys → count_below u xs ≡ count_below u ys
  below_same end = refl
  below_same (next {x = x} {y = y} {xs = xs} {ys = ys} w e) = ap₂ (λ (b : Bool) (n : ℕ). cond b (1 + n) 0) (lt_same x y w u) (below_same e)

  -- the last of x and xs is as far from u
  last_same : (x y : Float) {xs ys : List Float} → Alike x y → Each Alike xs ys → le (get_or (x ∷ xs) (length xs) nan) u ≡ le (get_or (y ∷ ys) (length ys) nan) u
  last_same x y w end = le_same x y w u
  last_same x y w (next {x = p} {y = q} v e) = last_same p q v e

  -- where u stands between coordinate n of x ∷ xs, which is below it, and the next
  abbrev ratio : Float → List Float → ℕ → Float
  ratio x xs n = let a = get_or (x ∷ xs) n nan in (u ⊖ a) ⊘ (get_or xs n nan ⊖ a)

  past : (x y : Float) → nan ⊖ x ≡ nan ⊖ y
  unfolding sub add
  past x y = refl

  ratio_same : (x y : Float) {xs ys : List Float} → Alike x y → Each Alike xs ys → T (chain_from lt x xs) → lt x u ≡ true → ratio x xs (count_below u xs) ≡ ratio y ys (count_below u ys)
  ratio_same x y w end c l = ap₂ ◌⊘◌ (sub_same u u x y (same u) w (rw l tt)) (past x y)
  ratio_same x y w (next {x = p} {y = q} {xs = xs} {ys = ys} v e) c l =
      rw (← lt_same p q v u) (go (lt p u) refl (ratio_same p q v e))
    where
      h : T (lt x p) × T (chain_from lt p xs)
      h = and_yes (lt x p) (chain_from lt p xs) c

      go : (b : Bool) → lt p u ≡ b → (T (chain_from lt p xs) → lt p u ≡ true → ratio p xs (count_below u xs) ≡ ratio q ys (count_below u ys)) → ratio x (p ∷ xs) (cond b (1 + count_below u xs) 0) ≡ ratio y (q ∷ ys) (cond b (1 + count_below u ys) 0)
      go true g r = rw (one-add (count_below u xs), one-add (count_below u ys)) (r h.1 g)
      go false g r = ap₂ ◌⊘◌ (sub_same u u x y (same u) w (rw l tt)) (sub_same p q x y v w h.0)

-- ---- the picks
pair_first : (u x : Float) (xs : List Float) → lt x u ≡ true → pair_at (x ∷ xs) u (count_below u (x ∷ xs)) ≡ two_at (count_below u xs) (ratio u x xs (count_below u xs))
pair_first u x xs l =
    let n = count_below u xs in
    let e : 1 + n - 1 ≡ n = omega arith in
    rw (l, e, one-add)

pair_same : (u x y : Float) {xs ys : List Float} → Alike x y → Each Alike xs ys → T (chain_from lt x xs) → lt x u ≡ true → pair_at (x ∷ xs) u (count_below u (x ∷ xs)) ≡ pair_at (y ∷ ys) u (count_below u (y ∷ ys))
pair_same u x y {xs} {ys} w e c l =
    pair_first u x xs l
    ∙ ap₂ two_at (below_same u e) (ratio_same u x y w e c l)
    ∙ sym (pair_first u y ys (sym (lt_same x y w u) ∙ l))

pick_form : (u x : Float) (xs : List Float) → pick_of (x ∷ xs) u ≡ cond (le u x) (One 0) (cond (le (get_or (x ∷ xs) (length xs) nan) u) (One (length xs)) (pair_at (x ∷ xs) u (count_below u (x ∷ xs))))
unfolding pick_of
pick_form u x xs = let e : suc (length xs) - 1 ≡ length xs = omega arith in rw e

pub pick_same : (u : Float) → T (finite u) → {xs ys : List Float} → Each Alike xs ys → T (ordered xs) → pick_of xs u ≡ pick_of ys u
pick_same u f end o = refl
pick_same u f (next {x = x} {y = y} {xs = xs} {ys = ys} w e) o =
    pick_form u x xs
    ∙ go (le u x) refl
    ∙ ap (λ (b : Bool). cond b (One 0) (cond (le (get_or (y ∷ ys) (length ys) nan) u) (One (length ys)) (pair_at (y ∷ ys) u (count_below u (y ∷ ys))))) (same_le x y w u)
    ∙ sym (pick_form u y ys)
  where
    p : T (list_all in_room (x ∷ xs)) × T (chain_from lt x xs)
    p = and_yes (list_all in_room (x ∷ xs)) (chain_from lt x xs) o

    t : T (finite x)
    t = (and_yes (finite x) (is_between minus_one64 one64 x) (and_yes (in_room x) (list_all in_room xs) p.0).0).0

    go : (b : Bool) → le u x ≡ b → cond b (One 0) (cond (le (get_or (x ∷ xs) (length xs) nan) u) (One (length xs)) (pair_at (x ∷ xs) u (count_below u (x ∷ xs)))) ≡ cond b (One 0) (cond (le (get_or (y ∷ ys) (length ys) nan) u) (One (length ys)) (pair_at (y ∷ ys) u (count_below u (y ∷ ys))))
    go true g = refl
    go false g = rw (last_same u x y w e, each_length e, pair_same u x y w e p.1 (lt_of_not_le u x f t g))

-- with two layers no height is read
pub layer_pick_same : (u : Float) → T (finite u) → {xs ys : List Float} → Each Alike xs ys → T (ordered xs) → layer_pick xs u ≡ layer_pick ys u
unfolding layer_pick
layer_pick_same u f e o =
    ap₂ (λ (n : ℕ) (p : Pick). cond (eqb n 2) (cond (le u zero64) (One 0) (cond (le (from_int (pos 32767)) (floor_of binary64 (from_int (pos 32768) ⊗ u))) (One 1) (two_at 0 u))) p)
    (each_length e) (pick_same u f e o)
