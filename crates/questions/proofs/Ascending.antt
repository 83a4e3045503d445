-- Doubles that ascend are all in the room where the first is at least -1 and the last at most 1.
use mathlib.Core.Path.{◌≡◌, refl, sym, ap, ◌∙◌, subst}
use mathlib.Core.Bool.{Bool, true, false, ◌&&◌, ◌||◌}
use mathlib.Core.List.{List, [], ◌∷◌}
use lib.Dec.{T}
use lib.Ieee.{Float, nan, inf, fin, lt, le, eq}
use lib.Ieee.Bits.{is_true}
use mir.Facts.{and_yes}
use Rattle.doubles.specs.Arithmetic.{one64, minus_one64}
use Rattle.lists.specs.Lists.{chain_from}
use Rattle.std.specs.List.{list_all}
use Rattle.std.proofs.lemmas.Float.{T_from_true, lt_of_le_of_lt, lt_of_lt_of_le}
use Rattle.layout.specs.Questions.{in_room, ordered}

in_room_lem : (x : Float) → in_room x ≡ (le minus_one64 x && le x one64)
unfolding le lt eq
in_room_lem nan = refl
in_room_lem (inf false) = refl
in_room_lem (inf true) = refl
in_room_lem (fin s m e) = refl

-- ---- what lies above one that is at least -1, and below one that is at most 1
or_left : (a b : Bool) → T a → T (a || b)
or_left true b h = tt
or_left false b h = elim h [ ]

above : (x y : Float) → T (le minus_one64 x) → T (lt x y) → T (le minus_one64 y)
unfolding le
above x y h k = or_left (lt minus_one64 y) (eq minus_one64 y) (lt_of_le_of_lt minus_one64 x y h k)

under : (x y : Float) → T (le y one64) → T (lt x y) → T (le x one64)
unfolding le
under x y h k = or_left (lt x one64) (eq x one64) (lt_of_lt_of_le x y one64 k h)

-- ---- lists
abbrev pub last_of : Float → List Float → Float
last_of x [] = x
last_of x (y ∷ ys) = last_of y ys

-- numbers ascend from x on, and the last is at most 1
abbrev pub goes_on : Float → List Float → Bool
goes_on x ys = chain_from lt x ys && le (last_of x ys) one64

from_first : (x : Float) (ys : List Float) → (le minus_one64 x && goes_on x ys) ≡ ordered (x ∷ ys)
from_first x [] = rw in_room_lem (go (le minus_one64 x) (le x one64))
  where
    go : (a b : Bool) → (a && (true && b)) ≡ (((a && b) && true) && true)
    go true true = refl
    go true false = refl
    go false b = refl
from_first x (y ∷ ys) =
    rw (in_room_lem x)
    (go (le minus_one64 x) (le minus_one64 y) (lt x y) (le x one64) (in_room y) (list_all in_room ys) (chain_from lt y ys) (le (last_of y ys) one64)
    (λ a b. is_true _ (above x y (T_from_true _ a) (T_from_true _ b)))
    (λ a b. is_true _ (under x y (and_yes (le minus_one64 y) (le y one64) (subst T (in_room_lem y) (T_from_true _ a))).1 (T_from_true _ b)))
    (from_first y ys))
  where
    go : (a b l u r s c e : Bool) → (a ≡ true → l ≡ true → b ≡ true) → (r ≡ true → l ≡ true → u ≡ true) → (b && (c && e)) ≡ ((r && s) && c)
        → (a && ((l && c) && e)) ≡ (((a && u) && (r && s)) && (l && c))
    go false b l u r s c e g k q = refl
    go true b false u true s c e g k q = none (u && s) c
      where
        none : (x y : Bool) → false ≡ (x && false)
        none true y = refl
        none false y = refl
    go true b false u false s c e g k q = none u
      where
        none : (x : Bool) → false ≡ ((x && false) && false)
        none true = refl
        none false = refl
    go true b true u r s c e g k q = rest r k (ap (λ (z : Bool). z && (c && e)) (sym (g refl refl)) ∙ q)
      where
        rest : (r : Bool) → (r ≡ true → true ≡ true → u ≡ true) → (c && e) ≡ ((r && s) && c) → (c && e) ≡ ((u && (r && s)) && c)
        rest true k q = rw (k refl refl) q
        rest false k q = q ∙ none u
          where
            none : (x : Bool) → false ≡ ((x && false) && c)
            none true = refl
            none false = refl

pub goes_first : (x z : Float) (l ys : List Float) → l ≡ x ∷ ys → z ≡ x → (le minus_one64 z && goes_on z ys) ≡ ordered l
goes_first x z l ys e f = rw (e, f) (from_first x ys)
