-- A coordinate and the one that its pattern in a key stands for: the same, or both are zeros. So no comparison tells them apart.
use Prim.Native.Nat.{ℕ, zero, suc}
use mathlib.Core.Path.{◌≡◌, refl, sym, ap, ap₂, ◌∙◌, subst}
use mathlib.Core.Bool.{true, false, ◌&&◌}
use mathlib.Core.List.{List, [], ◌∷◌, map}
use lib.Dec.{T}
use lib.Ieee.{Float, nan, inf, fin, binary64, fits, add, sum, round, lt, le, eq}
use lib.Ieee.Bits.{of_bits-to_bits}
use lib.Ieee.Fits.{add-fits}
use lib.ListN.{take, drop}
use mir.Facts.{and_yes}
use Rattle.doubles.specs.Arithmetic.{◌⊕◌, zero64}
use Rattle.doubles.proofs.AddZero.{add_zero_same, zero_is}
use Rattle.doubles.proofs.Alike.{Alike, zeros, signed, alike_path, blind, lt_same, same_lt}
use Rattle.lists.specs.Lists.{chain_from, chunks}
use Rattle.std.specs.List.{list_all}
use Rattle.std.proofs.lemmas.List.{take-map, drop-map}
use Rattle.layout.specs.Questions.{in_room, ordered}
use Rattle.layout.proofs.Coordinates.{all_taken, all_dropped}
use Rattle.keys.specs.Keys.{pattern}
use Rattle.keys.specs.InKey.{double}

-- the double that a double's pattern in a key stands for
abbrev pub back : Float → Float
back x = double (pattern x)

minus : signed true ⊕ zero64 ≡ signed false
unfolding add sum round
minus = refl

plus_alike : (x : Float) → T (fits binary64 x) → Alike x (x ⊕ zero64)
plus_alike nan h = alike_path (sym (add_zero_same binary64 nan h tt))
plus_alike (inf s) h = alike_path (sym (add_zero_same binary64 (inf s) h tt))
plus_alike (fin false m e) h = alike_path (sym (add_zero_same binary64 (fin false m e) h tt))
plus_alike (fin true (suc m) e) h = alike_path (sym (add_zero_same binary64 (fin true (suc m) e) h tt))
plus_alike (fin true zero e) h = subst (λ (x : Float). Alike x (x ⊕ zero64)) (sym (zero_is binary64 true e h)) (subst (Alike (signed true)) (sym minus) (zeros true false))

-- of every double, those out of the room, infinities and NaN too
pub back_alike : (x : Float) → T (fits binary64 x) → Alike x (back x)
back_alike x h = subst (Alike x) (sym (of_bits-to_bits binary64 (x ⊕ zero64) (add-fits binary64 x zero64))) (plus_alike x h)

-- ---- question 5's two tests
pub back_in_room : (x : Float) → T (fits binary64 x) → in_room x ≡ in_room (back x)
unfolding le lt eq
back_in_room x h = blind in_room refl x (back x) (back_alike x h)

pub back_less : (x y : Float) → T (fits binary64 x) → T (fits binary64 y) → lt x y ≡ lt (back x) (back y)
back_less x y h k = lt_same x (back x) (back_alike x h) y ∙ same_lt y (back y) (back_alike y k) (back x)

-- ---- of lists
all_back : (xs : List Float) → T (list_all (fits binary64) xs) → list_all in_room (map back xs) ≡ list_all in_room xs
all_back [] h = refl
all_back (x ∷ xs) h =
    let p = and_yes (fits binary64 x) (list_all (fits binary64) xs) h in
    ap₂ ◌&&◌ (sym (back_in_room x p.0)) (all_back xs p.1)

chain_back : (x : Float) (xs : List Float) → T (fits binary64 x) → T (list_all (fits binary64) xs) → chain_from lt (back x) (map back xs) ≡ chain_from lt x xs
chain_back x [] f h = refl
chain_back x (y ∷ xs) f h =
    let p = and_yes (fits binary64 y) (list_all (fits binary64) xs) h in
    ap₂ ◌&&◌ (sym (back_less x y f p.0)) (chain_back y xs p.0 p.1)

pub ordered_back : (xs : List Float) → T (list_all (fits binary64) xs) → ordered (map back xs) ≡ ordered xs
ordered_back [] h = refl
ordered_back (x ∷ xs) h =
    let p = and_yes (fits binary64 x) (list_all (fits binary64) xs) h in
    ap₂ ◌&&◌ (all_back (x ∷ xs) h) (chain_back x xs p.0 p.1)

pub chunks_back : (cs : List ℕ) (xs : List Float) → T (list_all (fits binary64) xs) → list_all ordered (chunks cs (map back xs)) ≡ list_all ordered (chunks cs xs)
chunks_back [] xs h = refl
chunks_back (c ∷ cs) xs h =
    ap₂ ◌&&◌ (ap ordered (take-map back c xs) ∙ ordered_back (take c xs) (all_taken (fits binary64) c xs h))
    (ap (λ (v : List Float). list_all ordered (chunks cs v)) (drop-map back c xs) ∙ chunks_back cs (drop c xs) (all_dropped (fits binary64) c xs h))
