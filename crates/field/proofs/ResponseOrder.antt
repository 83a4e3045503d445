-- Of two finite doubles one is below the other or equal to it. Assumes nothing.
use mathlib.Core.Path.{◌≡◌}
use mathlib.Core.Bool.{true, false, not}
use lib.Dec.{T}
use lib.Ieee.{Float, nan, inf, fin, is_nan, lt, eq, le}
use lib.Ieee.Bits.{is_true}
use lib.Ieee.Scale.{finite}
use Rattle.std.proofs.lemmas.Bool.{or_parts}
use Rattle.std.proofs.lemmas.Float.{T_from_false, lt_of_not-le}

pub number : (x : Float) → T (finite x) → T (not (is_nan x))
unfolding is_nan
number nan h = absurd h
number (inf s) h = absurd h
number (fin s m e) h = tt

pub lt_of_not_le : (x y : Float) → T (finite x) → T (finite y) → le x y ≡ false → lt y x ≡ true
lt_of_not_le x y h k e = is_true (lt y x) (lt_of_not-le x y (number x h) (number y k) (T_from_false _ e))

pub not_lt_of_not_le : (x y : Float) → le x y ≡ false → lt x y ≡ false
unfolding le
not_lt_of_not_le x y e = (or_parts (lt x y) (eq x y) e).0
