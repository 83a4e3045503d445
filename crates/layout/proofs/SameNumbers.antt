-- Two signs that are equal, and `==` of doubles: reflexive on numbers that are finite.
use Prim.Native.Nat.{◌*◌}
use mathlib.Core.Path.{◌≡◌}
use mathlib.Core.Bool.{Bool, true, false, beq, ◌||◌}
use lib.Dec.{T, eqb, eqb_refl}
use lib.Ieee.{Float, nan, inf, fin, eq, up, down}
use lib.Ieee.Scale.{finite}
use mir.Facts.{yes_and}

beq_refl : (s : Bool) → T (beq s s)
beq_refl true = tt
beq_refl false = tt

pub eq→beq : {s t : Bool} → s ≡ t → T (beq s t)
eq→beq {t = t} e = rw e (beq_refl t)

pub eq_refl : (x : Float) → T (finite x) → T (eq x x)
unfolding eq
eq_refl nan h = absurd h
eq_refl (inf s) h = absurd h
eq_refl (fin s m e) h =
    let a = m * up e * down e in
    yes_and (eqb a a) (beq s s || eqb a 0) (eqb_refl a) (either s)
  where
    either : (t : Bool) → T (beq t t || eqb (m * up e * down e) 0)
    either true = tt
    either false = tt
