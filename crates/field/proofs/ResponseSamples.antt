-- The samples: each is finite, and the first and the last are 0 and 1. By computing. Assumes nothing.
use Prim.Native.Nat.{ℕ, suc, ◌<◌}
use Prim.Native.Nat as Nat
use mathlib.Core.Path.{◌≡◌, refl}
use mathlib.Core.Bool.{Bool, true, ◌&&◌}
use native.Mathlib.Omega.{arith}
use lib.Dec.{T}
use lib.Ieee.{div, of_int, round}
use lib.Ieee.Scale.{finite}
use lib.Ieee.Fits.{and_l, and_r}
use Rattle.doubles.specs.Arithmetic.{zero64, one64}
use Rattle.field.specs.Knots.{Axis, X, Y, Z, steps, sample, sample_count}

-- ---- the ends
pub first_sample : (a : Axis) → sample a 0 ≡ zero64
unfolding div of_int round
first_sample X = refl
first_sample Y = refl
first_sample Z = refl

pub last_sample_xy : steps 19 19 ≡ one64
unfolding div of_int round
last_sample_xy = refl

pub last_sample_z : steps 7 7 ≡ one64
unfolding div of_int round
last_sample_z = refl

-- ---- every one

-- a test of 0, 1 up to n - 1
unfoldable pub first : (ℕ → Bool) → ℕ → Bool
first p Nat.zero = true
first p (suc n) = p 0 && first (λ (i : ℕ). p (suc i)) n

pub at : (p : ℕ → Bool) (n i : ℕ) → T (first p n) → i < n → T (p i)
unfolding first
at p Nat.zero i t h = absurd (omega arith)
at p (suc n) Nat.zero t h = and_l (p 0) (first (λ (i : ℕ). p (suc i)) n) t
at p (suc n) (suc i) t h = at (λ (j : ℕ). p (suc j)) n i (and_r (p 0) (first (λ (j : ℕ). p (suc j)) n) t) (omega arith)

samples : (a : Axis) → T (first (λ (s : ℕ). finite (sample a s)) (sample_count a))
unfolding first div of_int round
samples X = tt
samples Y = tt
samples Z = tt

pub sample_finite : (a : Axis) (s : ℕ) → s < sample_count a → T (finite (sample a s))
sample_finite a s h = at (λ (i : ℕ). finite (sample a i)) (sample_count a) s (samples a) h
