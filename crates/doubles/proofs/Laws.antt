-- The laws of doubles that other crates cite, in one place. `clear x`: x is NaN, or its sign is clear, so it is no -0. `not_neg x`: x is NaN, or not below zero. Assumes nothing.
use Rattle.std.proofs.Common.{◌≡◌, true, T, List, pos, subst}
use mathlib.Core.List.{Memᴰ}
use lib.Ieee.{Float, fin, binary64, lt, le, fits}
use lib.Ieee.Fits as fit
use lib.Ieee.Scale.{finite}
use Rattle.doubles.specs.Arithmetic.{◌⊕◌, ◌⊖◌, ◌⊗◌, ◌⊘◌, zero64, one64}
use Rattle.doubles.specs.Root.{sqrt_of}
use Rattle.doubles.specs.Norm.{sum_squares, Bounded}
use Rattle.doubles.proofs.Signs as signs
use Rattle.doubles.proofs.Signs.{clear, not_neg}
use Rattle.doubles.proofs.Interpolation as interpolation
use Rattle.doubles.proofs.AddZero as addZero
use Rattle.doubles.proofs.Bound as bound

-- ---- results are doubles

-- a sum, a difference, a product, a quotient
pub add-fits : (x y : Float) → T (fits binary64 (x ⊕ y))
add-fits x y = fit.add-fits binary64 x y

pub mul-fits : (x y : Float) → T (fits binary64 (x ⊗ y))
mul-fits x y = fit.mul-fits binary64 x y

pub div-fits : (x y : Float) → T (fits binary64 (x ⊘ y))
div-fits x y = fit.div-fits binary64 x y

-- ---- sign

-- sums, products, quotients and roots of clear values are clear
pub add_clear : (x y : Float) → T (clear x) → T (clear y) → T (clear (x ⊕ y))
add_clear x y p q = signs.add_clear binary64 x y p q

pub mul_clear : (x y : Float) → T (clear x) → T (clear y) → T (clear (x ⊗ y))
mul_clear x y p q = signs.mul_clear binary64 x y p q

pub div_clear : (x y : Float) → T (clear x) → T (clear y) → T (clear (x ⊘ y))
div_clear x y p q = signs.div_clear binary64 x y p q

-- a + t (b - a) is clear for clear a, b and t from 0 to 1
pub lerp_clear : (a b t : Float) → T (fits binary64 a) → T (fits binary64 t) → T (clear a) → T (clear b) → T (le zero64 t) → T (le t one64) → T (clear (a ⊕ t ⊗ (b ⊖ a)))
lerp_clear a b t h k p q lo hi = interpolation.lerp_clear binary64 a b t h k p q lo hi

-- sums and products of values that are not negative are not negative
pub add_not_neg : (x y : Float) → T (not_neg x) → T (not_neg y) → T (not_neg (x ⊕ y))
add_not_neg x y p q = signs.add_not_neg binary64 x y p q

pub mul_not_neg : (x y : Float) → T (not_neg x) → T (not_neg y) → T (not_neg (x ⊗ y))
mul_not_neg x y p q = signs.mul_not_neg binary64 x y p q

-- a clear value is not negative
pub clear_not_neg : (x : Float) → T (clear x) → T (not_neg x)
clear_not_neg x p = signs.clear_not_neg x p

pub not_neg_of_le : (x : Float) → T (le zero64 x) → T (not_neg x)
not_neg_of_le x h = interpolation.not_neg_le x h

-- ---- zero

-- adding +0 changes nothing but -0
pub add-zero : (x : Float) → T (fits binary64 x) → (x ≡ fin true 0 (pos 0) → ⊥) → x ⊕ zero64 ≡ x
add-zero x h n = addZero.add-zero binary64 x h n

-- and so nothing of a clear value
pub add_zero_clear : (x : Float) → T (fits binary64 x) → T (clear x) → x ⊕ zero64 ≡ x
add_zero_clear x h p = add-zero x h (λ (e : x ≡ fin true 0 (pos 0)). subst (λ (z : Float). T (clear z)) e p)

-- ---- normalising

-- with a finite sum of squares above 0, a value that is not negative, over the root of the sum, is from 0 to 5/4
pub norm_bound : (v : List Float) (x : Float) → T (finite (sum_squares v)) → T (lt zero64 (sum_squares v)) → Memᴰ x v → T (fits binary64 x) → T (not_neg x) → Bounded (x ⊘ sqrt_of binary64 (sum_squares v))
norm_bound v x t l i h p = bound.norm_bound binary64 v x t l i h p
