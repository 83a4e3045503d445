-- A channel near a wall, from the numbers of the code. Assumes nothing.
use mathlib.Core.Path.{◌≡◌}
use mathlib.Core.Bool.{cond}
use lib.Ieee.{Float, lt}
use Rattle.doubles.specs.Arithmetic.{◌⊕◌, ◌⊗◌, ◌⊘◌, dec, zero64}
use Rattle.approximations.specs.Exp2.{exp2_of}
use Rattle.approximations.specs.Log2.{log2_of}
use Rattle.extent.specs.Kernel.{shaped_of, exponent_of}
use Rattle.gains.specs.Diffuse.{compensated_of}

-- field ^ (1 / e)
abbrev pub power_of : Float → Float → Float
power_of field e = cond (lt zero64 field) (exp2_of (log2_of field ⊘ e)) zero64

-- the end's response, the field with it, and its power
pub compensated_at : (kernel number end inside a b weight field e radius : Float) → end ≡ shaped_of (kernel ⊗ number) e → field ≡ dec 31640625 8 ⊗ (inside ⊕ weight ⊗ (end ⊗ a ⊗ b)) → e ≡ exponent_of radius → power_of field e ≡ compensated_of inside (shaped_of (kernel ⊗ number) (exponent_of radius) ⊗ a ⊗ b) weight (exponent_of radius)
unfolding compensated_of
compensated_at kernel number end inside a b weight field e radius p q h = rw (q, p, h)
