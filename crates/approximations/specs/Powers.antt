-- Powers of several values at once. Definitions only.
use Rattle.std.specs.Prelude.{Bool, true, false, ◌&&◌, pos, Float}
use Rattle.std.specs.Float.{fin}
use Rattle.std.specs.Float.Ieee.{lt, le}
use Rattle.doubles.specs.Arithmetic.{◌⊗◌}
use Rattle.approximations.specs.Exp2.{exp2_of}
use Rattle.approximations.specs.Log2.{log2_of}

-- v ^ e by the two approximations
abbrev pub power_of : Float → Float → Float
power_of e v = exp2_of (e ⊗ log2_of v)

-- from -1022 up and below 1023
abbrev pub in_exponents : Float → Bool
in_exponents v = le (fin true 511 (pos 1)) v && lt v (fin false 1023 (pos 0))
