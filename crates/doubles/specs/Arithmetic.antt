-- The operations of IEEE 754-2019 on doubles, each rounded once, to the nearest and at a tie to the even one; and doubles by their decimal literals. Definitions only.
use Rattle.std.specs.Prelude.{ℕ, ◌^◌, true, false, ℤ, pos, Float}
use Rattle.std.specs.Float.{binary64, fin}
use Rattle.std.specs.Float.Ieee.{round, add, sub, mul, div, of_int}

infixl 60 ◌⊕◌
infixl 60 ◌⊖◌
infixl 70 ◌⊗◌
infixl 70 ◌⊘◌
abbrev pub ◌⊕◌ : Float → Float → Float
x ⊕ y = add binary64 x y

abbrev pub ◌⊖◌ : Float → Float → Float
x ⊖ y = sub binary64 x y

abbrev pub ◌⊗◌ : Float → Float → Float
x ⊗ y = mul binary64 x y

abbrev pub ◌⊘◌ : Float → Float → Float
x ⊘ y = div binary64 x y

-- the double nearest to n / 10 ^ k: 0.25 is `dec 25 2`
abbrev pub dec : ℕ → ℕ → Float
dec n k = round binary64 false n (10 ^ k)

-- the double nearest to a whole number
abbrev pub from_int : ℤ → Float
from_int z = of_int binary64 z

abbrev pub zero64 : Float
zero64 = fin false 0 (pos 0)

abbrev pub one64 : Float
one64 = fin false 1 (pos 0)

abbrev pub minus_one64 : Float
minus_one64 = fin true 1 (pos 0)
