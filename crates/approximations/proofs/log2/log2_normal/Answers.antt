-- `approximations::log2::log2_normal` meets its contract: the mantissa and the exponent from the pattern are those of the definition. Assumes nothing.
use Rattle.std.proofs.Common.{◌≡◌, ℕ, suc, ◌/◌, ◌^◌, ◌<◌, T, pos, sym, ◌∙◌, subst, arith}
use lib.Ieee.{Float, binary64, fits, to_bits}
use Rattle.doubles.proofs.Exponents.{small_in_float}
use Rattle.approximations.proofs.log2.Mantissa.{is_normal, mantissa_no_nan}
use Rattle.approximations.proofs.log2.Cases.{log2_by_bits}
use Rattle.approximations.proofs.log2.log2_normal.Goals as goal

abbrev v : goal.Start → Float
v c = c.args.value

abbrev b : goal.Start → ℕ
b c = to_bits binary64 (v c)

held : (c : goal.Start) → T (fits binary64 (v c))
held c = subst T (sym c.well_formed.0.1) tt

pub int_to_float-b : goal.int_to_float-b
int_to_float-b c =
    let n = is_normal (v c.before) (held c.before) c.requires in
    small_in_float (pos (b c.before / 2 ^ 52)) (room (b c.before / 2 ^ 52) n.0 n.1 n.2)
  where
    room : (f j : ℕ) → f ≡ suc j → j < 2045 → f < 2 ^ 12
    room f j e h = omega arith

pub returns : goal.returns
returns c = c.log2_of.ensures ∙ log2_by_bits (v c.before.before) (held c.before.before) c.requires

pub float_from_bits-mantissa : goal.float_from_bits-mantissa
float_from_bits-mantissa c = mantissa_no_nan (b c)
