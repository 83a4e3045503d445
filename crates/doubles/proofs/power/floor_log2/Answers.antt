-- `doubles::power::floor_log2` meets its contract: each goal is a fact of `proofs/Logarithms.antt`. Assumes nothing.
use Rattle.std.proofs.Common.{not, T, sym, ◌∙◌, subst}
use Rattle.std.proofs.lemmas.Float.{T_from_true, T_from_false}
use lib.Ieee.{is_nan}
use Rattle.doubles.proofs.bits.Patterns.{is_nan_lem}
use Rattle.doubles.proofs.Logarithms.{by_digits, by_field, Is, log_nan, log_zero, log_top, log_subnormal, log_normal}
use Rattle.doubles.proofs.power.floor_log2.Goals as goal
use Rattle.doubles.proofs.power.floor_log2.Goals.{Else-is_nan, Else-b-eq0, Else-e-eq2047}

number : (c : Else-is_nan) → T (not (is_nan c.args.x))
number c = T_from_false _ (sym c.is_nan.ensures.value ∙ c.if-is_nan.false)

low : (c : Else-b-eq0) → Is (by_digits c.args.x) c.args.x
low c = log_subnormal c.args.x (subst T (sym c.well_formed.0.1) tt) (number c.before.before) c.if-e-eq0.true c.if-b-eq0.false

high : (c : Else-e-eq2047) → Is (by_field c.args.x) c.args.x
high c = log_normal c.args.x (subst T (sym c.well_formed.0.1) tt) (number c.before.before) c.if-e-eq0.false c.if-e-eq2047.false

pub returns-then-is_nan : goal.returns-then-is_nan
returns-then-is_nan c = log_nan c.args.x (is_nan_lem c.args.x (T_from_true _ (sym c.is_nan.ensures.value ∙ c.if-is_nan.true)))

pub returns-then-b-eq0 : goal.returns-then-b-eq0
returns-then-b-eq0 c = log_zero c.args.x (subst T (sym c.well_formed.0.1) tt) c.if-b-eq0.true

pub returns-then-e-eq0 : goal.returns-then-e-eq0
returns-then-e-eq0 c = rw c.from.ensures (low c.before).1

pub returns-then-e-eq2047 : goal.returns-then-e-eq2047
returns-then-e-eq2047 c = log_top c.args.x (subst T (sym c.well_formed.0.1) tt) c.if-e-eq2047.true

pub returns : goal.returns
returns c = (high c).1
