-- `approximations::exp2::exp2_near` meets its contract, by `proofs/exp2/Ranges.antt` and `Finite.antt`. Assumes nothing.
use Rattle.std.proofs.Common.{T, sym, subst, true, false, pos}
use lib.Ieee.{Float, fin, lt, le}
use lib.Ieee.Fits.{and_l, and_r}
use Rattle.approximations.specs.Exp2.{NormalExponent}
use Rattle.approximations.specs.Powers.{in_exponents}
use Rattle.approximations.proofs.exp2.Finite.{near_is}
use Rattle.approximations.proofs.exp2.Ranges.{in_range, exponent}
use Rattle.approximations.proofs.exp2.exp2_near.Goals as goal

bounds : (v : Float) → T (in_exponents v) → T (le (fin true 511 (pos 1)) v) × T (lt v (fin false 1023 (pos 0)))
bounds v h =
    let low = le (fin true 511 (pos 1)) v in
    let high = lt v (fin false 1023 (pos 0)) in
    (and_l low high h, and_r low high h)

pub power_near-requires : goal.power_near-requires
power_near-requires c =
    let v = c.args.value in
    let b = bounds v c.requires in
    let r = in_range v (subst T (sym c.well_formed.0.1) tt) b.0 b.1 in
    subst NormalExponent (sym (c.floor_near-n.ensures.near r.0 r.1)) (exponent v (subst T (sym c.well_formed.0.1) tt) b.0 b.1)

pub returns : goal.returns
returns c =
    let v = c.args.value in
    let b = bounds v c.requires in
    let r = in_range v (subst T (sym c.well_formed.0.1) tt) b.0 b.1 in
    rw (c.power_near.ensures, c.polynomial.ensures, c.floor_near-n.ensures.near r.0 r.1) (near_is v (subst T (sym c.well_formed.0.1) tt) b.0 b.1)
