-- `approximations::exp2::exp2_rest` meets its contract, by `proofs/exp2/Ranges.antt`. Assumes nothing.
use Rattle.std.proofs.Common.{◌≡◌, true, false, sym, ◌∙◌, subst, w64}
use lib.Ieee.{Float, binary64, neg, of_bits, to_signed}
use lib.Ieee.Casts.{to_signed_in}
use mir.ValLaws.{to_z-of_z}
use Rattle.doubles.specs.Floor.{floor_of}
use Rattle.approximations.proofs.exp2.Ranges.{tested, out_is, casts, in_is, not_finite_is}
use Rattle.approximations.proofs.exp2.exp2_rest.Goals as goal

pub returns-then-not-is_finite : goal.returns-then-not-is_finite
unfolding of_bits
returns-then-not-is_finite c = sym (not_finite_is c.args.value (sym c.is_finite.ensures ∙ c.if-not-is_finite.true))

pub returns-then-n : goal.returns-then-n
unfolding of_bits neg
returns-then-n c =
    sym (out_is c.args.value (sym c.is_finite.ensures ∙ c.if-not-is_finite.false) (subst (λ (n : Float). tested n ≡ true) c.floor-n.ensures c.if-n.true))

pub truncating_f64_to_i64-requires : goal.truncating_f64_to_i64-requires
unfolding neg of_bits
truncating_f64_to_i64-requires c =
    let h = (casts c.args.value (sym c.is_finite.ensures ∙ c.if-not-is_finite.false) (subst (λ (n : Float). tested n ≡ false) c.floor-n.ensures c.if-n.false)).0 in record {
      lower_bound = rw c.floor-n.ensures h.0;
      upper_bound = rw c.floor-n.ensures h.1;
    }

pub returns : goal.returns
unfolding neg of_bits
returns c =
    let n = floor_of binary64 c.args.value in
    rw (c.finite_or_zero.ensures, c.pow2.ensures, c.truncating_f64_to_i64.ensures, c.polynomial.ensures, c.floor-n.ensures, to_z-of_z w64 (to_signed 63 n) (record { sfits = to_signed_in 63 n }))
    (in_is c.args.value (sym c.is_finite.ensures ∙ c.if-not-is_finite.false) (subst (λ (n : Float). tested n ≡ false) c.floor-n.ensures c.if-n.false))
