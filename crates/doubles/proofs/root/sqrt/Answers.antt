-- `doubles::sqrt` meets its contract, by `proofs/root/Nearest.antt`. Assumes nothing.
use Rattle.std.proofs.Common.{◌≡◌, true, sym, ◌∙◌, subst, true≢false}
use Rattle.std.proofs.lemmas.Float.{T_from_true}
use lib.Ieee.{Float, nan, inf, fin, binary64, is_nan, of_bits}
use Rattle.doubles.specs.Root.{NearRoot, square_units}
use Rattle.doubles.proofs.bits.Patterns.{nan_is}
use Rattle.doubles.proofs.root.Nearest.{sqrt_near, sqrt_same}
use Rattle.doubles.proofs.root.sqrt.Goals as goal

one_nan : (r : Float) → true ≡ is_nan r → of_bits binary64 0x7ff8_0000_0000_0000 ≡ r
unfolding is_nan
one_nan nan h = nan_is
one_nan (inf s) h = absurd (true≢false h)
one_nan (fin s m e) h = absurd (true≢false h)

pub returns-then-is_nan-clause-value : goal.returns-then-is_nan-clause-value
returns-then-is_nan-clause-value c =
    one_nan c.sqrt-root.result c.if-is_nan.ensures.value ∙ c.sqrt-root.ensures.value ∙ sqrt_same c.args.x (T_from_true _ c.well_formed.0.1)

pub returns-else-is_nan-clause-value : goal.returns-else-is_nan-clause-value
returns-else-is_nan-clause-value c = c.sqrt-root.ensures.value ∙ sqrt_same c.args.x (T_from_true _ c.well_formed.0.1)

pub returns-then-is_nan-clause-nearest : goal.returns-then-is_nan-clause-nearest
returns-then-is_nan-clause-nearest c p t =
    subst (λ (r : Float). NearRoot (square_units c.args.x) r) (sym (returns-then-is_nan-clause-value c)) (sqrt_near c.args.x (T_from_true _ c.well_formed.0.1) p t)

pub returns-else-is_nan-clause-nearest : goal.returns-else-is_nan-clause-nearest
returns-else-is_nan-clause-nearest c p t =
    subst (λ (r : Float). NearRoot (square_units c.args.x) r) (sym (returns-else-is_nan-clause-value c)) (sqrt_near c.args.x (T_from_true _ c.well_formed.0.1) p t)
