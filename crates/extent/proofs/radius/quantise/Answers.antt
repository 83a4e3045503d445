-- `extent::radius::quantise` meets its contract, by `proofs/radius/Nearest.antt`. Assumes nothing.
use mathlib.Core.Path.{◌≡◌, sym, ap, ◌∙◌, subst}
use Prim.Native.Nat.{ℕ, min}
use mathlib.Core.Bool.{true}
use lib.Dec.{T}
use lib.Ieee.{round, of_int, of_bits}
use Rattle.std.proofs.lemmas.Float.{T_from_true}
use Rattle.doubles.specs.Arithmetic.{zero64, one64}
use Rattle.doubles.specs.Range.{is_between}
use Rattle.extent.proofs.radius.Nearest.{Shows, component_shows, quantised_in, quantised_out}
use Rattle.extent.proofs.radius.quantise.Goals as goal

-- not left by the test: v is from 0 to 1
inside : (c : goal.Else-not-is_between) → is_between zero64 one64 c.args.v ≡ true
unfolding of_bits
inside c = sym c.is_between.ensures ∙ c.if-not-is_between.false

shows : (c : goal.Else-not-is_between) → Shows c.args.v
shows c = component_shows c.args.v (subst T (sym c.well_formed.0.1) tt) (T_from_true _ (inside c))

pub returns-then-not-is_between : goal.returns-then-not-is_between
unfolding of_bits
returns-then-not-is_between c = sym (quantised_out c.args.v (sym c.is_between.ensures ∙ c.if-not-is_between.true))

pub float_to_bits-q : goal.float_to_bits-q
unfolding of_bits round of_int
float_to_bits-q c = (shows c).0

pub returns : goal.returns
unfolding of_bits round of_int
returns c =
    c.min.ensures ∙ ap (λ (q : ℕ). min q 32767) (shows c.before).1 ∙ sym (quantised_in c.args.v (inside c.before))
