-- `gains::knots::Knots::bracket` meets its contract, by the cases of `proofs/lookup/Cases.antt`. Assumes nothing.
use Prim.Native.Nat.{ℕ, ◌-◌, ◌≤◌, ◌<◌}
use mathlib.Core.Path.{◌≡◌, sym, ap, ◌∙◌}
use mathlib.Core.Bool.{true, false}
use lib.Ieee.{Float, nan, of_bits, lt, le}
use lib.ListN.{length, get_or}
use Rattle.std.specs.List.{prefix_len}
use Rattle.doubles.specs.Arithmetic.{zero64}
use Rattle.gains.specs.Lookup.{between_knots}
use Rattle.gains.specs.declared.knots.Knots.{Knots}
use Rattle.gains.proofs.lookup.Listing.{below_prefix}
use Rattle.gains.proofs.lookup.Cases.{at_first, at_last, at_no_number, between_by, some_below}
use Rattle.gains.proofs.lookup.Rising.{of_knots}
use Rattle.gains.proofs.knots.Knots.bracket.Goals as goal

pub returns-then-value-clause-value : goal.returns-then-value-clause-value
unfolding of_bits
returns-then-value-clause-value c =
    let s = c.args.self in
    c.at_knot.ensures ∙ sym (at_first s.at.now (of_knots s) c.args.value c.if-value.true)

pub returns-then-not-value-clause-value : goal.returns-then-not-value-clause-value
unfolding of_bits
returns-then-not-value-clause-value c =
    let s = c.args.self in
    rw c.at_knot-then-not-value.ensures (sym (at_no_number s.at.now (of_knots s) c.args.value c.if-not-value.true c.if-value.false))

pub returns-then-value-self-clause-value : goal.returns-then-value-self-clause-value
unfolding of_bits
returns-then-value-self-clause-value c =
    let s = c.args.self in
    c.at_knot-then-value-self.ensures ∙ sym (at_last s.at.now (of_knots s) c.args.value c.if-not-value.false c.if-value-self.true)

-- some knots are below value, and not the last
within : (s : Knots) (v : Float) (k : ℕ) → lt zero64 v ≡ true → le (get_or s.at.now (length s.at.now - 1) nan) v ≡ false → k ≡ prefix_len (λ x. lt x v) s.at.now → (1 ≤ k) × (k < length s.at.now)
within s v k h e p = rw (p, below_prefix v s.at.now) (some_below s.at.now (of_knots s) v h e)

pub between-requires : goal.between-requires
unfolding of_bits
between-requires c =
    within c.args.self c.args.value _ c.if-not-value.false c.if-value-self.false c.below.ensures

pub returns-clause-within : goal.returns-clause-within
unfolding of_bits
returns-clause-within c =
    rw c.between.ensures (within c.args.self c.args.value _ c.if-not-value.false c.if-value-self.false c.below.ensures).1

pub returns-clause-value : goal.returns-clause-value
unfolding of_bits
returns-clause-value c =
    let s = c.args.self in
    c.between.ensures
    ∙ ap (between_knots s.at.now c.args.value) (c.below.ensures ∙ below_prefix c.args.value s.at.now)
    ∙ sym (between_by s.at.now (of_knots s) c.args.value c.if-not-value.false c.if-value-self.false)
