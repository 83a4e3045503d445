-- By the place of the first knot that the clamped scalar does not exceed.
use mathlib.Core.Path.{sym, ap, ◌∙◌}
use Prim.Native.Nat.{ℕ}
use lib.Ieee.{of_bits, round}
use Rattle.std.specs.Prelude.{Option}
use Rattle.extent.proofs.radius.Transfer.{clamped, at_place, between_at, by_place}
use Rattle.extent.proofs.radius.extent_radius.Goals as goal

pub returns-in-Some-eq0 : goal.returns-in-Some-eq0
unfolding of_bits round
returns-in-Some-eq0 c =
    let s = c.clamp-s.result in
    ap (λ (r : Option ℕ). at_place r s) (sym (rw c.in-Some-eq0.field-0-test at c.in-Some-eq0.is) ∙ c.first_from.ensures) ∙ by_place s ∙ clamped _ _ c.clamp-s.ensures

pub returns-in-Some : goal.returns-in-Some
unfolding of_bits round
returns-in-Some c =
    let s = c.clamp-s.result in
    c.between.ensures ∙ between_at c.in-Some.i s c.in-Some.i-test.1 ∙ ap (λ (r : Option ℕ). at_place r s) (sym c.in-Some.is ∙ c.first_from.ensures) ∙ by_place s ∙ clamped _ _ c.clamp-s.ensures

pub returns-in-None : goal.returns-in-None
unfolding of_bits round
returns-in-None c =
    let s = c.clamp-s.result in
    ap (λ (r : Option ℕ). at_place r s) (sym c.in-None.is ∙ c.first_from.ensures) ∙ by_place s ∙ clamped _ _ c.clamp-s.ensures
