-- The lists are those of `PlaceResponses`.
use mathlib.Core.Path.{refl, ◌≡◌, sym, ◌∙◌}
use Prim.Native.Nat.{ℕ, ◌<◌}
use mathlib.Core.List.{List}
use native.Mathlib.Omega.{arith}
use borrow.Author.Rules.{rules}
use borrow.Author.Tests.{tests}
use denote.Param.Members.{Mut}
use lib.ListN.{length}
use Rattle.std.specs.Array.{IsFromFnResult}
use Rattle.std.specs.Fn.{Called}
use Rattle.std.proofs.lemmas.List.{ext_get_or}
use Rattle.lists.proofs.FromFn.{from_fn_at}
use Rattle.field.proofs.ResponseLayout.{ones, single}
use Rattle.field.specs.Knots.{X}
use Rattle.field.proofs.PlaceResponses.{responses_doubles, asked_x, left_x}
use Rattle.field.proofs.place.Walked.responses_x.Goals as goal

-- each number is its own place
numbered : {F : Type 0} (g : Mut F (ℕ × Unit {0}) ℕ) (f : F) → ((i : ℕ) (y : ℕ) (q : F) → Called g f (i, tt) y q → (q ≡ f) × (y ≡ i)) → (ys : List ℕ) → IsFromFnResult g f ys 25 → ys ≡ ones
numbered g f calls ys r =
    ext_get_or 0 ys ones r.long
    (λ (k : ℕ) (l : k < length ys). from_fn_at g f (λ (i : ℕ). i) calls ys 0 25 r k (omega (arith, r.long)) ∙ sym (single k (omega (arith, r.long))))

pub invariant_of-axis : goal.invariant_of-axis
invariant_of-axis c =
    let w = c.args.self.now in
    let e = numbered _ _ (λ i y q k. search (rules, tests)) _ c.from_fn-ones.ensures.items in
    let p = asked_x w.l w.sized.0 w.sized.1 w.sized.2 w.accepted w.at w.placed _ _ _ c.anchor_xs-xs.ensures c.anchor_starts-starts.ensures c.row_total-rows.ensures in
    record { grouped = p.0; parted = rw e p.1 }

pub invariant_of-result : goal.invariant_of-result
invariant_of-result c =
    let w = c.args.self.now in
    let e = numbered _ _ (λ i y q k. search (rules, tests)) _ c.from_fn-ones.ensures.items in
    let r = left_x w.l w.sized.0 w.sized.1 w.sized.2 w.accepted w.at w.placed _ _ _ c.anchor_xs-xs.ensures c.anchor_starts-starts.ensures c.row_total-rows.ensures _ (λ s h. rw e at (c.respond.ensures s h)) in
    record {
      some = omega arith;
      few = rw w.counted w.accepted.few_active;
      doubles = responses_doubles X w.l _ w.n w.counted r;
    }

pub returns : goal.returns
returns c =
    let w = c.args.self.now in
    let e = numbered _ _ (λ i y q k. search (rules, tests)) _ c.from_fn-ones.ensures.items in
    (refl, left_x w.l w.sized.0 w.sized.1 w.sized.2 w.accepted w.at w.placed _ _ _ c.anchor_xs-xs.ensures c.anchor_starts-starts.ensures c.row_total-rows.ensures _ (λ s h. rw e at (c.respond.ensures s h)))
