-- The lists are those of `PlaceResponses`.
use mathlib.Core.Path.{refl}
use native.Mathlib.Omega.{arith}
use Rattle.field.specs.Knots.{Y}
use Rattle.field.proofs.PlaceResponses.{responses_doubles, asked_y, left_y}
use Rattle.field.proofs.place.Walked.responses_y.Goals as goal

pub invariant_of-axis : goal.invariant_of-axis
invariant_of-axis c =
    let w = c.args.self.now in
    let p = asked_y w.l w.sized.0 w.sized.1 w.sized.2 w.accepted w.at w.placed _ _ _ c.row_ys-ys.ensures c.row_starts-rows.ensures c.anchor_starts-starts.ensures in
    record { grouped = p.0; parted = p.1 }

pub invariant_of-result : goal.invariant_of-result
invariant_of-result c =
    let w = c.args.self.now in
    let r = left_y w.l w.sized.0 w.sized.1 w.sized.2 w.accepted w.at w.placed _ _ _ c.row_ys-ys.ensures c.row_starts-rows.ensures c.anchor_starts-starts.ensures _ c.respond.ensures in
    record {
      some = omega arith;
      few = rw w.counted w.accepted.few_active;
      doubles = responses_doubles Y w.l _ w.n w.counted r;
    }

pub returns : goal.returns
returns c =
    let w = c.args.self.now in
    (refl, left_y w.l w.sized.0 w.sized.1 w.sized.2 w.accepted w.at w.placed _ _ _ c.row_ys-ys.ensures c.row_starts-rows.ensures c.anchor_starts-starts.ensures _ c.respond.ensures)
