-- `gains::place::Place::respond` meets its contract, by axis. Assumes nothing.
use mathlib.Core.Path.{◌∙◌}
use native.Mathlib.Omega.{arith}
use lib.Ieee.{nan, of_bits}
use lib.ListN.{get_or-replicate}
use Rattle.doubles.specs.Arithmetic.{one64}
use Rattle.gains.specs.Steps.Rows.{rows_of}
use Rattle.gains.proofs.diffuse.Axes.{of_radius, axis_X, axis_Y, axis_Z, response_flat}
use Rattle.gains.proofs.place.Place.respond.Goals as goal
use Rattle.gains.proofs.place.Place.respond.Goals.{then-self, else-self}

pub returns-clause-x : goal.returns-clause-x
returns-clause-x c = λ k h.
    let a = c.args in
    let s = a.self.now in
    c.on_axis-2.ensures k h
    ∙ axis_X (rows_of s k) a.c a.radius _ (of_radius _ a.radius _ c.radius_knots.ensures c.bracket-r.ensures.value) _ c.wide_knots.ensures

pub returns-clause-y : goal.returns-clause-y
returns-clause-y c = λ k h.
    let a = c.args in
    let s = a.self.now in
    c.on_axis-3.ensures k h
    ∙ axis_Y (rows_of s k) a.c a.radius _ (of_radius _ a.radius _ c.radius_knots.ensures c.bracket-r.ensures.value) _ c.wide_knots-2.ensures

pub returns-clause-z : goal.returns-clause-z
unfolding of_bits
returns-clause-z c = λ k h.
    let a = c.args in
    let s = a.self.now in
    let f = rows_of s k in
    elim c.if-self.branch [
      | then-self w ↦ rw w.out-is (w.on_axis.ensures k h ∙ axis_Z f a.c a.radius _ (of_radius _ a.radius _ c.radius_knots.ensures c.bracket-r.ensures.value) _ s.deep w.if-self.true w.high_knots.ensures)
      | else-self w ↦ rw w.out-is (get_or-replicate 24 k one64 nan (omega (arith, s.few)) ∙ response_flat f s.deep a.c a.radius w.if-self.false)
    ]
