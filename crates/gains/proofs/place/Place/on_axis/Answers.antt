-- `gains::place::Place::on_axis` meets its contract: each row has its channels' numbers. Assumes nothing.
use Prim.Native.Nat.{ℕ, ◌+◌}
use mathlib.Core.Path.{◌≡◌, ap, ◌∙◌}
use native.Mathlib.Omega.{arith}
use borrow.Author.Rules.{rules}
use lib.Ieee.{nan}
use lib.ListN.{get_or, get_or-append}
use Rattle.gains.specs.declared.Bracket.{Bracket}
use Rattle.gains.specs.Steps.Rows.{rows_of}
use Rattle.gains.specs.Lookup.{mixed, lookup_of}
use Rattle.gains.proofs.place.Place.on_axis.Goals as goal

pub returns : goal.returns
unfolding lookup_of
returns c = λ k h.
    let a = c.args in
    let s = a.self.now in
    let each = c.change_each.ensures.each k (omega arith) in
    let e : get_or c.change_each.new.values k nan ≡ mixed (mixed (get_or c.row-p.result.now k nan) (get_or c.row-q.result.now k nan) a.r.t) (mixed (get_or c.row-u.result.now k nan) (get_or c.row-v.result.now k nan) a.r.t) c.bracket-c.result.t = search rules in
    get_or-append c.change_each.new.values _ nan k (omega arith)
    ∙ e
    ∙ rw (c.row-p.ensures.numbers k h, c.row-q.ensures.numbers k h, c.row-u.ensures.numbers k h, c.row-v.ensures.numbers k h)
    (ap (λ (b : Bracket). lookup_of (λ (j : ℕ). rows_of s k (a.i + j)) b a.r) c.bracket-c.ensures.value)
