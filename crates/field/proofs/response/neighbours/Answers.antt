-- The tests are those of the definition, and with u between the ends the first coordinate not below u has one before it.
use mathlib.Core.Path.{sym, ◌∙◌}
use native.Mathlib.Omega.{arith}
use Rattle.field.proofs.response.Picks.{below_prefix, pick_first, pick_last, pick_pair, between_prefix}
use Rattle.field.proofs.response.neighbours.Goals as goal

pub returns-then-u-v : goal.returns-then-u-v
returns-then-u-v c = sym (pick_first c.args.v.now c.args.sample.at c.requires.some c.if-u-v.true)

pub returns-then-u-v-2 : goal.returns-then-u-v-2
returns-then-u-v-2 c = sym (pick_last c.args.v.now c.args.sample.at c.requires.some c.if-u-v.false c.if-u-v-2.true)

pub returns : goal.returns
returns c =
    c.pair.ensures
    ∙ rw (c.count_below-k.ensures, below_prefix c.args.sample.at c.args.v.now) (sym (pick_pair c.args.v.now c.args.sample.at c.requires.some c.if-u-v.false c.if-u-v-2.false))

pub overflow_sub-low : goal.overflow_sub-low
overflow_sub-low c = omega (arith, between_prefix c.args.v.now c.args.sample.at c.requires.some c.count_below-k.result c.count_below-k.ensures c.args.sample.number c.requires.number c.if-u-v.false c.if-u-v-2.false)

pub offset_bounds-v-k : goal.offset_bounds-v-k
offset_bounds-v-k c = omega (arith, between_prefix c.args.v.now c.args.sample.at c.requires.some c.count_below-k.result c.count_below-k.ensures c.args.sample.number c.requires.number c.if-u-v.false c.if-u-v-2.false)

pub bounds-v-k : goal.bounds-v-k
bounds-v-k c = omega (arith, between_prefix c.args.v.now c.args.sample.at c.requires.some c.count_below-k.result c.count_below-k.ensures c.args.sample.number c.requires.number c.if-u-v.false c.if-u-v-2.false)

pub overflow_sub-k : goal.overflow_sub-k
overflow_sub-k c = omega (arith, between_prefix c.args.v.now c.args.sample.at c.requires.some c.count_below-k.result c.count_below-k.ensures c.args.sample.number c.requires.number c.if-u-v.false c.if-u-v-2.false)

pub offset_bounds-v-k-2 : goal.offset_bounds-v-k-2
offset_bounds-v-k-2 c = omega (arith, between_prefix c.args.v.now c.args.sample.at c.requires.some c.count_below-k.result c.count_below-k.ensures c.args.sample.number c.requires.number c.if-u-v.false c.if-u-v-2.false)

pub bounds-v-k-2 : goal.bounds-v-k-2
bounds-v-k-2 c = omega (arith, between_prefix c.args.v.now c.args.sample.at c.requires.some c.count_below-k.result c.count_below-k.ensures c.args.sample.number c.requires.number c.if-u-v.false c.if-u-v-2.false)
