-- The tests are those of the definition.
use mathlib.Core.Path.{sym, ◌∙◌}
use lib.Ieee.{of_bits, round, of_int}
use Rattle.field.proofs.response.Picks.{layers_others, layers_two}
use Rattle.field.proofs.response.selected_layers.Goals as goal

pub returns-then-zs-ne2 : goal.returns-then-zs-ne2
returns-then-zs-ne2 c = c.neighbours.ensures ∙ layers_others c.args.zs.now c.args.sample.at c.if-zs-ne2.true

pub returns-then-u : goal.returns-then-u
unfolding of_bits
returns-then-u c = sym (layers_two c.args.zs.now c.args.sample.at c.if-zs-ne2.false ∙ rw c.if-u.true)

pub returns-then-floor : goal.returns-then-floor
unfolding of_bits round of_int
returns-then-floor c = sym (layers_two c.args.zs.now c.args.sample.at c.if-zs-ne2.false ∙ rw (c.if-u.false, ← c.floor.ensures, c.if-floor.true))

pub returns : goal.returns
unfolding of_bits round of_int
returns c =
    c.pair.ensures ∙ sym (layers_two c.args.zs.now c.args.sample.at c.if-zs-ne2.false ∙ rw (c.if-u.false, ← c.floor.ensures, c.if-floor.false))
