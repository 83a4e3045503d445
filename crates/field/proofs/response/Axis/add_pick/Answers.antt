-- Each arm knows its constructor.
use mathlib.Core.Path.{sym, ◌∙◌}
use lib.Ieee.{of_bits}
use Rattle.field.specs.Steps.Flat.{pick_added}
use Rattle.field.proofs.response.Axis.add_pick.Goals as goal

pub returns-in-One : goal.returns-in-One
unfolding pick_added of_bits
returns-in-One c =
    c.add_part.ensures ∙ sym (rw c.in-One.is)

pub returns-in-Two : goal.returns-in-Two
unfolding pick_added
returns-in-Two c =
    c.add_part-in-Two-2.ensures ∙ rw (c.add_part-in-Two.ensures, c.in-Two.is)
