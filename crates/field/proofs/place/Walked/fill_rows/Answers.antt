-- The rows written are those of `place_filled`, with one layer and with more.
use mathlib.Core.Path.{ap, ◌∙◌}
use native.Mathlib.Omega.{arith}
use Rattle.layout.proofs.TopologyFlat.{topology_length}
use Rattle.field.specs.Steps.Filling.{filled_z}
use Rattle.field.proofs.PlaceRows.{filled_flat, filled_deep}
use Rattle.field.proofs.place.Walked.fill_rows.Goals as goal

pub returns-then-self-lt2 : goal.returns-then-self-lt2
returns-then-self-lt2 c =
    let a = c.args in
    c.fill_xy.ensures ∙ filled_flat a.self.now.l a.place.now c.args.self.now.accepted.some_active (omega (arith, (topology_length c.args.self.now.l c.args.self.now.sized.0 c.args.self.now.sized.1 c.args.self.now.sized.2 c.args.self.now.accepted.few_layers), c.if-self-lt2.true))

pub returns : goal.returns
returns c =
    let a = c.args in
    c.fill_z.ensures
    ∙ ap (filled_z a.self.now.l) c.fill_xy.ensures
    ∙ filled_deep a.self.now.l a.place.now c.args.self.now.accepted.some_active (omega (arith, (topology_length c.args.self.now.l c.args.self.now.sized.0 c.args.self.now.sized.1 c.args.self.now.sized.2 c.args.self.now.accepted.few_layers), c.if-self-lt2.false))
