-- The rows of the samples passed are filled.
use Rattle.field.specs.Knots.{Z, steps}
use Rattle.field.proofs.ResponseSamples.{sample_finite}
use Rattle.field.proofs.response.Picks.{layers_within}
use Rattle.field.proofs.response.Axis.respond_z.Goals as goal

pub add_pick-requires : goal.add_pick-requires
add_pick-requires c =
    rw (c.selected_layers-pick.ensures, c.new.ensures) (layers_within c.args.self.now.v.now (steps 7 c.loop-s.s) c.requires.0 (sample_finite Z c.loop-s.s c.loop-s-test.true) c.requires.1)
