use mathlib.Core.Path.{◌≡◌}
use Prim.Native.Nat.{◌+◌}
use lib.ListN.{get_or}
use lib.Seq.{slice}
use Rattle.field.specs.Steps.Flat.{added_at, part_at}
use Rattle.field.proofs.response.Axis.add_part.Given as goal

abbrev pub invariant-loop-a : goal.invariant-loop-a
invariant-loop-a l = added_at l.w (slice l.a (get_or l.self.parts.now (l.i + 1) 0) l.self.at.now) l.row ≡ added_at l.w (part_at l.self.at.now l.self.parts.now l.i) l.initial.row
