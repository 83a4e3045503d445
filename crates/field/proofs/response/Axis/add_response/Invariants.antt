use mathlib.Core.Path.{◌≡◌}
use Prim.Native.Nat.{◌<◌}
use lib.ListN.{length, drop}
use Rattle.std.specs.Slice.Iter.{windows_rest, windows_size}
use Rattle.field.specs.Steps.Flat.{response_added}
use Rattle.field.proofs.response.Axis.add_response.Given as goal

abbrev pub invariant-loop-group : goal.invariant-loop-group
invariant-loop-group l =
    record {
      added : l.row ≡ response_added l.self.at.now l.self.parts.now l.self.v.now l.self.groups.now (length l.yielded) l.sample.at l.initial.row;
      left : windows_rest l.group-iterator ≡ drop (length l.yielded) l.self.groups.now;
      size : windows_size l.group-iterator ≡ 2;
      within : length l.yielded < length l.self.groups.now;
    }
