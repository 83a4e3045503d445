use mathlib.Core.List.{map}
use lib.ListN.{length}
use Rattle.keys.proofs.KeyParts.{Packed}
use Rattle.keys.proofs.packing.write.Given as goal

abbrev pub invariant-loop-i : goal.invariant-loop-i
invariant-loop-i g l =
    let e = g.E.Entry in
    Packed l.a (map e.first l.v) l.b (map e.second l.v) (length l.v) l.initial.key l.key l.i
