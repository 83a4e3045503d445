use Prim.Native.Nat.{◌+◌}
use lib.ListN.{length}
use lib.Seq.{slice}
use Rattle.kept_anchors.proofs.Sifted.{Sifted}
use Rattle.kept_anchors.proofs.kept.sift.Given as goal

abbrev pub invariant-loop-i : goal.invariant-loop-i
invariant-loop-i l =
    let n = length l.kept in
    let key = l.initial.key in
    Sifted l.a l.b n l.kept (slice l.a (l.a + n) key) (slice l.b (l.b + n) key) key l.key l.k l.i
