use Prim.Native.Nat.{◌≤◌}
use lib.ListN.{take}
use Rattle.channels.proofs.Written.{Written}
use Rattle.channels.proofs.channels.active_names.Given as goal

abbrev pub invariant-loop-c : goal.invariant-loop-c
invariant-loop-c l = (l.n ≤ l.c-index) × Written (take l.c-index l.c-items) l.initial.out l.out l.n
