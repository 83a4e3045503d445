use mathlib.Core.Path.{◌≡◌}
use Rattle.questions.proofs.Indexed.{Walked}
use Rattle.questions.proofs.names.Channels.new.Given as goal

abbrev pub invariant-loop-i : goal.invariant-loop-i
invariant-loop-i l =
    let i = l.i-iterator.iter in
    Walked l.names l.entries l.clear i.iter.rest.now × (i.count ≡ 0)
