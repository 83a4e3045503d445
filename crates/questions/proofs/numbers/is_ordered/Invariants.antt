use mathlib.Core.Path.{◌≡◌}
use mathlib.Core.Bool.{◌&&◌}
use mathlib.Core.List.{map}
use lib.ListN.{drop}
use Rattle.layout.specs.Questions.{ordered}
use Rattle.keys.specs.InKey.{double}
use Rattle.questions.proofs.Ascending.{goes_on}
use Rattle.questions.proofs.numbers.is_ordered.Given as goal

abbrev pub invariant-loop-w : goal.invariant-loop-w
invariant-loop-w l = (l.good && goes_on l.last (map double (drop l.w-index l.rest))) ≡ ordered (map double l.v)
