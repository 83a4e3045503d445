use Rattle.std.proofs.Common.{◌≡◌, ℕ, ◌≤◌, ◌<◌, get_or}
use Rattle.std.specs.Float.{nan}
use Rattle.approximations.proofs.each.change_each.Given as goal

abbrev pub invariant-loop-k : goal.invariant-loop-k
invariant-loop-k g l =
    record {
      changed : (j : ℕ) → j < l.k → goal.F-post g l.f j (get_or l.initial.values j nan) (get_or l.values j nan);
      rest : (j : ℕ) → l.k ≤ j → get_or l.values j nan ≡ get_or l.initial.values j nan;
    }
