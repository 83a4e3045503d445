-- Counts in a key. Definitions only.
use Rattle.std.specs.Prelude.{ℕ, cond, leb, List, Option, Some, None}
use Rattle.layout.specs.Steps.Counts.{counted_to}

-- the sum of counts that are from 1 to k each and at most 24 together
abbrev pub counted : ℕ → List ℕ → Option ℕ
counted k cs = cond (leb (counted_to k cs) 24) (Some (counted_to k cs)) None
