-- The values above 0 of a list, one after another, as the code works on them. Definitions only; no reader of document 01 needs them.
use Rattle.std.specs.Prelude.{ℕ, zero, suc, ◌<◌, ◌≡◌, true, cond, List, Float, get_or}
use Rattle.std.specs.Float.{nan}
use Rattle.std.specs.Float.Ieee.{lt}
use Rattle.doubles.specs.Arithmetic.{zero64}

-- how many of the first k are above 0
unfoldable pub above_before : List Float → ℕ → ℕ
above_before fields zero = 0
above_before fields (suc k) = cond (lt zero64 (get_or fields k nan)) (suc (above_before fields k)) (above_before fields k)

-- f of each of the first n that is above 0 stands in l, in their order
pub record Gathered (f : Float → Float) (fields : List Float) (n : ℕ) (l : List Float) : Type 0 where
  pub at : (k : ℕ) → k < n → lt zero64 (get_or fields k nan) ≡ true → get_or l (above_before fields k) nan ≡ f (get_or fields k nan)

-- the k-th: the next of l where the field is above 0, and 0 elsewhere
abbrev pub scattered : List Float → List Float → ℕ → Float
scattered fields l k = cond (lt zero64 (get_or fields k nan)) (get_or l (above_before fields k) nan) zero64
