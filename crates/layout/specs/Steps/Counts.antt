-- What the parts of the code answer to questions 4 and 5. Definitions only.
use Rattle.std.specs.Prelude.{ℕ, Bool, true, ◌&&◌, cond, List, [], ◌∷◌, Float}
use Rattle.std.proofs.Math.Seq.{slice}
use Rattle.lists.specs.Lists.{total}
use Rattle.std.specs.List.{list_all}
use Rattle.layout.specs.Questions.{from_to, ordered}

-- the sum of counts; 25 where one is not from 1 to k
abbrev pub counted_to : ℕ → List ℕ → ℕ
counted_to k cs = cond (list_all (from_to 1 k) cs) (total cs) 25

-- each part of a list, from one start up to the next, is ordered
unfoldable pub parts_ordered : List Float → List ℕ → Bool
parts_ordered xs [] = true
parts_ordered xs (a ∷ []) = true
parts_ordered xs (a ∷ b ∷ starts) = ordered (slice a b xs) && parts_ordered xs (b ∷ starts)
