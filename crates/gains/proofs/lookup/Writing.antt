-- A loop that writes F 0, F 1, .. to the front of a list. Assumes nothing.
use Prim.Native.Nat.{ℕ, ◌+◌, ◌<◌}
use mathlib.Core.Path.{◌≡◌, refl, ◌∙◌}
use mathlib.Core.List.{List}
use native.Mathlib.Numerals.{add-one}
use lib.Ieee.{Float}
use lib.ListN.{length, set, take, drop, length-set}
use lib.Seq.{take-suc-set}
use Rattle.lists.proofs.Filter.{store_behind}
use Rattle.gains.specs.Lookup.{tabulate}

-- the first k are written, and the rest is as it was
pub record Written (F : ℕ → Float) (old out : List Float) (k : ℕ) : Type 0 where
  pub same : take k out ≡ tabulate F k
  pub rest : drop k out ≡ drop k old
  pub room : length out ≡ length old

module _ (F : ℕ → Float) (old : List Float) where
  pub written_none : Written F old old 0
  written_none = record { same = refl; rest = refl; room = refl }

  -- one more
  pub written_more : (out : List Float) (k : ℕ) (a : Float) → k < length out → a ≡ F k → Written F old out k → Written F old (set out k a) (k + 1)
  written_more out k a h e w =
      record {
        same = rw (add-one, take-suc-set out k a h, w.same, e);
        rest = store_behind out k a old w.rest;
        room = length-set out k a ∙ w.room;
      }
