-- The first no of questions 7, 18 and 19. Assumes nothing.
use mathlib.Core.Path.{◌≡◌, refl}
use mathlib.Core.Bool.{Bool, true, false, cond}
use native.Mathlib.Omega.{arith}
use Rattle.std.specs.Prelude.{Result, Ok, Err}
use Rattle.layout.specs.declared.refusal.Refusal.{Refusal}
use Rattle.layout.specs.declared.refusal.Refusal.TheVariants.{ExtentX, ExtentY, ExtentZ}
use Rattle.layout.specs.Questions.{first_no}
use Rattle.layout.specs.Refusals.{answer_by}
use Rattle.layout.proofs.QuestionLists.{Numbered}
use Rattle.extent.specs.declared.Extent.{Extent}
use Rattle.extent.specs.Extent.{question7, question18, question19, extent_questions}

-- each of the three has a number from 1 up
pub extent_numbered : (e : Extent) → Numbered (extent_questions e)
unfolding extent_questions
extent_numbered e = (omega arith, (omega arith, (omega arith, tt)))

module _ {A : Type 0} (a : A) where
  -- the first no, by the answers up to it
  module _ (e : Extent) where
    abbrev pub asked : Result A Refusal
    asked = answer_by (first_no (extent_questions e)) a

    pub extent_7 : question7 e ≡ false → asked ≡ Err ExtentX
    unfolding extent_questions
    extent_7 x = rw x

    pub extent_18 : question7 e ≡ true → question18 e ≡ false → asked ≡ Err ExtentY
    unfolding extent_questions
    extent_18 x y = rw (x, y)

    pub extent_19 : question7 e ≡ true → question18 e ≡ true → cond (question19 e) (Ok a) (Err ExtentZ) ≡ asked
    unfolding extent_questions
    extent_19 x y = rw (x, y) (last (question19 e))
      where
        last : (b : Bool) → cond b (Ok a) (Err ExtentZ) ≡ answer_by (cond b 0 19) a
        last true = refl
        last false = refl
