-- The first "no", by the answers up to it.
use mathlib.Core.Path.{◌≡◌}
use mathlib.Core.Bool.{true, false}
use Rattle.layout.specs.declared.Layout.{Layout}
use Rattle.layout.specs.Questions.{first_no, layout_questions, question1, question2, question3, question4, question5, question6}

module _ (l : Layout) where
  pub first_1 : question1 l ≡ false → 1 ≡ first_no (layout_questions l)
  unfolding layout_questions
  first_1 a = rw a

  pub first_2 : question1 l ≡ true → question2 l ≡ false → 2 ≡ first_no (layout_questions l)
  unfolding layout_questions
  first_2 a b = rw (a, b)

  pub first_3 : question1 l ≡ true → question2 l ≡ true → question3 l ≡ false → 3 ≡ first_no (layout_questions l)
  unfolding layout_questions
  first_3 a b c = rw (a, b, c)

  pub first_4 : question1 l ≡ true → question2 l ≡ true → question3 l ≡ true → question4 l ≡ false → 4 ≡ first_no (layout_questions l)
  unfolding layout_questions
  first_4 a b c d = rw (a, b, c, d)

  pub first_5 : question1 l ≡ true → question2 l ≡ true → question3 l ≡ true → question4 l ≡ true → question5 l ≡ false → 5 ≡ first_no (layout_questions l)
  unfolding layout_questions
  first_5 a b c d e = rw (a, b, c, d, e)

  pub first_6 : question1 l ≡ true → question2 l ≡ true → question3 l ≡ true → question4 l ≡ true → question5 l ≡ true → question6 l ≡ false → 6 ≡ first_no (layout_questions l)
  unfolding layout_questions
  first_6 a b c d e f = rw (a, b, c, d, e, f)

  pub first_none : question1 l ≡ true → question2 l ≡ true → question3 l ≡ true → question4 l ≡ true → question5 l ≡ true → question6 l ≡ true → 0 ≡ first_no (layout_questions l)
  unfolding layout_questions
  first_none a b c d e f = rw (a, b, c, d, e, f)
