-- Questions 11 to 14 one after another, and point gains by the code's test. Assumes nothing.
use Prim.Native.Nat.{ℕ, ◌≤◌, ◌<◌}
use mathlib.Core.Path.{◌≡◌, refl}
use mathlib.Core.Bool.{true, false}
use mathlib.Core.List.{List, ◌++◌}
use native.Mathlib.Omega.{arith}
use borrow.Author.Tests.{leb-true, ltb-true}
use lib.Dec.{leb, ltb}
use lib.Ieee.{Float, nan, inf, fin, le, lt, eq, round}
use Rattle.std.proofs.lemmas.Bool.{and_parts}
use Rattle.doubles.specs.Arithmetic.{zero64, dec}
use Rattle.doubles.specs.Range.{is_between}
use Rattle.layout.specs.Questions.{first_no}
use Rattle.layout.proofs.QuestionLists.{yes_first}
use Rattle.layout.specs.declared.Centre.{Centre}
use Rattle.cache.specs.declared.Ring.{Ring}
use Rattle.cache.specs.Questions.{is_gain, question11, question12, question13, question14, lent_questions, state_questions}

-- a number from 0 to 5/4 is finite
pub gain_is : (v : Float) → is_between zero64 (dec 125 2) v ≡ is_gain v
unfolding le lt eq round
gain_is nan = refl
gain_is (inf true) = refl
gain_is (inf false) = refl
gain_is (fin s m e) = refl

-- ---- the first no
module _ (c : Centre) (points : List Float) (n room size : ℕ) (r : Ring) where
  abbrev pub later : ℕ
  later = first_no (lent_questions c points n room size ++ state_questions r.count r.oldest)

  -- no no among them
  pub later_gives : later ≡ 0 → (r.count ≤ 8) × (r.oldest < 8) × (285312 ≤ size)
  unfolding lent_questions state_questions
  later_gives z =
      let a = yes_first (question11 c) _ 11 (omega arith) z in
      let b = yes_first (question12 n points) _ 12 (omega arith) a.1 in
      let d = yes_first (question13 n room size) _ 13 (omega arith) b.1 in
      let g = yes_first (question14 r.count r.oldest) _ 14 (omega arith) d.1 in
      let h = and_parts (leb r.count 8) (ltb r.oldest 8) g.0 in
      let i = and_parts (leb n room) (leb 285312 size) d.0 in
      (leb-true r.count 8 h.0, ltb-true r.oldest 8 h.1, leb-true 285312 size i.1)
