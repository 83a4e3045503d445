-- What is answered of a key, each test after a "yes" to those before it.
use Prim.Native.Nat.{ℕ, ◌+◌, ◌≤◌}
use mathlib.Core.Path.{◌≡◌, sym, ap, ◌∙◌}
use mathlib.Core.Bool.{Bool, true, false, cond}
use mathlib.Core.List.{List}
use lib.Dec.{eqb}
use lib.ListN.{length, take, get_or}
use Rattle.std.specs.Prelude.{Result, Ok, Err, Some, None, slice_range}
use Rattle.std.specs.List.{list_all, list_any}
use Rattle.std.proofs.lemmas.Bool.{and_parts}
use Rattle.lists.specs.Lists.{all_distinct, total}
use Rattle.layout.specs.declared.refusal.Refusal.{Refusal}
use Rattle.layout.specs.declared.refusal.Refusal.TheVariants.{Anchors}
use Rattle.layout.specs.Name.{valid_name}
use Rattle.layout.specs.Questions.{from_to, first_no, layout_questions, question1, question2, question3, question4, question5}
use Rattle.layout.specs.Refusals.{answer_by}
use Rattle.layout.proofs.QuestionsNamed.{question1_not}
use Rattle.layout.proofs.QuestionsFirst.{first_1, first_2, first_3, first_4, first_5, first_6, first_none}
use Rattle.keys.specs.InKey.{layout_in}
use Rattle.keys.proofs.InKey.{used_is, depth_is}
use Rattle.questions.specs.Steps.KeyCounts.{counted}
use Rattle.questions.specs.Steps.KeyNames.{good_names, all_active_names}
use Rattle.questions.specs.Steps.KeyOrder.{all_ordered}
use Rattle.questions.proofs.KeyQuestions.{question1_by, question3_by, rows_no, anchors_no, question4_yes, totals, question5_by, question6_by}

-- the answer by a number
abbrev pub answer : ℕ → Result (Unit {0}) Refusal
answer n = answer_by n tt

module _ (key : List ℕ) (long : length key ≡ 156) where
  abbrev used : ℕ
  used = get_or key 152 0

  abbrev depth : ℕ
  depth = get_or key 153 0

  abbrev Answers : ℕ → Type 0
  Answers n = answer n ≡ answer (first_no (layout_questions (layout_in key)))

  says : (n : ℕ) → n ≡ first_no (layout_questions (layout_in key)) → Answers n
  says n e = rw e

  pub channels_out : from_to 1 24 used ≡ false → Answers 1
  channels_out e = says _ (first_1 _ (sym (question1_not _ (ap (from_to 1 24) (used_is key long) ∙ e))))

  module _ (sizes : from_to 1 24 used ≡ true) where
    pub names_bad : good_names (take used key) ≡ false → Answers 1
    names_bad e = says _ (first_1 _ (sym (question1_by key long sizes) ∙ e))

    module _ (names : good_names (take used key) ≡ true) where
      q1 : question1 (layout_in key) ≡ true
      q1 = sym (question1_by key long sizes) ∙ names

      pub layers_out : from_to 1 4 depth ≡ false → Answers 2
      layers_out e = says _ (first_2 _ q1 (ap (from_to 1 4) (depth_is key long) ∙ e))

      module _ (depths : from_to 1 4 depth ≡ true) where
        q2 : question2 (layout_in key) ≡ true
        q2 = ap (from_to 1 4) (depth_is key long) ∙ depths

        pub none_active : list_any (λ (f : ℕ). eqb f 1) (slice_range key 24 (24 + used)) ≡ false → Answers 3
        none_active e = says _ (first_3 _ q1 q2 (sym (question3_by key long sizes) ∙ e))

        module _ (some : list_any (λ (f : ℕ). eqb f 1) (slice_range key 24 (24 + used)) ≡ true) where
          q3 : question3 (layout_in key) ≡ true
          q3 = sym (question3_by key long sizes) ∙ some

          pub rows_out : counted 6 (slice_range key 48 (48 + depth)) ≡ None → Answers 4
          rows_out e = says _ (first_4 _ q1 q2 q3 (rows_no key long sizes depths e))

          module _ (rows : ℕ) (r : counted 6 (slice_range key 48 (48 + depth)) ≡ Some rows) where
            pub anchors_out : counted 24 (slice_range key 52 (52 + rows)) ≡ None → Answers 4
            anchors_out e = says _ (first_4 _ q1 q2 q3 (anchors_no key long sizes depths rows r e))

            module _ (anchors : ℕ) (a : counted 24 (slice_range key 52 (52 + rows)) ≡ Some anchors) where
              q4 : question4 (layout_in key) ≡ true
              q4 = question4_yes key long sizes depths rows r anchors a

              pub few : (total (slice_range key 48 (48 + depth)) ≤ 24) × (total (slice_range key 52 (52 + rows)) ≤ 24)
              few = totals key long sizes depths rows r anchors a

              pub not_ordered : all_ordered key depth rows ≡ false → Answers 5
              not_ordered e = says _ (first_5 _ q1 q2 q3 q4 (sym (question5_by key long sizes depths rows r anchors a) ∙ e))

              module _ (order : all_ordered key depth rows ≡ true) where
                q5 : question5 (layout_in key) ≡ true
                q5 = sym (question5_by key long sizes depths rows r anchors a) ∙ order

                distinct : all_distinct (take used key) ≡ true
                distinct = (and_parts (list_all valid_name (take used key)) (all_distinct (take used key)) names).1

                not_active : all_active_names (take used key) (slice_range key 24 (24 + used)) (slice_range key 76 (76 + anchors)) ≡ false → Answers 6
                not_active e = says _ (first_6 _ q1 q2 q3 q4 q5 (sym (question6_by key long sizes depths rows r anchors a distinct) ∙ e))

                accepted : all_active_names (take used key) (slice_range key 24 (24 + used)) (slice_range key 76 (76 + anchors)) ≡ true → Answers 0
                accepted e = says _ (first_none _ q1 q2 q3 q4 q5 (sym (question6_by key long sizes depths rows r anchors a distinct) ∙ e))

                -- question 6 is the last one
                pub last_asked : (b : Bool) → b ≡ all_active_names (take used key) (slice_range key 24 (24 + used)) (slice_range key 76 (76 + anchors)) → cond b (Ok tt) (Err Anchors) ≡ answer (first_no (layout_questions (layout_in key)))
                last_asked true e = accepted (sym e)
                last_asked false e = not_active (sym e)
