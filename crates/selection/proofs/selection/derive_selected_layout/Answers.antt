-- By the first "no" of questions 1 to 6.
use mathlib.Core.Path.{sym, ◌∙◌}
use borrow.Author.Rules.{rules}
use Rattle.selection.proofs.Answers.{refused_1_to_6}
use Rattle.selection.proofs.selection.derive_selected_layout.Goals as goal

pub returns-in_err-first_no : goal.returns-in_err-first_no
returns-in_err-first_no c =
    let a = c.args in
    let h = refused_1_to_6 a.state a.key.now _ (sym c.first_no.ensures ∙ c.in_err-first_no.was) in
    record {
      value = search (rules, h.0);
      key = h.1;
    }
