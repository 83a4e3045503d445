-- `approximations::each::change_each` meets its contract: a function that each call agrees with maps the list. Assumes nothing.
use Rattle.std.proofs.Common.{sym, ◌∙◌, arith}
use Rattle.std.proofs.lemmas.List.{ext_get_or, length-map, get_or-map}
use Rattle.std.specs.Float.{nan}
use Rattle.approximations.proofs.each.change_each.Goals as goal

pub returns-clause-mapped : goal.returns-clause-mapped
returns-clause-mapped g c = λ h e.
    let old = c.args.values.now in
    let long = length-map old h in
    ext_get_or nan _ _ (omega arith) (λ k l.
    e k _ _ (c.loop-k.invariant.changed k (omega arith)) ∙ sym (get_or-map h old k nan nan (omega arith)))
