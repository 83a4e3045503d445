-- By the place of the name.
use borrow.Author.Rules.{rules}
use Rattle.questions.proofs.Indexed.{active_by}
use Rattle.questions.proofs.names.Channels.is_active.Goals as goal

pub returns : goal.returns
returns c =
    let s = c.args.self in
    active_by s.names.now s.flags.now c.args.w _ _ c.is_some_and.ensures (λ p e. search rules) c.place.ensures
