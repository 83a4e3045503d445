-- An entry that has the name is its place.
use Prim.Native.Nat.{ℕ}
use mathlib.Core.Path.{ap, ◌∙◌}
use borrow.Author.Rules.{rules}
use lib.ListN.{get_or}
use Rattle.questions.proofs.Indexed.{place_told}
use Rattle.questions.proofs.names.Channels.place.Goals as goal

pub returns-then-self-p : goal.returns-then-self-p
returns-then-self-p c =
    let s = c.args.self in
    place_told s.names.now s.entries.now s.indexed c.args.w c.from-p.result (c.from-p.ensures ∙ ap (λ (i : ℕ). get_or s.entries.now i 0) c.entry.ensures) (search rules) (search rules)
