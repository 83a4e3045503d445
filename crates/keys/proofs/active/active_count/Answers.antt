-- The flags of the channels that are there.
use Prim.Native.Nat.{ℕ, ◌+◌}
use mathlib.Core.Path.{◌≡◌, sym, ap, ◌∙◌}
use borrow.Author.Rules.{rules}
use lib.ListN.{length}
use lib.Seq.{slice}
use Rattle.std.specs.List.{between, count_by, filter}
use Rattle.std.proofs.iter.runs.Made.{chains}
use Rattle.std.proofs.lemmas.List.Sums.{length-filter}
use Rattle.std.proofs.lemmas.Slice.{between_is}
use Rattle.keys.proofs.ActiveKeys.{is_one, active_in_lem}
use Rattle.keys.proofs.active.active_count.Goals as goal

pub returns : goal.returns
returns c =
    let key = c.args.key.now in
    let used = c.covered-used.result in
    let counted : c.count.result ≡ count_by is_one (between 24 (24 + used) key) = search (rules, chains) in
    counted
    ∙ ap (count_by is_one) (between_is key 24 (24 + used))
    ∙ sym (length-filter is_one (slice 24 (24 + used) key))
    ∙ ap (λ (n : ℕ). length (filter is_one (slice 24 (24 + n) key))) c.covered-used.ensures
    ∙ active_in_lem key (search rules)
