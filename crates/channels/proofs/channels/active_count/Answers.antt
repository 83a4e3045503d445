use mathlib.Core.Path.{◌≡◌, sym, ap, ◌∙◌}
use borrow.Author.Rules.{rules}
use lib.ListN.{take, length-map}
use Rattle.std.specs.List.{count_by, filter}
use Rattle.std.proofs.iter.runs.Made.{chains}
use Rattle.std.proofs.lemmas.List.Sums.{length-filter}
use Rattle.lists.proofs.Loops.{long}
use Rattle.layout.specs.Channels.{channels_of, active, channel_name}
use Rattle.channels.proofs.Written.{covered_is}
use Rattle.channels.proofs.channels.active_count.Goals as goal

pub returns-clause-value : goal.returns-clause-value
returns-clause-value c =
    let l = c.args.l in
    let used = channels_of l in
    let counted : c.count.result ≡ count_by active (take c.covered.result l.channels) = search (rules, chains) in
    counted ∙ ap (count_by active) (covered_is l c.covered.result (search (rules, long)) c.covered.ensures)
    ∙ sym (length-filter active used) ∙ sym (length-map (filter active used) channel_name)
