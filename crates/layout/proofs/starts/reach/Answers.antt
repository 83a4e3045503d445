-- The counts are added one by one.
use Prim.Native.Nat.{ℕ, ◌+◌, min}
use mathlib.Core.Path.{◌≡◌, ◌∙◌}
use native.Mathlib.Omega.{arith}
use borrow.Author.Rules.{rules}
use Rattle.std.specs.List.{fold}
use Rattle.std.proofs.iter.runs.Made.{chains}
use Rattle.std.proofs.lemmas.List.{map-id}
use Rattle.lists.proofs.Sums.{fold_up_to}
use Rattle.layout.proofs.starts.reach.Goals as goal

pub returns : goal.returns
returns c =
    let ns = c.args.counts.now in
    let added : c.fold.result ≡ fold (λ (n : ℕ) (x : ℕ). min (n + x) 24) (min c.args.s 24) ns = search (rules, chains) in
    added ∙ fold_up_to (λ (x : ℕ). x) 24 ns (min c.args.s 24) (omega arith) ∙ rw map-id (omega arith)
