-- Each entry is that of the two numbers at its place.
use Prim.Native.Nat.{ℕ, ◌+◌}
use native.Mathlib.Omega.{arith}
use borrow.Author.Rules.{rules}
use lib.ListN.{get_or}
use Rattle.lists.proofs.FromFn.{from_fn_at}
use Rattle.keys.proofs.Unpacked.{parts_are}
use Rattle.keys.proofs.unpacking.entries_in.Goals as goal

pub returns : goal.returns
returns g c =
    let made = g.E.Entry.made in
    let key = c.args.key.now in
    let a = c.args.a in
    let b = c.args.b in
    let items = c.from_fn.ensures.items in
    parts_are made key a b g.row.N (omega arith) (omega arith) _ items.long
    (from_fn_at _ _ (λ (i : ℕ). made (get_or key (a + i) 0) (get_or key (b + i) 0)) (λ i y q r. search rules) _ (made 0 0) _ items)
