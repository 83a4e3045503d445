-- Each number is what the closure returns.
use Prim.Native.Nat.{ℕ}
use borrow.Author.Rules.{rules}
use lib.Ieee.{nan}
use Rattle.lists.proofs.FromFn.{from_fn_at}
use Rattle.field.specs.Steps.Columns.{in_rows}
use Rattle.field.proofs.columns.Responses.column.Goals as goal

pub returns : goal.returns
returns g c =
    let a = c.args in
    from_fn_at _ _ (λ (s : ℕ). in_rows a.self.now.rows s a.k) (λ i y q k. search rules) _ nan g.row.SAMPLES c.from_fn.ensures.items
