-- Keys with another epoch differ.
use Prim.Native.Nat.{◌*◌}
use mathlib.Core.Path.{◌≡◌, ◌∙◌}
use native.Mathlib.Omega.{arith}
use borrow.Author.Rules.{rules}
use borrow.Author.Tests.{ne_eqb}
use lib.ListN.{length}
use Rattle.cache.proofs.KeyCompare.{word_differs}
use Rattle.cache.proofs.places.has_key.Goals as goal

pub returns-else-keys-from : goal.returns-else-keys-from
returns-else-keys-from c =
    let a = c.args in
    let k : length a.keys.now ≡ 1248 = search rules in
    ne_eqb _ _ c.if-keys-from.false ∙ word_differs a.keys.now (156 * a.p) a.key.now 154 (omega arith) c.if-keys-from.false
