-- The two numbers of the first i entries are written.
use mathlib.Core.Path.{◌≡◌, refl, sym, ap, ◌∙◌}
use mathlib.Core.List.{map}
use native.Mathlib.Omega.{arith}
use lib.ListN.{get_or, get_or-map}
use Rattle.keys.proofs.KeyParts.{packed_more}
use Rattle.keys.proofs.packing.write.Goals as goal

pub loop-i-preserved : goal.loop-i-preserved
loop-i-preserved g c =
    let e = g.E.Entry in
    let v = c.loop-i in
    let xs = c.args.v.now in
    let x = c.index-v-i.result in
    let n = c.numbers-first.ensures in
    let same : (f : _) → f x ≡ get_or (map f xs) v.i (f x) = λ f. ap f c.index-v-i.is ∙ sym (get_or-map f xs v.i x) in
    packed_more _ _ _ _ _ _ v.key v.i _ _ _ _ (e.first x) (e.second x) v.invariant (omega arith) refl refl
    (n.0 ∙ same e.first) (n.1 ∙ same e.second)
