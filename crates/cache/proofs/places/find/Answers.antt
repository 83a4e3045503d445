-- What is found in the range is what is found in the places.
use Prim.Native.Nat.{ℕ, ◌+◌, ◌%◌}
use mathlib.Core.Path.{sym, ◌∙◌}
use native.Mathlib.Nat.{sub-zero}
use native.Mathlib.Omega.{arith}
use borrow.Author.Rules.{rules}
use borrow.Author.Tests.{tests}
use lib.Dec.{eqb}
use Rattle.std.proofs.lemmas.Iterator.{YieldsList-from_range, YieldsList-from_map}
use Rattle.std.proofs.lemmas.Iterator.Search.{find_from_yields_List}
use Rattle.std.proofs.lemmas.Iterator.Adapters.{option_map_id}
use Rattle.lists.specs.Lists.{all_same}
use Rattle.cache.specs.Places.{key_at}
use Rattle.cache.proofs.KeyCompare.{found_places, every_place}
use Rattle.cache.proofs.places.find.Goals as goal

pub returns : goal.returns
returns c =
    let a = c.args in
    let p = a.r.oldest % 8 in
    let n = c.min.result in
    let at = λ (i : ℕ). (p + i) % 8 in
    let holds = λ (q : ℕ). all_same eqb (key_at a.keys.now q) a.key.now in
    let found =
    find_from_yields_List holds _ _ c.find.result c.find.ensures.ran
    (YieldsList-from_map _ at (YieldsList-from_range 0 n n c.map.ensures.source (sub-zero n)) c.map.ensures.closure (λ x r q k. search (rules, tests)))
    (λ x b q k. search (rules, tests)) in
    sym (option_map_id c.find.result) ∙ found ∙ found_places a.keys.now a.key.now p n (omega (arith, c.min.ensures)) ∙ every_place _ _ _ _ _ c.min.ensures
