-- The array's map is the list's, and the names are those of the active channels.
use Prim.Native.Nat.{ℕ}
use mathlib.Core.Path.{◌≡◌}
use mathlib.Core.List.{List}
use borrow.Author.Rules.{rules}
use lib.Dec.{eqb}
use lib.ListN.{length, replicate}
use Rattle.std.specs.Prelude.{unwrap_or}
use Rattle.std.specs.List.{position}
use Rattle.lists.proofs.Arrays.{map_by}
use Rattle.lists.proofs.Loops.{long}
use Rattle.lists.proofs.Places.{index_of_position}
use Rattle.lists.specs.Lists.{index_of}
use Rattle.layout.specs.Channels.{active_names}
use Rattle.layout.specs.Steps.Starts.{anchor_index}
use Rattle.layout.proofs.ActiveNames.{names_front}
use Rattle.walk.proofs.anchor_indices.Goals as goal

-- the place of a name, or the number of names
place : (names front : List ℕ) (n w : ℕ) → front ≡ names → n ≡ length names → unwrap_or (position (λ (x : ℕ). eqb x w) front) n ≡ index_of w names
place names front n w e k = rw (e, k) (index_of_position w names)

pub returns : goal.returns
returns c =
    let l = c.args.l in
    let front = names_front l _ (replicate 24 0) _ c.active_names-n.ensures.value c.active_names-n.ensures.out_after in
    let named = λ (w : ℕ). place (active_names l) _ _ w front c.active_names-n.ensures.value in
    map_by (anchor_index l) (λ q x y e. search (rules, named)) _ _ _ (search (rules, long)) c.map.ensures.items
