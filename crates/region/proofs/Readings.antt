-- What six flags are read as, and question 8 by it.
use Prim.Native.Nat.{ℕ}
use mathlib.Core.Path.{◌≡◌, refl, sym, ap, ◌∙◌}
use mathlib.Core.Bool.{Bool, true, false, cond}
use mathlib.Core.List.{List, [], ◌∷◌}
use native.Mathlib.Omega.{arith}
use lib.ListN.{take, get_or}
use Rattle.std.specs.Prelude.{Result, Ok, Err}
use Rattle.lists.specs.Lists.{all_same}
use Rattle.layout.specs.declared.refusal.Refusal.{Refusal}
use Rattle.layout.specs.declared.refusal.Refusal.TheVariants.{Zones}
use Rattle.region.specs.declared.RegionHorizontalState.{RegionHorizontalState}
use Rattle.region.specs.declared.RegionSemanticState.{RegionSemanticState}
use Rattle.region.specs.declared.RegionTopBottomState.{RegionTopBottomState}
use Rattle.region.specs.Zones.{zones_among, zones_of, told, question8, five_of, same_flag, top_of, horizontals}

among_eight : (hs : List RegionHorizontalState) (five : List Bool) (t : RegionTopBottomState) (r : Refusal) → zones_among hs five t ≡ Err r → r ≡ Zones
among_eight [] five t r e = cc
among_eight (h ∷ hs) five t r e = go (all_same same_flag (five_of h) five) e (among_eight hs five t r)
  where
    go : (b : Bool) → cond b (Ok (record { horizontal = h; top = t })) (zones_among hs five t) ≡ Err r → (zones_among hs five t ≡ Err r → r ≡ Zones) → r ≡ Zones
    go true e k = cc
    go false e k = k e

-- z: what the flags are read as
module _ (flags : List Bool) (z : Result RegionSemanticState Refusal) (is : z ≡ zones_of flags) (said : told z ≡ cond (question8 flags) 0 8) where
  -- flags that are refused are refused with 8, and question 8 has a no
  pub refused_flags : (r : Refusal) → z ≡ Err r → (r ≡ Zones) × (question8 flags ≡ false)
  refused_flags r e =
      let eight = among_eight horizontals (take 5 flags) (top_of (get_or flags 5 false)) r (sym is ∙ e) in
      (eight, go (question8 flags) (sym (ap told (e ∙ ap Err eight)) ∙ said))
    where
      go : (b : Bool) → ◌≡◌ {A = ℕ} 8 (cond b 0 8) → b ≡ false
      go true h = absurd (omega arith)
      go false h = refl

  -- where they say a state, question 8 has a yes
  pub state_flags : (s : RegionSemanticState) → z ≡ Ok s → question8 flags ≡ true
  state_flags s e = go (question8 flags) (sym (ap told e) ∙ said)
    where
      go : (b : Bool) → ◌≡◌ {A = ℕ} 0 (cond b 0 8) → b ≡ true
      go true h = refl
      go false h = absurd (omega arith)
