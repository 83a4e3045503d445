-- Region states and their flags, by document 01. Definitions only.
use Rattle.std.specs.Prelude.{ℕ, Bool, true, false, cond, ◌&&◌, List, [], ◌∷◌, ◌++◌, map, eqb, take, get_or, Result, Ok, Err}
use Rattle.lists.specs.Lists.{bit, all_same}
use Rattle.std.specs.List.{list_any}
use Rattle.region.specs.declared.RegionHorizontalState.{RegionHorizontalState}
use Rattle.region.specs.declared.RegionHorizontalState.TheVariants.{NoConstraints, BackExcluded, SideExcluded, CentreAndBack, ScreenOnly, SurroundOnly}
use Rattle.region.specs.declared.RegionTopBottomState.{RegionTopBottomState}
use Rattle.region.specs.declared.RegionTopBottomState.TheVariants.{Include, Exclude}
use Rattle.region.specs.declared.RegionSemanticState.{RegionSemanticState}
use Rattle.layout.specs.declared.refusal.Refusal.{Refusal}
use Rattle.layout.specs.declared.refusal.Refusal.TheVariants.{Zones}
use Rattle.layout.specs.Refusals.{number_of}

-- the first five flags of each horizontal state
abbrev pub five_of : RegionHorizontalState → List Bool
five_of NoConstraints = true ∷ true ∷ true ∷ true ∷ true ∷ []
five_of BackExcluded = true ∷ true ∷ true ∷ false ∷ true ∷ []
five_of SideExcluded = true ∷ false ∷ true ∷ true ∷ true ∷ []
five_of CentreAndBack = false ∷ false ∷ false ∷ false ∷ true ∷ []
five_of ScreenOnly = true ∷ false ∷ false ∷ false ∷ false ∷ []
five_of SurroundOnly = false ∷ false ∷ true ∷ false ∷ false ∷ []

-- the sixth: top Include or Exclude
abbrev pub is_include : RegionTopBottomState → Bool
is_include Include = true
is_include Exclude = false

abbrev pub top_of : Bool → RegionTopBottomState
top_of true = Include
top_of false = Exclude

-- the flags of a state
abbrev pub flags_of : RegionSemanticState → List Bool
flags_of s = five_of s.horizontal ++ (is_include s.top ∷ [])

abbrev pub same_flag : Bool → Bool → Bool
same_flag a b = eqb (bit a) (bit b)

abbrev pub horizontals : List RegionHorizontalState
horizontals = NoConstraints ∷ BackExcluded ∷ SideExcluded ∷ CentreAndBack ∷ ScreenOnly ∷ SurroundOnly ∷ []

-- the first of hs that has these five flags, with a top state beside it; refusal 8 where none has
abbrev pub zones_among : List RegionHorizontalState → List Bool → RegionTopBottomState → Result RegionSemanticState Refusal
zones_among [] five t = Err Zones
zones_among (h ∷ hs) five t = cond (all_same same_flag (five_of h) five) (Ok (record { horizontal = h; top = t })) (zones_among hs five t)

-- the state that six flags say
abbrev pub zones_of : List Bool → Result RegionSemanticState Refusal
zones_of flags = zones_among horizontals (take 5 flags) (top_of (get_or flags 5 false))

-- the number of a refusal, and 0 for a state
abbrev pub told : Result RegionSemanticState Refusal → ℕ
told (Ok s) = 0
told (Err r) = number_of r

-- only these twelve patterns are admitted
abbrev pub patterns : List (List Bool)
patterns = map (λ h. flags_of (record { horizontal = h; top = Include })) horizontals ++ map (λ h. flags_of (record { horizontal = h; top = Exclude })) horizontals

-- 8. Are the flags an admitted pattern?
abbrev pub question8 : List Bool → Bool
question8 flags = list_any (all_same same_flag flags) patterns

-- the default state: NoConstraints, Include
abbrev pub default_state : RegionSemanticState
default_state = record { horizontal = NoConstraints; top = Include }

abbrev pub is_no_constraints : RegionHorizontalState → Bool
is_no_constraints NoConstraints = true
is_no_constraints BackExcluded = false
is_no_constraints SideExcluded = false
is_no_constraints CentreAndBack = false
is_no_constraints ScreenOnly = false
is_no_constraints SurroundOnly = false

abbrev pub is_default : RegionSemanticState → Bool
is_default s = is_no_constraints s.horizontal && is_include s.top
