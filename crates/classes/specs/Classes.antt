-- Classes of speakers, by document 01. Definitions only.
use Rattle.std.specs.Prelude.{ℕ, ◌+◌, ◌*◌, Bool, true, false, cond, ◌||◌, not, List, [], ◌∷◌, eqb, Option, Some, None}
use Rattle.lists.specs.Lists.{elem}
use Rattle.region.specs.declared.RegionHorizontalState.{RegionHorizontalState}
use Rattle.region.specs.declared.RegionHorizontalState.TheVariants.{NoConstraints, BackExcluded, SideExcluded, CentreAndBack, ScreenOnly, SurroundOnly}
use Rattle.classes.specs.declared.classes.Classes.{Classes}
use Rattle.classes.specs.declared.BedMatch.{BedMatch}
use Rattle.classes.specs.declared.BedMatch.TheVariants.{Kept, Dropped, Unclassed}

-- ---- the sixteen names, from their letters in ASCII; the first one is the lowest byte

abbrev name2 : ℕ → ℕ → ℕ
name2 a b = a + 256 * b

abbrev name3 : ℕ → ℕ → ℕ → ℕ
name3 a b c = a + 256 * b + 65536 * c

abbrev B : ℕ
B = 66

abbrev C : ℕ
C = 67

abbrev F : ℕ
F = 70

abbrev L : ℕ
L = 76

abbrev R : ℕ
R = 82

abbrev S : ℕ
S = 83

abbrev b : ℕ
b = 98

abbrev c : ℕ
c = 99

abbrev i : ℕ
i = 105

abbrev s : ℕ
s = 115

abbrev w : ℕ
w = 119

-- each list is in ascending order of the numbers

-- FL FR FLc FRc
abbrev pub front_names : List ℕ
front_names = name2 F L ∷ name2 F R ∷ name3 F L c ∷ name3 F R c ∷ []

-- FC
abbrev pub centre_names : List ℕ
centre_names = name2 F C ∷ []

-- Ls Rs
abbrev pub surround_names : List ℕ
surround_names = name2 L s ∷ name2 R s ∷ []

-- SiL SiR
abbrev pub side_names : List ℕ
side_names = name3 S i L ∷ name3 S i R ∷ []

-- BC BL BR Lb Rb
abbrev pub back_names : List ℕ
back_names = name2 B C ∷ name2 B L ∷ name2 B R ∷ name2 L b ∷ name2 R b ∷ []

-- Lw Rw
abbrev pub wide_names : List ℕ
wide_names = name2 L w ∷ name2 R w ∷ []

-- screen, centre, surround, back and side, for a name that has a class
abbrev pub classed_as : Bool → Bool → Bool → Bool → Bool → Option Classes
classed_as screen centre surround back side = Some (record { screen = screen; centre = centre; surround = surround; back = back; side = side })

-- sixteen names have a class, every other name has none; in five-x Ls and Rs are back too, elsewhere Ls Rs SiL SiR Lw Rw are side
abbrev pub classes_of : ℕ → Bool → Option Classes
classes_of n five =
    cond (elem n front_names) (classed_as true false false false false)
    (cond (elem n centre_names) (classed_as true true false false false)
    (cond (elem n surround_names) (classed_as false false true five (not five))
    (cond (elem n side_names) (classed_as false false true false (not five))
    (cond (elem n back_names) (classed_as false false false true false)
    (cond (elem n wide_names) (classed_as false false false false (not five))
    None)))))

-- ---- what a horizontal state keeps

abbrev pub keeps : RegionHorizontalState → Classes → Bool
keeps NoConstraints s = true
keeps BackExcluded s = not s.back
keeps SideExcluded s = not s.side
keeps CentreAndBack s = s.centre || s.back
keeps ScreenOnly s = s.screen
keeps SurroundOnly s = s.surround

abbrev pub bed_match : RegionHorizontalState → Option Classes → BedMatch
bed_match h None = Unclassed
bed_match h (Some s) = cond (keeps h s) Kept Dropped

abbrev pub bed_of : RegionHorizontalState → ℕ → Bool → BedMatch
bed_of h n five = bed_match h (classes_of n five)

-- ---- names by which layouts are told apart

-- BL BR Lb Rb Lw Rw
abbrev pub not_five : List ℕ
not_five = name2 B L ∷ name2 B R ∷ name2 L b ∷ name2 R b ∷ name2 L w ∷ name2 R w ∷ []

abbrev pub outside_five : ℕ → Bool
outside_five n = elem n not_five

abbrev pub is_flc : ℕ → Bool
is_flc n = eqb n (name3 F L c)
