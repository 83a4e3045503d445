-- The table of document 01's starred cases: what a definition gives, and what it must give, as numbers; a double by its bit pattern.
use Rattle.std.specs.Prelude.{ℕ, ◌+◌, ◌*◌, Bool, true, false, List, [], ◌∷◌, eqb, pos, negsuc, Float, Result, Ok, Err}
use Rattle.std.specs.Float.{binary64, nan, fin}
use Rattle.std.specs.Float.Ieee.{neg, to_bits, lt}
use Rattle.doubles.specs.Arithmetic.{◌⊕◌, ◌⊗◌, ◌⊘◌, dec, from_int, zero64, one64}
use Rattle.approximations.specs.Circular.{H, L, sine_of, cosine_of}
use Rattle.approximations.specs.Exp2.{exp2_of}
use Rattle.layout.specs.declared.Anchor.{Anchor}
use Rattle.layout.specs.declared.Layout.{Layout}
use Rattle.layout.specs.declared.refusal.Refusal.{Refusal}
use Rattle.layout.specs.declared.refusal.Refusal.TheVariants.{Zones}
use Rattle.layout.specs.Refusals.{number_of}
use Rattle.layout.specs.Build.{empty_layout, with_channel, with_layer, with_row, with_anchor}
use Rattle.layout.specs.Topology.{topology_of}
use Rattle.layout.specs.Questions.{first_no, layout_questions}
use Rattle.extent.specs.declared.Extent.{Extent}
use Rattle.extent.specs.declared.Reading.{Reading}
use Rattle.extent.specs.Extent.{extent_questions, mean_radius, radius_of, read_of, quantised}
use Rattle.extent.specs.Kernel.{threshold, kernel_of}
use Rattle.field.specs.Knots.{X, Y}
use Rattle.field.specs.Responses.{response_on}
use Rattle.lists.specs.Lists.{bit}
use Rattle.region.specs.declared.RegionHorizontalState.{RegionHorizontalState}
use Rattle.region.specs.declared.RegionHorizontalState.TheVariants.{NoConstraints, BackExcluded, SideExcluded, CentreAndBack, ScreenOnly, SurroundOnly}
use Rattle.region.specs.declared.RegionTopBottomState.TheVariants.{Exclude}
use Rattle.region.specs.declared.RegionSemanticState.{RegionSemanticState}
use Rattle.classes.specs.declared.BedMatch.{BedMatch}
use Rattle.classes.specs.declared.BedMatch.TheVariants.{Kept, Dropped, Unclassed}
use Rattle.region.specs.Zones.{zones_of, is_include}
use Rattle.layout.specs.Room.{Room}
use Rattle.classes.specs.Classes.{bed_of}
use Rattle.selection.specs.Selection.{five_x}

pub record Case : Type 0 where
  pub found : ℕ
  pub expected : ℕ

abbrev pub holds : Case → Bool
holds c = eqb c.found c.expected

-- two doubles
abbrev pub doubles : Float → Float → Case
doubles x y = record { found = to_bits binary64 x; expected = to_bits binary64 y }

-- two whole numbers
abbrev pub numbers : ℕ → ℕ → Case
numbers n m = record { found = n; expected = m }

-- an extent
abbrev pub extent : Float → Float → Float → Extent
extent x y z = record { x = x; y = y; z = z }

-- k halves of 1 / 32768, which is exact: k / 65536; and the largest double below one
abbrev pub halves : ℕ → Float
halves k = from_int (pos k) ⊘ from_int (pos 65536)

abbrev pub below_half : Float
below_half = fin false 9007199254740991 (negsuc 68)

-- what a reading says, as a number: the mean, at most 32767, or above all means the question that refuses it
abbrev pub reading_number : Result Reading Refusal → ℕ
reading_number (Err r) = 32768 + number_of r
reading_number (Ok r) = r.mean

-- an extent is read, with a mean; and it is refused, by a question
abbrev pub reads : Extent → ℕ → Case
reads e m = numbers (reading_number (read_of e)) m

abbrev pub refuses : Extent → ℕ → Case
refuses e q = numbers (reading_number (read_of e)) (32768 + q)

-- what six flags say, as a number: no two answers have the same
abbrev pub horizontal_number : RegionHorizontalState → ℕ
horizontal_number NoConstraints = 1
horizontal_number BackExcluded = 2
horizontal_number SideExcluded = 3
horizontal_number CentreAndBack = 4
horizontal_number ScreenOnly = 5
horizontal_number SurroundOnly = 6

abbrev pub zones_number : Result RegionSemanticState Refusal → ℕ
zones_number (Ok s) = 100 * horizontal_number s.horizontal + bit (is_include s.top)
zones_number (Err r) = number_of r

abbrev pub zones : Result RegionSemanticState Refusal → Result RegionSemanticState Refusal → Case
zones a b = numbers (zones_number a) (zones_number b)

-- what a region does with a speaker, as a number
abbrev pub bed_number : BedMatch → ℕ
bed_number Kept = 1
bed_number Dropped = 2
bed_number Unclassed = 3

abbrev pub beds : BedMatch → BedMatch → Case
beds a b = numbers (bed_number a) (bed_number b)

-- Ls
abbrev pub left_surround : ℕ
left_surround = 76 + 256 * 115

-- Lb
abbrev pub left_back : ℕ
left_back = 76 + 256 * 98

-- a room with Ls, and one in which Lb is present, switched off
abbrev pub surrounds : Room
surrounds = record { channels = record { name = left_surround; enabled = true; lfe = false } ∷ []; layers = [] }

abbrev pub with_back : Room
with_back =
    record {
      channels = record { name = left_surround; enabled = true; lfe = false } ∷ record { name = left_back; enabled = false; lfe = false } ∷ [];
      layers = [];
    }

-- C, and an anchor of it
abbrev pub centre : ℕ
centre = 67

abbrev pub at : Float → Anchor
at x = record { name = centre; x = x }

-- a room with that channel alone: two anchors in the first row, at both ends, and a third in the second
unfoldable pub twins : Layout
unfolding with_row with_anchor
twins =
    let front = with_row (with_layer (with_channel empty_layout (record { name = centre; enabled = true; lfe = false })) zero64) zero64 in
    with_anchor (with_row (with_anchor (with_anchor front (at zero64)) (at one64)) one64) (at zero64)

-- PI × t / 2 for t = 1/8
abbrev pub angle : Float
angle = dec 3141592653589793 15 ⊗ dec 125 3 ⊘ from_int (pos 2)

-- Doubles and approximations; Extent; Zones and selection; and, without a star, the three least means, the kernel,
-- three components of 1/2, components that lie halfway or at an end, which component of an extent is told, and twin
-- anchors, which are accepted and whose responses add up in topology order
unfoldable pub cases : List Case
unfolding exp2_of sine_of cosine_of extent_questions quantised radius_of kernel_of twins layout_questions response_on
cases =
    doubles (exp2_of zero64) one64
    ∷ doubles (exp2_of (from_int (negsuc 0))) (dec 5 1)
    ∷ doubles (exp2_of (from_int (pos 1024))) zero64
    ∷ doubles (cosine_of zero64) one64
    ∷ doubles (cosine_of H) L
    ∷ reads (extent zero64 zero64 zero64) 0
    ∷ reads (extent one64 one64 one64) 32767
    ∷ reads (extent one64 zero64 zero64) 10922
    ∷ reads (extent (halves 1) (halves 1) (halves 1)) 0
    ∷ reads (extent below_half below_half below_half) 0
    ∷ reads (extent (halves 1) zero64 zero64) 0
    ∷ refuses (extent nan zero64 zero64) 7
    ∷ zones (zones_of (false ∷ false ∷ false ∷ false ∷ false ∷ true ∷ [])) (Err Zones)
    ∷ zones (zones_of (true ∷ true ∷ true ∷ true ∷ true ∷ false ∷ [])) (Ok (record { horizontal = NoConstraints; top = Exclude }))
    ∷ beds (bed_of BackExcluded left_surround (five_x surrounds)) Dropped
    ∷ beds (bed_of SideExcluded left_surround (five_x surrounds)) Kept
    ∷ beds (bed_of BackExcluded left_surround (five_x with_back)) Kept
    ∷ beds (bed_of SideExcluded left_surround (five_x with_back)) Dropped
    ∷ numbers (bit (lt (mean_radius 1) threshold)) 1
    ∷ numbers (bit (lt (mean_radius 2) threshold)) 1
    ∷ numbers (bit (lt (mean_radius 3) threshold)) 0
    ∷ doubles (kernel_of (dec 5 1) (dec 5 1) (dec 1 1) false) one64
    ∷ doubles (kernel_of (dec 5 1) (dec 5 1) (dec 24 6) false) zero64
    ∷ reads (extent (dec 5 1) (dec 5 1) (dec 5 1)) 16384
    ∷ numbers (quantised (halves 1)) 0
    ∷ numbers (quantised (halves 3)) 2
    ∷ numbers (quantised below_half) 0
    ∷ numbers (quantised one64) 32767
    ∷ numbers (quantised (neg zero64)) 0
    ∷ refuses (extent zero64 nan zero64) 18
    ∷ refuses (extent zero64 zero64 nan) 19
    ∷ refuses (extent one64 nan nan) 18
    ∷ refuses (extent nan nan nan) 7
    ∷ reads (extent (neg zero64) (neg zero64) (neg zero64)) 0
    ∷ numbers (first_no (layout_questions twins)) 0
    ∷ doubles (response_on X (topology_of twins) (dec 125 3) centre) (cosine_of angle ⊕ sine_of angle ⊕ one64)
    ∷ doubles (response_on Y (topology_of twins) zero64 centre) (from_int (pos 2))
    ∷ []
