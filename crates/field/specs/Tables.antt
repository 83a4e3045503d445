-- The numbers of the tables, by axis, channel name, centre and radius. Definitions only.
use Rattle.std.specs.Prelude.{ℕ, zero, suc, ◌+◌, ◌-◌, ◌*◌, ◌/◌, ◌%◌, Bool, cond, List, [], ltb, Float, get_or}
use Rattle.std.specs.Float.{nan}
use Rattle.std.specs.Float.Ieee.{le}
use Rattle.doubles.specs.Arithmetic.{◌⊕◌, ◌⊗◌, zero64}
use Rattle.layout.specs.Topology.{TopologyLayer}
use Rattle.extent.specs.Kernel.{kernel_of, shaped_of, exponent_of}
use Rattle.field.specs.Knots.{Axis, X, Y, is_z, sample_count, sample, centre_knot, radius_knot}
use Rattle.field.specs.Responses.{response_on}
use Rattle.field.specs.Patched.{within}

-- the shaped product of kernel k and response r added to a sum; a sample whose kernel is at most 0 adds nothing
abbrev pub add_sample : Float → Float → Float → Float → Float
add_sample k r e sum = cond (le k zero64) sum (sum ⊕ shaped_of (k ⊗ r) e)

-- over the first samples in rising order, from 0
unfoldable pub sampled_over : (ℕ → Float) → (ℕ → Float) → Float → ℕ → Float
unfolding shaped_of
sampled_over kernel response e zero = zero64
sampled_over kernel response e (suc s) = add_sample (kernel s) (response s) e (sampled_over kernel response e s)

-- `sampled_response` of a channel, for centre knot i and radius knot j
unfoldable pub sampled_on : Axis → List TopologyLayer → ℕ → ℕ → ℕ → Float
unfolding sampled_over kernel_of exponent_of response_on
sampled_on a t i j name =
    sampled_over
    (λ (s : ℕ). kernel_of (sample a s) (centre_knot a i) (radius_knot j) (is_z a))
    (λ (s : ℕ). response_on a t (sample a s) name)
    (exponent_of (radius_knot j))
    (sample_count a)

-- ---- what the code works out from the columns of the channels: of each its responses at the samples

-- the number of channel k at a knot: centre knot / 20 and radius knot % 20
unfoldable pub knot_number : Axis → List (List Float) → ℕ → ℕ → Float
unfolding sampled_over kernel_of exponent_of
knot_number a columns knot k =
    sampled_over
    (λ (s : ℕ). kernel_of (sample a s) (centre_knot a (knot / 20)) (radius_knot (knot % 20)) (is_z a))
    (λ (s : ℕ). get_or (get_or columns k []) s nan)
    (exponent_of (radius_knot (knot % 20)))
    (sample_count a)

-- the tables of X and Y, row after row
unfoldable pub number_xy : List (List Float) → List (List Float) → ℕ → ℕ → Float
unfolding knot_number
number_xy x y r k = cond (ltb r 700) (knot_number X x r k) (knot_number Y y (r - 700) k)

-- the places of row r, where rows have n numbers
abbrev pub row : ℕ → ℕ → ℕ → Bool
row n r = within (r * n) ((r + 1) * n)
