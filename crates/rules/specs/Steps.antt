-- What is asked of the anchors of a layer, with what does not vary with the anchor worked out. Definitions only.
use Rattle.std.specs.Prelude.{ℕ, Bool, ◌&&◌, ◌||◌, cond, eqb, Float}
use Rattle.std.specs.Float.Ieee.{lt}
use Rattle.doubles.specs.Arithmetic.{zero64}
use Rattle.region.specs.declared.RegionSemanticState.{RegionSemanticState}
use Rattle.region.specs.Zones.{is_include}
use Rattle.classes.specs.Classes.{bed_of}
use Rattle.rules.specs.declared.rule.Rule.{Rule}
use Rattle.rules.specs.declared.rule.Rule.TheVariants.{Upper, Lower}
use Rattle.rules.specs.Rules.{is_kept}

-- the rule of layer i of depth, at height z, in a room that has FLc or not: what is asked of an anchor, with what does not vary with the anchor worked out
abbrev pub rule_of : Bool → Bool → RegionSemanticState → ℕ → ℕ → Float → Rule
rule_of is222 five s depth i z =
    cond (cond is222 (lt zero64 z) (eqb depth 2 && eqb i 1))
    (Upper (is_include s.top))
    (Lower (is222 && lt z zero64) (record { horizontal = s.horizontal; five = five }))

-- whether the anchor of a name stays by a rule
abbrev pub stays_by : Rule → ℕ → Bool
stays_by (Upper include) n = include
stays_by (Lower whole bed) n = whole || is_kept (bed_of bed.horizontal n bed.five)
