-- Tests of a double's range. Definitions only.
use Rattle.std.specs.Prelude.{Bool, cond, ◌&&◌, Float}
use Rattle.std.specs.Float.Ieee.{lt, le}

-- from a to b
abbrev pub is_between : Float → Float → Float → Bool
is_between a b x = le a x && le x b

-- Rust's `clamp`
unfoldable pub clamp_to : Float → Float → Float → Float
clamp_to a b x = cond (lt x a) a (cond (lt b x) b x)
