-- A double by its pattern. Definitions only.
use Rattle.std.specs.Prelude.{ℕ, ◌-◌, ◌^◌, false, List, [], Float, to_bits}
use Rattle.std.specs.Float.{binary64}
use Rattle.std.specs.Fmt.{digits, padded_integral, format_spec}

-- the digits of a number to base 16, with zeros before them up to 16
abbrev pub sixteen : ℕ → List ℕ
sixteen n = padded_integral (format_spec 32 0 4 16 (2 ^ 64 - 1)) false [] (digits 16 false n)

abbrev pub pattern_text : Float → List ℕ
pattern_text x = sixteen (to_bits binary64 x)
