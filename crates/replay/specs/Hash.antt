-- The hash over numbers that the programs write. Definitions only.
use Rattle.std.specs.Prelude.{ℕ, ◌+◌, ◌*◌, ◌%◌, ◌/◌, ◌^◌, List, Float, to_bits}
use Rattle.std.specs.Float.{binary64}
use Rattle.std.specs.List.{fold}

-- a hash and half a word more
abbrev pub mixed_half : ℕ → ℕ → ℕ
mixed_half h half = (h % 4294967291 * 65599 + half % 2 ^ 32) % 4294967291

-- the low half and then the high half
abbrev pub mixed_of : ℕ → ℕ → ℕ
mixed_of h w = mixed_half (mixed_half h w) (w / 2 ^ 32)

-- over the patterns of doubles, in order
abbrev pub hash_of : List Float → ℕ
hash_of xs = fold (λ h x. mixed_of h (to_bits binary64 x)) 0 xs
