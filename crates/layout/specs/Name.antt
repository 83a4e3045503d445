-- Names of channels: eight bytes packed into a number, the first one lowest. Definitions only.
use Rattle.std.specs.Prelude.{ℕ, zero, suc, ◌/◌, ◌%◌, Bool, ◌&&◌, ◌||◌, eqb, leb}

-- a byte from 33 to 126
abbrev pub letter : ℕ → Bool
letter b = leb 33 b && leb b 126

-- k bytes: zeros, or a letter and then such bytes
unfoldable pub padded : ℕ → ℕ → Bool
padded zero n = eqb n 0
padded (suc k) n = eqb n 0 || (letter (n % 256) && padded k (n / 256))

-- 1 to 8 bytes from 33 to 126 and then zeros up to eight
unfoldable pub valid_name : ℕ → Bool
unfolding padded
valid_name n = letter (n % 256) && padded 7 (n / 256)
