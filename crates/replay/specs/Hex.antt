-- Hexadecimal digits. Definitions only.
use Rattle.std.specs.Prelude.{ℕ, ◌+◌, ◌*◌, ◌%◌, ◌^◌, cond, List, ltb, leb, length, take, get_or, reverse}
use Rattle.std.specs.List.{fold}

-- the value of a digit, of either case
abbrev pub digit_of : ℕ → ℕ
digit_of c = cond (ltb c 58) (c % 16) ((c + 9) % 16)

-- n and then a digit; the lowest 64 bits of it
abbrev pub hex_more : ℕ → ℕ → ℕ
hex_more n c = n % 2 ^ 60 * 16 + digit_of c

-- the first 16 digits; 0 where there are fewer
abbrev pub hex_of : List ℕ → ℕ
hex_of digits = cond (leb 16 (length digits)) (fold hex_more 0 (take 16 digits)) 0

-- the three digits in front, each a tenth of the one before; 0 where the text has fewer
abbrev pub three_of : List ℕ → ℕ
three_of text = cond (leb 3 (length text)) (digit_of (get_or text 0 0) * 100 + digit_of (get_or text 1 0) * 10 + digit_of (get_or text 2 0)) 0

-- n and then a byte; the lowest 64 bits of it
abbrev pub packed_more : ℕ → ℕ → ℕ
packed_more n c = n % 2 ^ 56 * 256 + c

-- bytes as one number, the first lowest; the lowest 64 bits of it
abbrev pub packed_of : List ℕ → ℕ
packed_of bytes = fold packed_more 0 (reverse bytes)
