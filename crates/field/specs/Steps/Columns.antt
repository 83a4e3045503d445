-- The columns of the channels: of each its responses at the samples; and which are equal. Definitions only.
use Rattle.std.specs.Prelude.{ℕ, ◌≤◌, ◌<◌, Bool, List, [], T, ◌≡◌, eqb, Float, length, get_or}
use Rattle.std.specs.List.{list_all, find, range_with_len}
use Rattle.std.specs.Option.{unwrap_or}
use Rattle.std.specs.Float.{nan, binary64}
use Rattle.std.specs.Float.Ieee.{to_bits, fits}

-- the number of channel k at sample s: in rows of a sample, and in columns of a channel
abbrev pub in_rows : List (List Float) → ℕ → ℕ → Float
in_rows rows s k = get_or (get_or rows s []) k nan

abbrev pub in_columns : List (List Float) → ℕ → ℕ → Float
in_columns columns s k = get_or (get_or columns k []) s nan

-- the first n channels have the same numbers in columns as in rows
abbrev pub Transposed : List (List Float) → List (List Float) → ℕ → ℕ → Type 0
Transposed rows columns samples n = (s k : ℕ) → s < samples → k < n → in_columns columns s k ≡ in_rows rows s k

-- their numbers are doubles
abbrev pub Doubles : (ℕ → ℕ → Float) → ℕ → ℕ → Type 0
Doubles number samples n = (s k : ℕ) → s < samples → k < n → T (fits binary64 (number s k))

-- the bit pattern of the number at sample s
abbrev pub pattern_at : List Float → ℕ → ℕ
pattern_at column s = to_bits binary64 (get_or column s nan)

-- whether two columns have the same patterns at the first samples
abbrev pub same_column : ℕ → List Float → List Float → Bool
same_column samples a b = list_all (λ (s : ℕ). eqb (pattern_at a s) (pattern_at b s)) (range_with_len 0 samples)

-- whether channels j and k have the same column
abbrev pub same_channels : ℕ → List (List Float) → ℕ → ℕ → Bool
same_channels samples columns j k = same_column samples (get_or columns j []) (get_or columns k [])

-- the first channel whose column is that of channel k: k itself, or one before it
abbrev pub first_same : ℕ → List (List Float) → ℕ → ℕ
first_same samples columns k = unwrap_or (find (λ (j : ℕ). same_channels samples columns j k) (range_with_len 0 k)) k

-- a list has that channel for each of the first n
pub record Firsts (columns : List (List Float)) (samples n : ℕ) (firsts : List ℕ) : Type 0 where
  pub size : n ≤ length firsts
  pub values : (k : ℕ) → k < n → get_or firsts k 0 ≡ first_same samples columns k
