-- The distance of two natural numbers. Definitions only.
use Rattle.std.specs.Prelude.{ℕ, ◌+◌, ◌≤◌}

-- a and b are no more than e apart
abbrev pub Apart : ℕ → ℕ → ℕ → Type 0
Apart a b e = (a ≤ b + e) × (b ≤ a + e)
