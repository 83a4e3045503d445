-- A list written at some of its places. Definitions only.
use Rattle.std.specs.Prelude.{ℕ, ◌+◌, Bool, ◌&&◌, ◌||◌, cond, List, [], ◌∷◌, leb, ltb, Float}

-- a list with f at each index that w names, and the rest as it was
unfoldable pub patched_from : ℕ → (ℕ → Bool) → (ℕ → Float) → List Float → List Float
patched_from i w f [] = []
patched_from i w f (x ∷ xs) = cond (w i) (f i) x ∷ patched_from (i + 1) w f xs

unfoldable pub patched : (ℕ → Bool) → (ℕ → Float) → List Float → List Float
unfolding patched_from
patched w f xs = patched_from 0 w f xs

-- from a up to b
abbrev pub within : ℕ → ℕ → ℕ → Bool
within a b i = leb a i && ltb i b

-- what v or w names
abbrev pub either : (ℕ → Bool) → (ℕ → Bool) → ℕ → Bool
either v w i = v i || w i
