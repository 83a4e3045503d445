-- Names in a key. Definitions only.
use Rattle.std.specs.Prelude.{ℕ, ◌%◌, ◌≤◌, ◌<◌, Bool, ◌&&◌, List, eqb, ltb, length, get_or}
use Rattle.lists.specs.Lists.{all_distinct, index_of}
use Rattle.std.specs.List.{list_all}
use Rattle.layout.specs.Name.{valid_name}

-- all are names, and no two are equal
abbrev pub good_names : List ℕ → Bool
good_names names = list_all valid_name names && all_distinct names

-- w is one of the names, and the flag number of its place is 1: enabled and not LFE
abbrev pub is_active_name : List ℕ → List ℕ → ℕ → Bool
is_active_name names flags w = ltb (index_of w names) (length names) && eqb (get_or flags (index_of w names) 0) 1

-- each of ws is so
abbrev pub all_active_names : List ℕ → List ℕ → List ℕ → Bool
all_active_names names flags ws = list_all (is_active_name names flags) ws

-- an index of the names: the entry of each is its place or one before it
abbrev pub IndexOf : List ℕ → List ℕ → Type 0
IndexOf names entries = (i : ℕ) → i < length names → get_or entries (get_or names i 0 % 167) 0 ≤ i
