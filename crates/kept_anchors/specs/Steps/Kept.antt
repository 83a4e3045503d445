-- A key with just the anchors whose flags are set: an equation for any 156 numbers. Definitions only.
-- `kept_key` is the interface; what stands before it are its parts.
use Rattle.std.specs.Prelude.{ℕ, ◌+◌, min, Bool, not, cond, List, [], ◌∷◌, map, eqb, length, take, set, get_or}
use Rattle.std.proofs.Math.Seq.{slice}
use Rattle.lists.specs.Lists.{bit, chunks, total}
use Rattle.std.specs.List.{filter}
use Rattle.keys.specs.Keys.{filled_to}
use Rattle.keys.specs.Steps.{two_parts}

-- ---- flags

-- how many are set
abbrev pub count_set : List Bool → ℕ
count_set [] = 0
count_set (b ∷ bs) = bit b + count_set bs

-- those of a list whose flag is set, in order
abbrev pub picked : {A : Type 0} → List Bool → List A → List A
picked [] xs = []
picked (b ∷ bs) [] = []
picked (b ∷ bs) (x ∷ xs) = cond b (x ∷ picked bs xs) (picked bs xs)

abbrev pub is_positive : ℕ → Bool
is_positive n = not (eqb n 0)

-- how many flags are set in each part of these lengths
abbrev pub counts_of : List ℕ → List Bool → List ℕ
counts_of ns bs = map count_set (chunks ns bs)

-- ---- parts of a key

-- the first n numbers from place a on are xs with zeros behind them, and from place b on ys with zeros behind them; the others stay
abbrev pub parts_over : ℕ → ℕ → ℕ → List ℕ → List ℕ → List ℕ → List ℕ
parts_over a b n xs ys key = two_parts a (filled_to n xs) b (filled_to n ys) n key

-- n numbers from place a on: those of xs whose flags are set, and zeros behind them; and of ys from place b on
abbrev pub picked_parts : ℕ → ℕ → ℕ → List Bool → List ℕ → List ℕ → List ℕ → List ℕ
picked_parts a b n bs xs ys key = parts_over a b n (picked bs xs) (picked bs ys) key

-- how many rows each of the first n layers keeps, by how many anchors each row keeps
abbrev pub rows_by : ℕ → List ℕ → List ℕ → List ℕ
rows_by n key counts = counts_of (slice 48 (48 + n) key) (map is_positive counts)

-- the first n layers by how many rows they keep, rows by how many anchors they keep, and anchors by their flags
abbrev pub layers_picked : ℕ → List ℕ → List ℕ → List ℕ
layers_picked n sizes key = picked_parts 48 100 n (map is_positive sizes) sizes (slice 100 (100 + n) key) key

abbrev pub rows_picked : ℕ → List ℕ → List ℕ → List ℕ
rows_picked n counts key = picked_parts 52 104 n (map is_positive counts) (take n counts) (slice 104 (104 + n) key) key

abbrev pub anchors_picked : ℕ → List Bool → List ℕ → List ℕ
anchors_picked n kept key = picked_parts 76 128 n kept (slice 76 (76 + n) key) (slice 128 (128 + n) key) key

-- ---- how many layers, rows and anchors a key has: as its counts say, as far as its places reach
abbrev pub layers_of_key : List ℕ → ℕ
layers_of_key key = min (get_or key 153 0) 4

abbrev pub rows_of_key : List ℕ → ℕ
rows_of_key key = min (total (slice 48 (48 + layers_of_key key) key)) 24

abbrev pub anchors_of_key : List ℕ → ℕ
anchors_of_key key = min (total (slice 52 (52 + rows_of_key key) key)) 24

-- how many anchors each row keeps, and how many rows each layer
abbrev pub anchors_left : List Bool → List ℕ → List ℕ
anchors_left kept key = counts_of (slice 52 (52 + rows_of_key key) key) kept

abbrev pub rows_left : List Bool → List ℕ → List ℕ
rows_left kept key = rows_by (layers_of_key key) key (anchors_left kept key)

-- ---- the key with just the anchors that are kept, and how many layers are left
unfoldable pub kept_key : List Bool → List ℕ → List ℕ
kept_key kept key =
    let layers = layers_picked (layers_of_key key) (rows_left kept key) key in
    let rows = rows_picked (rows_of_key key) (anchors_left kept key) layers in
    set (anchors_picked (anchors_of_key key) kept rows) 153 (length (filter is_positive (rows_left kept key)))
