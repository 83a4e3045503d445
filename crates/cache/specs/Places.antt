-- The eight places of a selector, where keys are looked for and put: document 01, 'The selector'. Definitions only.
use Rattle.std.specs.Prelude.{ℕ, ◌+◌, ◌*◌, ◌%◌, cond, List, [], ◌∷◌, ◌++◌, eqb, ltb, take, drop, Option, Some, None}
use Rattle.std.proofs.Math.Seq.{slice}
use Rattle.lists.specs.Lists.{all_same}
use Rattle.keys.specs.Keys.{key_size}
use Rattle.cache.specs.declared.Ring.{Ring}

-- the key in place p
abbrev pub key_at : List ℕ → ℕ → List ℕ
key_at keys p = slice (key_size * p) (key_size * p + key_size) keys

-- the keys with one put in place p
abbrev pub with_key : List ℕ → ℕ → List ℕ → List ℕ
with_key keys p key = take (key_size * p) keys ++ key ++ drop (key_size * p + key_size) keys

-- the first n of eight numbers
abbrev pub first_places : ℕ → List ℕ
first_places n = take n (0 ∷ 1 ∷ 2 ∷ 3 ∷ 4 ∷ 5 ∷ 6 ∷ 7 ∷ [])

-- the first equal key among those that stand i behind place p
abbrev pub find_from : List ℕ → List ℕ → ℕ → List ℕ → Option ℕ
find_from keys key p [] = None
find_from keys key p (i ∷ is) = cond (all_same eqb (key_at keys ((p + i) % 8)) key) (Some ((p + i) % 8)) (find_from keys key p is)

-- The list runs from the oldest place on; the first equal key counts.
abbrev pub slot_of : List ℕ → Ring → List ℕ → Option ℕ
slot_of keys r key = find_from keys key r.oldest (first_places r.count)

-- the place of a new key: (oldest + keys held) mod 8
abbrev pub new_place : Ring → ℕ
new_place r = (r.oldest + r.count) % 8

-- the ring after a new key: one more, or the oldest place moves on by one, mod 8
abbrev pub ring_after : Ring → Ring
ring_after r = record { count = cond (ltb r.count 8) (r.count + 1) r.count; oldest = cond (ltb r.count 8) r.oldest ((r.oldest + 1) % 8) }
