-- Words of the contracts on lists. Definitions only.
use Rattle.std.specs.Prelude.{ℕ, ◌+◌, Bool, true, false, not, cond, ◌&&◌, ◌||◌, List, [], ◌∷◌, ◌++◌, eqb, take, drop}

abbrev pub bit : Bool → ℕ
bit true = 1
bit false = 0

-- n is one of a list
abbrev pub elem : ℕ → List ℕ → Bool
elem n [] = false
elem n (x ∷ xs) = eqb x n || elem n xs

-- no two of a list are equal
abbrev pub all_distinct : List ℕ → Bool
all_distinct [] = true
all_distinct (x ∷ xs) = not (elem x xs) && all_distinct xs

-- the place of the first n in a list, and the list's length where there is none
abbrev pub index_of : ℕ → List ℕ → ℕ
index_of n [] = 0
index_of n (x ∷ xs) = cond (eqb x n) 0 (1 + index_of n xs)

module _ {A : Type 0} (r : A → A → Bool) where
  -- two lists agree by r, place by place, and are as long
  abbrev pub all_same : List A → List A → Bool
  all_same [] [] = true
  all_same [] (y ∷ ys) = false
  all_same (x ∷ xs) [] = false
  all_same (x ∷ xs) (y ∷ ys) = r x y && all_same xs ys

  -- x and each of a list stand in r to the next
  abbrev pub chain_from : A → List A → Bool
  chain_from x [] = true
  chain_from x (y ∷ ys) = r x y && chain_from y ys

  abbrev pub chain : List A → Bool
  chain [] = true
  chain (x ∷ xs) = chain_from x xs

-- the sum of a list
abbrev pub total : List ℕ → ℕ
total [] = 0
total (n ∷ ns) = n + total ns

-- a list cut into parts of these lengths
abbrev pub chunks : {A : Type 0} → List ℕ → List A → List (List A)
chunks [] xs = []
chunks (n ∷ ns) xs = take n xs ∷ chunks ns (drop n xs)

-- lists put one after another
abbrev pub flatten : {A : Type 0} → List (List A) → List A
flatten [] = []
flatten (xs ∷ xss) = xs ++ flatten xss

-- f of two lists, place by place, as far as both reach
abbrev pub zip_with : {A B C : Type 0} → (A → B → C) → List A → List B → List C
zip_with f [] ys = []
zip_with f (x ∷ xs) [] = []
zip_with f (x ∷ xs) (y ∷ ys) = f x y ∷ zip_with f xs ys
