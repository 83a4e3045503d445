-- Lists one behind another, and lists of entries that are known by numbers: flat ones, and ones whose entries have parts.
use Prim.Native.Nat.{ℕ, ◌+◌, ◌≤◌}
use mathlib.Core.Path.{◌≡◌, refl, ap, ap₂, ◌∙◌}
use mathlib.Core.Bool.{Bool, true, false, ◌&&◌, beq}
use mathlib.Core.List.{List, [], ◌∷◌, ◌++◌, map}
use native.Mathlib.Omega.{arith}
use lib.Dec.{T, eqb}
use lib.Ieee.Fits.{eq→eqb}
use lib.ListN.{length, drop, length-append, length-map}
use mir.Facts.{and_yes, yes_and}
use Rattle.lists.specs.Lists.{bit, all_same, total, flatten}
use Rattle.std.specs.List.{list_all}
use Rattle.layout.specs.declared.Channel.{Channel}
use Rattle.layout.specs.Same.{same_channel}
use Rattle.layout.proofs.SameNumbers.{eq→beq}
use Rattle.keys.specs.Keys.{filled_to, flag_number}

-- ---- lists one behind another
module _ {A : Type 0} where
  apart : (k l m n : List A) → length k ≡ length l → k ++ m ≡ l ++ n → (k ≡ l) × (m ≡ n)
  apart [] [] m n h e = (refl, e)
  apart [] (y ∷ l) m n h e = absurd (omega arith)
  apart (x ∷ k) [] m n h e = absurd (omega arith)
  apart (x ∷ k) (y ∷ l) m n h e =
      let r = apart k l m n (omega arith) (ap (drop 1) e) in
      (cc, r.1)

  -- parts of the same lengths, put one after another, tell each part
  pub parts_apart : (ps qs : List (List A)) → map length ps ≡ map length qs → flatten ps ≡ flatten qs → ps ≡ qs
  parts_apart [] [] h e = refl
  parts_apart [] (q ∷ qs) h e = let z : ◌≡◌ {A = ℕ} 0 1 = cc in absurd (omega arith)
  parts_apart (p ∷ ps) [] h e = let z : ◌≡◌ {A = ℕ} 0 1 = cc in absurd (omega arith)
  parts_apart (p ∷ ps) (q ∷ qs) h e =
      let r = apart p q (flatten ps) (flatten qs) (cc) e in
      ap₂ (λ (x : List A) (xs : List (List A)). x ∷ xs) r.0 (parts_apart ps qs (ap (drop 1) h) r.1)

  -- and are together as long as their lengths say
  pub concat_length : {B : Type 0} (parts : B → List A) (xs : List B) → length (flatten (map parts xs)) ≡ total (map (λ (x : B). length (parts x)) xs)
  concat_length parts [] = refl
  concat_length parts (x ∷ xs) = length-append (parts x) (flatten (map parts xs)) ∙ ap (λ (n : ℕ). length (parts x) + n) (concat_length parts xs)

-- the entries' numbers are equal where the filled lists are
pub numbers_same : {A : Type 0} (f : A → ℕ) (n : ℕ) (xs ys : List A) → length xs ≡ length ys → filled_to n (map f xs) ≡ filled_to n (map f ys) → map f xs ≡ map f ys
numbers_same f n xs ys h e = (apart (map f xs) (map f ys) _ _ (rw (length-map xs f, length-map ys f) h) e).0

-- ---- a list of entries is known by two lists of numbers
module _ {A : Type 0} (r : A → A → Bool) (good : A → Bool) (f g : A → ℕ) (closes : (x y : A) → T (good x) → T (good y) → f x ≡ f y → g x ≡ g y → T (r x y)) where
  pub entries_same : (xs ys : List A) → T (list_all good xs) → T (list_all good ys) → map f xs ≡ map f ys → map g xs ≡ map g ys → T (all_same r xs ys)
  entries_same [] [] h k p q = tt
  entries_same [] (y ∷ ys) h k p q = let z : ◌≡◌ {A = ℕ} 0 1 = cc in absurd (omega arith)
  entries_same (x ∷ xs) [] h k p q = let z : ◌≡◌ {A = ℕ} 0 1 = cc in absurd (omega arith)
  entries_same (x ∷ xs) (y ∷ ys) h k p q =
      let u = and_yes (good x) (list_all good xs) h in
      let v = and_yes (good y) (list_all good ys) k in
      yes_and (r x y) (all_same r xs ys) (closes x y u.0 v.0 (cc) (cc)) (entries_same xs ys u.1 v.1 (ap (drop 1) p) (ap (drop 1) q))

-- ---- one whose entries have parts, by a list of numbers, how long each part is, and all parts together
module _ {A : Type 0} (r : A → A → Bool) where
  all_same_apart : (k l m n : List A) → length k ≡ length l → T (all_same r (k ++ m) (l ++ n)) → T (all_same r k l) × T (all_same r m n)
  all_same_apart [] [] m n h e = (tt, e)
  all_same_apart [] (y ∷ l) m n h e = absurd (omega arith)
  all_same_apart (x ∷ k) [] m n h e = absurd (omega arith)
  all_same_apart (x ∷ k) (y ∷ l) m n h e =
      let p = and_yes (r x y) (all_same r (k ++ m) (l ++ n)) e in
      let q = all_same_apart k l m n (omega arith) p.1 in
      (yes_and (r x y) (all_same r k l) p.0 q.0, q.1)

  module _
      {B : Type 0}
      (s : B → B → Bool)
      (good : B → Bool)
      (f : B → ℕ)
      (parts : B → List A)
      (closes : (x y : B) → T (good x) → T (good y) → f x ≡ f y → T (all_same r (parts x) (parts y)) → T (s x y))
    where
      pub parted_same : (xs ys : List B) → T (list_all good xs) → T (list_all good ys) → map f xs ≡ map f ys → map (λ (x : B). length (parts x)) xs ≡ map (λ (x : B). length (parts x)) ys → T (all_same r (flatten (map parts xs)) (flatten (map parts ys))) → T (all_same s xs ys)
      parted_same [] [] h k p q w = tt
      parted_same [] (y ∷ ys) h k p q w = let z : ◌≡◌ {A = ℕ} 0 1 = cc in absurd (omega arith)
      parted_same (x ∷ xs) [] h k p q w = let z : ◌≡◌ {A = ℕ} 0 1 = cc in absurd (omega arith)
      parted_same (x ∷ xs) (y ∷ ys) h k p q w =
          let u = and_yes (good x) (list_all good xs) h in
          let v = and_yes (good y) (list_all good ys) k in
          let c = all_same_apart (parts x) (parts y) (flatten (map parts xs)) (flatten (map parts ys)) (cc) w in
          yes_and (s x y) (all_same s xs ys) (closes x y u.0 v.0 (cc) c.0) (parted_same xs ys u.1 v.1 (ap (drop 1) p) (ap (drop 1) q) c.1)

-- ---- a channel is known by its name and its flags
pub bit_most : (b : Bool) → bit b ≤ 1
bit_most true = omega arith
bit_most false = omega arith

bit_same : (a b : Bool) → bit a ≡ bit b → a ≡ b
bit_same true true e = refl
bit_same true false e = absurd (omega arith)
bit_same false true e = absurd (omega arith)
bit_same false false e = refl

pub channel_closes : (x y : Channel) → T true → T true → x.name ≡ y.name → flag_number x ≡ flag_number y → T (same_channel x y)
channel_closes x y h k p q =
    let a = bit_most x.enabled in
    let b = bit_most y.enabled in
    let e = bit_same x.enabled y.enabled (omega arith) in
    let f = bit_same x.lfe y.lfe (omega arith) in
    yes_and (eqb x.name y.name && beq x.enabled y.enabled) (beq x.lfe y.lfe)
    (yes_and (eqb x.name y.name) (beq x.enabled y.enabled) (eq→eqb p) (eq→beq e))
    (eq→beq f)
