-- Eight places in a ring: what each held place has, after one more key. Assumes nothing.
use Prim.Native.Nat.{ℕ, zero, suc, ◌+◌, ◌%◌, ◌≤◌, ◌<◌}
use mathlib.Core.Path.{◌≡◌, refl, sym, ap, ◌∙◌, subst}
use mathlib.Core.Logic.{⊎_elim}
use mathlib.Core.List.{List, [], ◌∷◌, ◌++◌, map}
use native.Mathlib.Nat.{eq-or-lt_of_le}
use native.Mathlib.Omega.{arith}
use lib.ListN.{length, get_or, drop, length-append, length-drop, length-map, length-take, get_or-append}
use lib.Seq.{get_or_at, get_or-drop, get_or-take, ext_get_or}
use Rattle.std.proofs.lemmas.List.{get_or-map}
use Rattle.cache.specs.Places.{first_places}
use Rattle.cache.proofs.KeyCompare.{eight_at}

-- the seven places behind the oldest are not the one that a turn gives away
not_given : (o i n : ℕ) → o < 8 → i < 7 → n ≡ 8 → (o + (1 + i)) % 8 ≡ (o + n) % 8 → ⊥
not_given o i n h k full e =
    let g : (o + (1 + i)) % 8 ≡ o = e ∙ ap (λ (m : ℕ). (o + m) % 8) full ∙ turn o h in
    omega (arith, g)
  where
    turn : (o : ℕ) → o < 8 → (o + 8) % 8 ≡ o
    turn o h = omega arith

-- P of a place and a key before, N after: the new key's place has N, and the others keep what they have
module _ {K : Type 0} (none : K) (P N : ℕ → K → Type 0) (o : ℕ) (key : K) (ks : List K) (low : o < 8) (here : N ((o + length ks) % 8) key) (there : (q : ℕ) (x : K) → q < 8 → (q ≡ (o + length ks) % 8 → ⊥) → P q x → N q x) (held : (i : ℕ) → i < length ks → P ((o + i) % 8) (get_or ks i none)) where
  -- where there is room
  pub grown : length ks < 8 → (i : ℕ) → i < length (ks ++ (key ∷ [])) → N ((o + i) % 8) (get_or (ks ++ (key ∷ [])) i none)
  grown room i l =
      ⊎_elim
      (λ (e : i ≡ length ks). rw (e, get_or_at ks key [] none (length ks) refl) here)
      (λ (j : i < length ks).
      subst (N ((o + i) % 8)) (sym (get_or-append ks (key ∷ []) none i j)) (there ((o + i) % 8) (get_or ks i none) (omega arith) (λ e. omega arith) (held i j)))
      (eq-or-lt_of_le (omega (arith, simp length-append at l)))

  -- where the oldest is dropped
  pub turned : length ks ≡ 8 → (i : ℕ) → i < length (drop 1 ks ++ (key ∷ [])) → N (((o + 1) % 8 + i) % 8) (get_or (drop 1 ks ++ (key ∷ [])) i none)
  turned full i l =
      let seven : length (drop 1 ks) ≡ 7 = rw (length-drop, full) in
      ⊎_elim
      (λ (e : i ≡ 7).
      let p : ((o + 1) % 8 + i) % 8 ≡ (o + length ks) % 8 = omega arith in
      rw (p, e, get_or_at (drop 1 ks) key [] none 7 seven) here)
      (λ (j : i < 7).
      let p : ((o + 1) % 8 + i) % 8 ≡ (o + (1 + i)) % 8 = omega arith in
      subst (λ (q : ℕ). N q (get_or (drop 1 ks ++ (key ∷ [])) i none)) (sym p)
      (subst (N ((o + (1 + i)) % 8)) (sym (get_or-drop 1 ks i none) ∙ sym (get_or-append (drop 1 ks) (key ∷ []) none i (omega arith)))
      (there ((o + (1 + i)) % 8) (get_or ks (1 + i) none) (omega arith) (not_given o i (length ks) low j full) (held (1 + i) (omega arith)))))
      (eq-or-lt_of_le (omega (arith, seven, simp length-append at l)))

-- ---- the numbers up to n
pub places_length : (n : ℕ) → n ≤ 8 → length (first_places n) ≡ n
places_length n h = rw length-take (omega arith)

-- what is said of each number up to n
pub listed_up : {A K : Type 0} (g : ℕ → A) (h : K → A) (none : K) (ks : List K) (n : ℕ) → length ks ≡ n → n ≤ 8 → ((i : ℕ) → i < n → g i ≡ h (get_or ks i none)) → map g (first_places n) ≡ map h ks
listed_up g h none ks n e few same =
    let m = places_length n few in
    let u = length-map (first_places n) g in
    let v = length-map ks h in
    ext_get_or (h none) (map g (first_places n)) (map h ks) (omega arith)
    (λ i l.
    let j : i < n = omega arith in
    get_or-map g (first_places n) i 0 (h none) (omega arith)
    ∙ ap g (get_or-take n (0 ∷ 1 ∷ 2 ∷ 3 ∷ 4 ∷ 5 ∷ 6 ∷ 7 ∷ []) i 0 j ∙ eight_at i (omega arith))
    ∙ same i j
    ∙ sym (get_or-map h ks i none (h none) (omega arith)))
