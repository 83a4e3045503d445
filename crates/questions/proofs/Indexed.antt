-- Laws for the index of the names in a key. Assumes nothing.
use Prim.Native.Nat.{ℕ, zero, suc, ◌+◌, ◌%◌, ◌≤◌, ◌<◌}
use mathlib.Core.Path.{◌≡◌, refl, sym, ap, ◌∙◌, subst}
use mathlib.Core.Bool.{Bool, true, false, cond, ◌&&◌}
use mathlib.Core.List.{List, [], ◌∷◌, ◌++◌}
use native.Mathlib.Numerals.{add-one}
use native.Mathlib.Omega.{arith}
use borrow.Author.Tests.{eq-eqb, eqb-true, eqb-false, lt-ltb, ltb-true}
use lib.Dec.{eqb, ltb}
use lib.ListN.{length, take, drop, get_or, set, length-set, length-drop, length-append}
use lib.Seq.{drop-cons, get_or-drop, get_or-take, get_or_at, get_or-set_same, get_or-set_other, take_all, take-take, take-append-le}
use Rattle.std.specs.Prelude.{Option, Some, None, position}
use Rattle.lists.specs.Lists.{all_distinct, elem, index_of}
use Rattle.std.specs.List.{list_all}
use Rattle.lists.proofs.Places.{position_is}
use Rattle.lists.proofs.Tests.{elem_place, place_at}
use Rattle.std.specs.Option.{MatchOption}
use Rattle.std.proofs.lemmas.Bool.{and_parts}
use Rattle.layout.specs.Name.{valid_name}
use Rattle.questions.specs.Steps.KeyNames.{is_active_name, IndexOf}

-- the place of a name is no later than any place where it stands
place_le : (x : ℕ) (l : List ℕ) (p : ℕ) → p < length l → get_or l p 0 ≡ x → index_of x l ≤ p
place_le x [] p h e = absurd (omega arith)
place_le x (y ∷ l) zero h e = rw (eq-eqb y x e) (omega arith)
place_le x (y ∷ l) (suc p) h e = go (eqb y x) (place_le x l p (omega arith) e)
  where
    go : (b : Bool) → index_of x l ≤ p → cond b 0 (1 + index_of x l) ≤ suc p
    go true k = omega arith
    go false k = omega arith

-- ---- the loop: the names from i on are valid, and their entries are written; clear says that each entry was free
pub record Named (names : List ℕ) (entries : List ℕ) (clear : Bool) (i : ℕ) : Type 0 where
  pub reached : i ≤ length names
  pub few : length names ≤ 24
  pub room : length entries ≡ 167
  pub valid : list_all valid_name (drop i names) ≡ true
  pub told : (j : ℕ) → i ≤ j → j < length names → get_or entries (get_or names j 0 % 167) 0 ≤ j
  pub distinct : clear ≡ true → all_distinct (drop i names) ≡ true

module _ (names : List ℕ) (entries : List ℕ) (clear : Bool) (i : ℕ) (inv : Named names entries clear i) where
  module _ (k : ℕ) (s : i ≡ k + 1) where
    within : k < length names
    within = omega (arith, inv.reached)

    here : drop k names ≡ get_or names k 0 ∷ drop i names
    here = rw (s, add-one) (drop-cons names k 0 within)

    module _ (e : ℕ) (q : e ≡ get_or names k 0 % 167) (l : e < 167) where
      -- a free entry is that of none of the names behind
      fresh : get_or entries e 0 ≡ 24 → elem (get_or names k 0) (drop i names) ≡ false
      fresh f = go (elem (get_or names k 0) (drop i names)) refl
        where
          go : (b : Bool) → elem (get_or names k 0) (drop i names) ≡ b → b ≡ false
          go false g = refl
          go true g =
              let x = get_or names k 0 in
              let p = index_of x (drop i names) in
              let h : p < length (drop i names) = ltb-true p _ (sym (elem_place x (drop i names)) ∙ g) in
              let r : i + p < length names = omega (arith, length-drop i names) in
              let same : get_or names (i + p) 0 ≡ x = sym (get_or-drop i names p 0) ∙ place_at x (drop i names) h in
              let t : get_or entries (get_or names (i + p) 0 % 167) 0 ≤ i + p = inv.told (i + p) (omega arith) r in
              let u : get_or entries (get_or names (i + p) 0 % 167) 0 ≡ get_or entries e 0 = ap (λ (y : ℕ). get_or entries (y % 167) 0) same ∙ ap (λ (y : ℕ). get_or entries y 0) (sym q) in
              absurd (omega (arith, t, u, f, r, inv.few))

      pub named_more : valid_name (get_or names k 0) ≡ true → Named names (set entries e k) (clear && eqb (get_or entries e 0) 24) k
      named_more v =
          record {
            reached = omega (arith, inv.reached);
            few = inv.few;
            room = length-set entries e k ∙ inv.room;
            valid = rw (here, v) inv.valid;
            told = λ j a b. at j a b (eqb (get_or names j 0 % 167) e) refl;
            distinct =
                λ c.
                let d = and_parts clear (eqb (get_or entries e 0) 24) c in
                rw (here, fresh (eqb-true (get_or entries e 0) 24 d.1)) (inv.distinct d.0);
          }
        where
          at : (j : ℕ) → k ≤ j → j < length names → (t : Bool) → eqb (get_or names j 0 % 167) e ≡ t → get_or (set entries e k) (get_or names j 0 % 167) 0 ≤ j
          at j a b true f = subst (λ (x : ℕ). get_or (set entries e k) x 0 ≤ j) (sym (eqb-true _ e f)) (rw (get_or-set_same entries e k 0 (omega (arith, inv.room))) a)
          at j a b false f =
              let d : i ≤ j = go (eqb j k) refl in
              rw (get_or-set_other entries e (get_or names j 0 % 167) k 0 (eqb-false _ e f)) (inv.told j d b)
            where
              go : (t : Bool) → eqb j k ≡ t → i ≤ j
              go true g = absurd (eqb-false _ e f (ap (λ (x : ℕ). get_or names x 0 % 167) (eqb-true j k g) ∙ sym q))
              go false g = let z = eqb-false j k g in omega arith

-- ---- the names that the loop has not seen are the first ones
pub record Walked (names : List ℕ) (entries : List ℕ) (clear : Bool) (rest : List ℕ) : Type 0 where
  pub named : Named names entries clear (length rest)
  pub front : rest ≡ take (length rest) names

module _ (names : List ℕ) (entries : List ℕ) (clear : Bool) (rest : List ℕ) (w : Walked names entries clear rest) (t : List ℕ) (x : ℕ) (p : rest ≡ t ++ (x ∷ [])) where
  longer : length rest ≡ length t + 1
  longer = ap length p ∙ length-append t (x ∷ [])

  last : get_or names (length t) 0 ≡ x
  last =
      sym (get_or-take (length rest) names (length t) 0 (omega (arith, longer)))
      ∙ ap (λ (l : List ℕ). get_or l (length t) 0) (sym w.front ∙ p)
      ∙ get_or_at t x [] 0 (length t) refl

  before : t ≡ take (length t) names
  before =
      sym (take-append-le (length t) t (x ∷ []) (omega arith) ∙ take_all (length t) t (omega arith))
      ∙ ap (take (length t)) (sym p ∙ w.front)
      ∙ take-take (length t) (length rest) names (omega (arith, longer))

  pub walked_more : (k e : ℕ) → k ≡ length t → e ≡ x % 167 → e < 167 → valid_name x ≡ true → Walked names (set entries e k) (clear && eqb (get_or entries e 0) 24) t
  walked_more k e s q l v =
      record {
        named = rw s (named_more names entries clear (length rest) w.named (length t) longer e (q ∙ ap (λ (y : ℕ). y % 167) (sym last)) l (rw last v));
        front = before;
      }

-- ---- an entry that has the name is its place
pub place_told : (names : List ℕ) (entries : List ℕ) → IndexOf names entries → (w p : ℕ) → p ≡ get_or entries (w % 167) 0 → p < length names → get_or names p 0 ≡ w → Some p ≡ position (λ (x : ℕ). eqb x w) names
place_told names entries t w p e k f =
    let q = index_of w names in
    let le : q ≤ p = place_le w names p k f in
    let h : q < length names = omega arith in
    let at : get_or names q 0 ≡ w = place_at w names h in
    let ge : get_or entries (get_or names q 0 % 167) 0 ≤ q = t q h in
    let same : p ≡ get_or entries (get_or names q 0 % 167) 0 = e ∙ ap (λ (x : ℕ). get_or entries (x % 167) 0) (sym at) in
    let is : p ≡ q = omega arith in
    rw (position_is w names, lt-ltb q (length names) h) (ap Some is)

-- ---- whether a channel is active, by the place of its name
module _ (names flags : List ℕ) (w : ℕ) where
  pub active_at : (p : ℕ) → Some p ≡ position (λ (x : ℕ). eqb x w) names → eqb (get_or flags p 0) 1 ≡ is_active_name names flags w
  active_at p e = go (ltb (index_of w names) (length names)) (e ∙ position_is w names)
    where
      go : (b : Bool) → Some p ≡ cond b (Some (index_of w names)) None → eqb (get_or flags p 0) 1 ≡ (b && eqb (get_or flags (index_of w names) 0) 1)
      go true h = cc
      go false h = absurd (cc)

  pub active_nowhere : None ≡ position (λ (x : ℕ). eqb x w) names → false ≡ is_active_name names flags w
  active_nowhere e = go (ltb (index_of w names) (length names)) (e ∙ position_is w names)
    where
      go : (b : Bool) → None ≡ cond b (Some (index_of w names)) None → false ≡ (b && eqb (get_or flags (index_of w names) 0) 1)
      go true h = absurd (cc)
      go false h = refl

  pub active_by : (o : Option ℕ) (r : Bool) {P : ℕ → Type 0} → MatchOption o (r ≡ false) P → ((p : ℕ) → P p → r ≡ eqb (get_or flags p 0) 1) → o ≡ position (λ (x : ℕ). eqb x w) names → r ≡ is_active_name names flags w
  active_by None r m f e = m ∙ active_nowhere e
  active_by (Some p) r m f e = f p m ∙ active_at p e
