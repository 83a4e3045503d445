-- Arrays that std makes by calls of a closure.
use Prim.Native.Nat.{ℕ, zero, suc, ◌+◌, ◌<◌}
use mathlib.Core.Path.{◌≡◌, sym, ap, subst, ◌∙◌}
use mathlib.Core.List.{List, [], ◌∷◌, map}
use native.Mathlib.Nat.{add-zero, zero-add}
use native.Mathlib.Omega.{arith}
use denote.Param.Members.{Mut, Called}
use lib.ListN.{length, get_or, length-map, get_or-map}
use lib.Seq.{ext_get_or}
use Rattle.std.specs.Prelude.{Some}
use Rattle.std.specs.Array.{IsMapOf, MapsFrom, list_steps}
use Rattle.std.specs.Iterator.{Yields, CallableAtEachTurn}
use Rattle.std.specs.List.{FoldsTo}
use Rattle.std.proofs.lemmas.List.{nil_from_length}

-- a list with h of each entry of another is its `map h`
mapped : {A B : Type 0} (h : A → B) (xs : List A) (ys : List B) → length ys ≡ length xs → ((i : ℕ) (d : A) (e : B) → i < length xs → get_or ys i e ≡ h (get_or xs i d)) → ys ≡ map h xs
mapped h [] ys l at = nil_from_length ys l
mapped h (x ∷ xs) ys l at =
    ext_get_or (h x) ys (map h (x ∷ xs)) (l ∙ sym (length-map (x ∷ xs) h))
    (λ i k. at i x (h x) (omega (arith, l)) ∙ sym (get_or-map h (x ∷ xs) i x))

-- an array's `map` gives the list's, where the closure computes h
pub map_of : {F A B : Type 0} {g : Mut F (A × Unit {0}) B} {f : F} (h : A → B) (each : (p q : F) (x : A) (y : B) → Called g p (x, tt) y q → y ≡ h x) (xs : List A) (ys : List B) (n : ℕ) → length xs ≡ n → IsMapOf g f xs ys n → ys ≡ map h xs
map_of h each xs ys n l m =
    mapped h xs ys (m.long ∙ sym l) (λ i d e k. let t = m.at i d e (omega arith) in each t.0 t.1 _ _ t.2)

module _ {F A B : Type 0} {g : Mut F (A × Unit {0}) B} {f : F} (h : A → B) (each : (q : F) (x : A) (y : B) → Called g f (x, tt) y q → (y ≡ h x) × (q ≡ f)) (xs : List A) (ys : List B) where
  each_from : (i n : ℕ) → MapsFrom g f xs ys i n → (j : ℕ) (d : A) (e : B) → j < n → get_or ys (i + j) e ≡ h (get_or xs (i + j) d)
  each_from i zero m j d e k = absurd (omega arith)
  each_from i (suc n) (q, x, y, a, b, c, m) zero d e k = rw add-zero (b.1 e ∙ (each q x y c).0 ∙ ap h (sym (a.1 d)))
  each_from i (suc n) (q, x, y, a, b, c, m) (suc j) d e k =
      let P : F → Type 0 = λ s. MapsFrom g s xs ys (i + 1) n in
      let w : i + 1 + j ≡ i + suc j = omega arith in
      rw (← w) (each_from (i + 1) n (subst P (each q x y c).1 m) j d e (omega arith))

  -- the same of a closure that keeps what it holds, which it reads
  pub map_by : (n : ℕ) → length xs ≡ n → IsMapOf g f xs ys n → ys ≡ map h xs
  map_by n l m = mapped h xs ys (m.long ∙ sym l) (λ i d e k. rw zero-add at (each_from 0 n m.each i d e (omega arith)))

-- ---- a closure that may be called at each entry in turn, and keeps what it holds
module _ {A P : Type 0} (R : P → A → P → Type 0) (Q : P → A → Type 0) (p : P) (keeps : (x : A) (q : P) → R p x q → q ≡ p) where
  at_each : (s ys t : List A) (q : P) (x : A) (u : List A) → ((i : ℕ) (d : A) → i < length s → Q p (get_or s i d)) → Yields list_steps s ys t → FoldsTo R p ys q → list_steps t (Some x) u → Q q x
  at_each s [] t q x u each y f l =
      let E : List A → Type 0 = λ s'. (i : ℕ) (d : A) → i < length s' → Q p (get_or s' i d) in
      let K : P → Type 0 = λ p'. Q p' x in
      subst K f (subst E (y ∙ l) each 0 x (omega arith))
  at_each s (z ∷ ys) t q x u each (j, e, y) (p', r, f) l =
      let E : List A → Type 0 = λ s'. (i : ℕ) (d : A) → i < length s' → Q p (get_or s' i d) in
      let K : P → Type 0 = λ p''. FoldsTo R p'' ys q in
      at_each j ys t q x u (λ i d k. subst E e each (suc i) d (omega arith)) y (subst K (keeps z p' r) f) l

  pub callable_at_each : (xs : List A) → ((i : ℕ) (d : A) → i < length xs → Q p (get_or xs i d)) → CallableAtEachTurn list_steps R Q xs p
  callable_at_each xs each = record { at = λ ys t q x u y f l. at_each xs ys t q x u each y f l }
