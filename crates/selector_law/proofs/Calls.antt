-- One call on a selector that holds what the rule has kept. Assumes nothing.
use Prim.Native.Nat.{ℕ, zero, suc, ◌+◌, ◌%◌, ◌≤◌, ◌<◌}
use mathlib.Core.Path.{◌≡◌, refl, sym, ap, ap₂, ◌∙◌, subst}
use mathlib.Core.Bool.{Bool, true, false, ◌&&◌, ◌||◌, not, cond}
use mathlib.Core.List.{List, [], ◌∷◌, ◌++◌}
use native.Mathlib.Omega.{arith}
use borrow.Author.Tests.{ltb-true, ltb-false, eqb-true, eqb-false, eq-eqb}
use lib.Dec.{eqb, ltb}
use lib.Ieee.{Float}
use lib.Ieee.Fits.{and_l, and_r}
use lib.ListN.{length, get_or, take, drop}
use lib.Ieee.Bits.{is_true}
use Rattle.std.specs.List.{list_all, list_any}
use Rattle.layout.specs.Room.{Room}
use Rattle.layout.specs.Same.{same_room}
use Rattle.layout.proofs.SoundRoom.{SoundRoom}
use Rattle.extent.specs.Extent.{mean_of}
use Rattle.field.specs.Place.{filled_from, filled}
use Rattle.field_laws.proofs.SamePlaces.{same_filled}
use Rattle.field.proofs.Patching.{patched_length}
use Rattle.keys.specs.Keys.{key_numbers}
use Rattle.keys.proofs.SameKeys.{key_same, same_key_lem}
use Rattle.std.specs.Prelude.{Option, Some, None}
use Rattle.std.proofs.lemmas.List.Folds.{list_any_at}
use Rattle.std.proofs.lemmas.List.Recursion.{or_from_places}
use Rattle.std.proofs.lemmas.Bool.{false_from_ne_true}
use Rattle.std.proofs.lemmas.Float.{T_from_true}
use Rattle.cache.specs.declared.Word.{Word}
use Rattle.cache.specs.declared.Word.TheVariants.{Unused, Kept, Built}
use Rattle.cache.specs.Places.{key_at, with_key, slot_of}
use Rattle.cache.specs.Questions.{is_gain}
use Rattle.cache.proofs.EightKeys.{find_place, find_none}
use Rattle.selector.specs.Call.{Call, Found, Answer, Typed, answered, selected_of, wanted, gains_by, built, refused_by, accepted_with, keyed_by, keyed_of, served, answer_of}
use Rattle.selector.proofs.Questions.{asked_alone, Said, said}
use Rattle.selector_law.specs.Rule.{Key, packed_key, same_key, call_key, KeptList, none, refusal_by, is_held, leaves, is_full, with_new, after_call, store_after, keys_after, word_of, fresh, Right}
use Rattle.selector_law.proofs.Held.{no_key, Holds, fresh_holds, asks_14, holds_keys, grown_holds, turned_holds}
use Rattle.selector_law.proofs.Serving.{selected_sound, store_big, served_field, served_point, served_bounded, point_served_bounded}

-- ---- a key among keys
any_not : (p : Key → Bool) (ks : List Key) → ((i : ℕ) → i < length ks → p (get_or ks i no_key) ≡ true → ⊥) → list_any p ks ≡ false
any_not p ks h = or_from_places (list_any p) p refl (λ x xs. refl) ks no_key (λ i l. false_from_ne_true (p (get_or ks i no_key)) (h i l))

-- ---- what the selector is, by the rule's list
abbrev found_of : KeptList → List ℕ → List Float → Found
found_of k w s = record { keys = w; ring = record { count = length k.keys; oldest = k.oldest }; store = s }

-- what a call leaves to be shown
pub record Step (k : KeptList) (f : Found) (c : Call) (a : Answer) : Type 0 where
  pub right : Right k f c a
  pub holds : Holds (after_call (length f.store) k c) a.found

-- a place that is filled leaves the store as long as it was
filled_length : (r : Room) (p : ℕ) (store : List Float) → length (filled r p store) ≡ length store
unfolding filled filled_from
filled_length r p store = patched_length _ _ store

module _ (c : Call) (t : Typed c) where
  -- what the rule leaves of a store is as long
  size_after : (k : KeptList) (s : List Float) → length (store_after (length s) k c s) ≡ length s
  size_after k s = go (leaves (length s) k c)
    where
      go : (b : Bool) → length (cond b s (filled (selected_of c) ((k.oldest + length k.keys) % 8) s)) ≡ length s
      go true = refl
      go false = filled_length (selected_of c) ((k.oldest + length k.keys) % 8) s

  -- ---- accepted: by mean 0, by a key that is held, or by a new one
  module _ (k : KeptList) (w : List ℕ) (s : List Float) (h : Holds k (found_of k w s)) (q : Said c (length s)) where
    abbrev f : Found
    f = found_of k w s

    abbrev sel : Room
    sel = selected_of c

    abbrev slot : Option ℕ
    slot = slot_of w f.ring (wanted c).key

    abbrev at : ℕ
    at = (k.oldest + length k.keys) % 8

    sound : SoundRoom sel
    sound = selected_sound c t (length s) q

    big : 285312 ≤ length s
    big = store_big c t (length s) q

    -- a place whose numbers are the key's has a layout that is the same, and so its field
    record Found_at (i : ℕ) : Type 0 where
      within : i < length k.keys
      held : is_held k c ≡ true
      field : filled sel ((k.oldest + i) % 8) s ≡ s

    at_key : (i : ℕ) → i < length k.keys → key_at w ((k.oldest + i) % 8) ≡ (wanted c).key → Found_at i
    at_key i l e =
        let x = get_or k.keys i no_key in
        let z = h.places i l in
        let m = key_same sel x.room sound z.sound c.epoch x.epoch (sym e ∙ z.numbers) in
        record {
          within = l;
          held = list_any_at (same_key (call_key c)) k.keys i no_key l (ap₂ ◌&&◌ (is_true (same_room sel x.room) m.0) (eq-eqb c.epoch x.epoch m.1));
          field = same_filled sel x.room sound z.sound m.0 ((k.oldest + i) % 8) s ∙ z.field;
        }

    -- a key that is held has its numbers in a place
    no_key_lem : ((i : ℕ) → i < length k.keys → key_at w ((k.oldest + i) % 8) ≡ (wanted c).key → ⊥) → is_held k c ≡ false
    no_key_lem n =
        any_not (same_key (call_key c)) k.keys
        (λ i l e.
        let x = get_or k.keys i no_key in
        let z = h.places i l in
        let y = T_from_true (same_key (call_key c) x) e in
        let a = and_l (same_room sel x.room) (eqb c.epoch x.epoch) y in
        let b = eqb-true c.epoch x.epoch (is_true (eqb c.epoch x.epoch) (and_r (same_room sel x.room) (eqb c.epoch x.epoch) y)) in
        n i l (z.numbers ∙ sym (same_key_lem sel x.room a c.epoch ∙ ap (key_numbers x.room) b)))

    -- the three ways
    ways : (P : Answer → Type 0)
        → (eqb (mean_of c.extent) 0 ≡ true → P (accepted_with Unused (wanted c) f 0))
        → ((i : ℕ) → eqb (mean_of c.extent) 0 ≡ false → Found_at i → P (accepted_with Kept (wanted c) f ((k.oldest + i) % 8)))
        → (eqb (mean_of c.extent) 0 ≡ false → is_held k c ≡ false → P (accepted_with Built (wanted c) (built (wanted c) f) at))
        → P (served (wanted c) f)
    unfolding served
    ways P unused kept new = by_mean (eqb (mean_of c.extent) 0) refl
      where
        by_slot : eqb (mean_of c.extent) 0 ≡ false → (t : Option ℕ) → slot ≡ t → P (keyed_by (wanted c) f t)
        by_slot m (Some p) e =
            let r = find_place w (wanted c).key k.oldest (length k.keys) h.few p e in
            subst (λ (j : ℕ). P (accepted_with Kept (wanted c) f j)) (sym r.place) (kept r.index m (at_key r.index r.within (ap (key_at w) (sym r.place) ∙ r.same)))
        by_slot m None e = new m (no_key_lem (find_none w (wanted c).key k.oldest (length k.keys) h.few e))

        by_mean : (b : Bool) → eqb (mean_of c.extent) 0 ≡ b → P (cond b (accepted_with Unused (wanted c) f 0) (keyed_of (wanted c) f))
        by_mean true e = unused e
        by_mean false e = by_slot e slot refl

    -- ---- the gains, by any store as long: the point gains, or those of the selected layout's field
    abbrev value_by : List Float → List Float
    value_by u = cond (eqb (mean_of c.extent) 0) (gains_by (wanted c) u 0) (gains_by (wanted c) (filled sel 0 u) 0)

    -- a call that is accepted
    record Plain (a : Answer) : Type 0 where
      refusal : a.refusal ≡ 0
      number : a.n ≡ answered c
      gains : (u : List Float) → length u ≡ length s → a.gains ≡ value_by u

    by_point : eqb (mean_of c.extent) 0 ≡ true → (u : List Float) → length u ≡ length s → gains_by (wanted c) s 0 ≡ value_by u
    by_point e u l =
        let low : 0 < 8 = omega arith in
        served_point c t (length s) q (eqb-true (mean_of c.extent) 0 e) 0 0 s u low low big (omega (arith, big))
        ∙ sym (ap (λ (b : Bool). cond b (gains_by (wanted c) u 0) (gains_by (wanted c) (filled sel 0 u) 0)) e)

    by_field : eqb (mean_of c.extent) 0 ≡ false → (r : ℕ) → r < 8 → (u : List Float) → length u ≡ length s → gains_by (wanted c) (filled sel r s) r ≡ value_by u
    by_field e r low u l =
        served_field c t (length s) q r 0 s u low (omega arith) big (omega (arith, big))
        ∙ sym (ap (λ (b : Bool). cond b (gains_by (wanted c) u 0) (gains_by (wanted c) (filled sel 0 u) 0)) e)

    by_kept : (i : ℕ) → eqb (mean_of c.extent) 0 ≡ false → Found_at i → (u : List Float) → length u ≡ length s → gains_by (wanted c) s ((k.oldest + i) % 8) ≡ value_by u
    by_kept i e m u l = ap (λ (x : List Float). gains_by (wanted c) x ((k.oldest + i) % 8)) (sym m.field) ∙ by_field e ((k.oldest + i) % 8) (omega arith) u l

    plain : Plain (served (wanted c) f)
    plain =
        ways Plain
        (λ e. record { refusal = refl; number = refl; gains = by_point e })
        (λ i e m. record { refusal = refl; number = refl; gains = by_kept i e m })
        (λ e m. record { refusal = refl; number = refl; gains = by_field e at (omega arith) })

  -- ---- what a call answers
  module _ (k : KeptList) (w : List ℕ) (s : List Float) (h : Holds k (found_of k w s)) where
    by_refusal : answer_of c (found_of k w s) ≡ cond (eqb (refusal_by (length s) c) 0) (served (wanted c) (found_of k w s)) (refused_by (refusal_by (length s) c) c.gains (found_of k w s))
    unfolding answer_of
    by_refusal =
        ap (λ (n : ℕ). cond (eqb n 0) (served (wanted c) (found_of k w s)) (refused_by n c.gains (found_of k w s)))
        (asked_alone c (found_of k w s) (asks_14 k (found_of k w s) h))

    if_accepted : refusal_by (length s) c ≡ 0 → answer_of c (found_of k w s) ≡ served (wanted c) (found_of k w s)
    if_accepted z = by_refusal ∙ ap (λ (n : ℕ). cond (eqb n 0) (served (wanted c) (found_of k w s)) (refused_by n c.gains (found_of k w s))) z

    if_refused : eqb (refusal_by (length s) c) 0 ≡ false → answer_of c (found_of k w s) ≡ refused_by (refusal_by (length s) c) c.gains (found_of k w s)
    if_refused z = by_refusal ∙ ap (λ (b : Bool). cond b (served (wanted c) (found_of k w s)) (refused_by (refusal_by (length s) c) c.gains (found_of k w s))) z

  -- a fresh selector's answer
  fresh_plain : (s u : List Float) → length u ≡ length s → refusal_by (length s) c ≡ 0 → ((answer_of c (fresh u)).refusal ≡ 0) × ((answer_of c (fresh u)).n ≡ answered c) × ((answer_of c (fresh u)).gains ≡ cond (eqb (mean_of c.extent) 0) (gains_by (wanted c) u 0) (gains_by (wanted c) (filled (selected_of c) 0 u) 0))
  fresh_plain s u l z =
      let e : refusal_by (length u) c ≡ 0 = ap (λ (n : ℕ). refusal_by n c) l ∙ z in
      let a = if_accepted none (fresh u).keys u (fresh_holds u) e in
      let r = plain none (fresh u).keys u (fresh_holds u) (said c (length u) e) in
      (ap (λ (x : Answer). x.refusal) a ∙ r.refusal, ap (λ (x : Answer). x.n) a ∙ r.number, ap (λ (x : Answer). x.gains) a ∙ r.gains u refl)

  -- ---- accepted
  module _ (k : KeptList) (w : List ℕ) (s : List Float) (h : Holds k (found_of k w s)) (z : refusal_by (length s) c ≡ 0) where
    asked : Said c (length s)
    asked = said c (length s) z

    abbrev new_keys : List ℕ
    new_keys = with_key w ((k.oldest + length k.keys) % 8) (packed_key (call_key c))

    abbrev new_store : List Float
    new_store = filled (selected_of c) ((k.oldest + length k.keys) % 8) s

    -- an answer from its parts
    step_by : (word : Word) (g : Found) (r : ℕ) → word ≡ word_of k c → ((u : List Float) → length u ≡ length s → gains_by (wanted c) g.store r ≡ value_by k w s h asked u) → list_all is_gain (take (answered c) (gains_by (wanted c) g.store r)) ≡ true → Holds (after_call (length s) k c) g → g.keys ≡ keys_after (length s) k c w → g.store ≡ store_after (length s) k c s → Step k (found_of k w s) c (accepted_with word (wanted c) g r)
    step_by word g r e v b held ws ss =
        record {
          right = record {
            refused = sym z;
            unchanged = λ n. absurd (n z);
            alone = λ u l. let p = fresh_plain s u l z in (sym p.0, sym p.1, v u l ∙ sym p.2);
            number = λ n. refl;
            word = λ n. e;
            bounded = λ n. b;
            count = held.count;
            oldest = held.oldest;
            held = holds_keys (after_call (length s) k c) g held;
            keys = ws;
            store = ss;
            size = ap length ss ∙ size_after k s;
          };
          holds = held;
        }

    -- the list and the store stay
    module _ (y : leaves (length s) k c ≡ true) where
      stays_after : after_call (length s) k c ≡ k
      stays_after = ap (λ (b : Bool). cond b k (with_new k c)) y

      stays_holds : Holds (after_call (length s) k c) (found_of k w s)
      stays_holds = subst (λ (x : KeptList). Holds x (found_of k w s)) (sym stays_after) h

      stays_keys : w ≡ keys_after (length s) k c w
      stays_keys = sym (ap (λ (b : Bool). cond b w new_keys) y)

      stays_store : s ≡ store_after (length s) k c s
      stays_store = sym (ap (λ (b : Bool). cond b s new_store) y)

    -- a new key
    new_leaves : eqb (mean_of c.extent) 0 ≡ false → is_held k c ≡ false → leaves (length s) k c ≡ false
    new_leaves e m = rw (z, e, m)

    built_holds : SoundRoom (selected_of c) → Holds (with_new k c) (built (wanted c) (found_of k w s))
    built_holds sound = go (ltb (length k.keys) 8) (is_full k) refl refl
      where
        go : (a b : Bool) → ltb (length k.keys) 8 ≡ a → eqb (length k.keys) 8 ≡ b
            → Holds (cond b (record { keys = drop 1 k.keys ++ (call_key c ∷ []); oldest = (k.oldest + 1) % 8 }) (record { keys = k.keys ++ (call_key c ∷ []); oldest = k.oldest }))
            (record { keys = (built (wanted c) (found_of k w s)).keys; ring = record { count = cond a (length k.keys + 1) (length k.keys); oldest = cond a k.oldest ((k.oldest + 1) % 8) }; store = (built (wanted c) (found_of k w s)).store })
        go true false e d = grown_holds k (found_of k w s) h (call_key c) sound (ltb-true (length k.keys) 8 e)
        go false true e d = turned_holds k (found_of k w s) h (call_key c) sound (eqb-true (length k.keys) 8 d)
        go true true e d = absurd (omega (arith, ltb-true (length k.keys) 8 e, eqb-true (length k.keys) 8 d))
        go false false e d = absurd (eqb-false (length k.keys) 8 d (omega (arith, h.few, ltb-false (length k.keys) 8 e)))

    pub accepted_step : Step k (found_of k w s) c (served (wanted c) (found_of k w s))
    accepted_step =
        ways k w s h asked (Step k (found_of k w s) c)
        (λ e.
        let y : leaves (length s) k c ≡ true = rw (z, e) in
        step_by Unused (found_of k w s) 0 (sym (ap (λ (b : Bool). cond b Unused (cond (is_held k c) Kept Built)) e)) (by_point k w s h asked e)
        (point_served_bounded c t (length s) asked (eqb-true (mean_of c.extent) 0 e) 0 s (omega arith) (store_big c t (length s) asked)) (stays_holds y) (stays_keys y) (stays_store y))
        (λ i e m.
        let y : leaves (length s) k c ≡ true = rw (z, e, m.held) in
        let j = (k.oldest + i) % 8 in
        step_by Kept (found_of k w s) j (sym (ap₂ (λ (b d : Bool). cond b Unused (cond d Kept Built)) e m.held)) (by_kept k w s h asked i e m)
        (subst (λ (u : List Float). list_all is_gain (take (answered c) (gains_by (wanted c) u j)) ≡ true) m.field (served_bounded c t (length s) asked j s (omega arith) (store_big c t (length s) asked)))
        (stays_holds y) (stays_keys y) (stays_store y))
        (λ e m.
        let y = new_leaves e m in
        let j = (k.oldest + length k.keys) % 8 in
        step_by Built (built (wanted c) (found_of k w s)) j (sym (ap₂ (λ (b d : Bool). cond b Unused (cond d Kept Built)) e m)) (by_field k w s h asked e j (omega arith))
        (served_bounded c t (length s) asked j s (omega arith) (store_big c t (length s) asked))
        (subst (λ (x : KeptList). Holds x (built (wanted c) (found_of k w s))) (sym (ap (λ (b : Bool). cond b k (with_new k c)) y)) (built_holds (selected_sound c t (length s) asked)))
        (sym (ap (λ (b : Bool). cond b w new_keys) y))
        (sym (ap (λ (b : Bool). cond b s new_store) y)))

  -- ---- refused
  refused_step : (k : KeptList) (w : List ℕ) (s : List Float) → Holds k (found_of k w s) → eqb (refusal_by (length s) c) 0 ≡ false → Step k (found_of k w s) c (refused_by (refusal_by (length s) c) c.gains (found_of k w s))
  refused_step k w s h z =
      let n = eqb-false (refusal_by (length s) c) 0 z in
      let y : leaves (length s) k c ≡ true = ap (λ (b : Bool). not b || eqb (mean_of c.extent) 0 || is_held k c) z in
      let stay : after_call (length s) k c ≡ k = ap (λ (b : Bool). cond b k (with_new k c)) y in
      let held : Holds (after_call (length s) k c) (found_of k w s) = subst (λ (x : KeptList). Holds x (found_of k w s)) (sym stay) h in
      record {
        right = record {
          refused = refl;
          unchanged = λ m. (refl, refl);
          alone = λ u l.
              let r = ap (λ (i : ℕ). refusal_by i c) l in
              let a = if_refused none (fresh u).keys u (fresh_holds u) (ap (λ (i : ℕ). eqb i 0) r ∙ z) in
              (sym (ap (λ (x : Answer). x.refusal) a ∙ r), sym (ap (λ (x : Answer). x.n) a), sym (ap (λ (x : Answer). x.gains) a));
          number = λ e. absurd (n e);
          word = λ e. absurd (n e);
          bounded = λ e. absurd (n e);
          count = held.count;
          oldest = held.oldest;
          held = holds_keys (after_call (length s) k c) (found_of k w s) held;
          keys = sym (ap (λ (b : Bool). cond b w (with_key w ((k.oldest + length k.keys) % 8) (packed_key (call_key c)))) y);
          store = sym (ap (λ (b : Bool). cond b s (filled (selected_of c) ((k.oldest + length k.keys) % 8) s)) y);
          size = refl;
        };
        holds = held;
      }

  -- ---- one call
  step_of : (k : KeptList) (w : List ℕ) (s : List Float) → Holds k (found_of k w s) → Step k (found_of k w s) c (answer_of c (found_of k w s))
  step_of k w s h = go (eqb (refusal_by (length s) c) 0) refl
    where
      go : (b : Bool) → eqb (refusal_by (length s) c) 0 ≡ b → Step k (found_of k w s) c (answer_of c (found_of k w s))
      go true e =
          let z = eqb-true (refusal_by (length s) c) 0 e in
          subst (Step k (found_of k w s) c) (sym (if_accepted k w s h z)) (accepted_step k w s h z)
      go false e = subst (Step k (found_of k w s) c) (sym (if_refused k w s h e)) (refused_step k w s h e)

  pub step : (k : KeptList) (f : Found) → Holds k f → Step k f c (answer_of c f)
  step k f h =
      let e : f ≡ found_of k f.keys f.store = ap₂ (λ (n o : ℕ). record { keys = f.keys; ring = record { count = n; oldest = o }; store = f.store }) h.count h.oldest in
      subst (λ (g : Found). Step k g c (answer_of c g)) (sym e) (step_of k f.keys f.store (subst (Holds k) e h))
