-- A name is active in a key where it is the name of an active channel of the layout.
use Prim.Native.Nat.{ℕ, zero, suc, ◌+◌, ◌<◌}
use mathlib.Core.Path.{◌≡◌, refl, sym, ap, ◌∙◌}
use mathlib.Core.Bool.{Bool, true, false, not, cond, ◌||◌, or-true, false≢true}
use mathlib.Core.List.{List, [], ◌∷◌, map}
use native.Mathlib.Numerals.{one-add}
use native.Mathlib.Omega.{arith}
use borrow.Author.Tests.{eq-eqb, eqb-true, lt-ltb, ltb-true, not-true}
use lib.Dec.{eqb, ltb}
use lib.ListN.{length, get_or, length-map, get_or-map}
use Rattle.lists.specs.Lists.{elem, all_distinct, index_of}
use Rattle.std.specs.List.{filter}
use Rattle.std.proofs.lemmas.Bool.{and_parts}
use Rattle.lists.proofs.Tests.{place_at}
use Rattle.layout.specs.declared.Channel.{Channel}
use Rattle.layout.specs.Channels.{channel_name, active, no_channel}
use Rattle.questions.specs.Steps.KeyNames.{is_active_name}

-- the names of active channels
abbrev named : List Channel → List ℕ
named cs = map channel_name (filter active cs)

-- the name of an active channel is one of them
active_named : (cs : List Channel) (i : ℕ) → i < length cs → active (get_or cs i no_channel) ≡ true → elem (channel_name (get_or cs i no_channel)) (named cs) ≡ true
active_named [] i h e = absurd (omega arith)
active_named (c ∷ cs) zero h e = rw (e, eq-eqb (channel_name c) (channel_name c) refl)
active_named (c ∷ cs) (suc i) h e = go (active c) (active_named cs i (omega arith) e)
  where
    go : (b : Bool) → elem (channel_name (get_or cs i no_channel)) (named cs) ≡ true → elem (channel_name (get_or cs i no_channel)) (map channel_name (cond b (c ∷ filter active cs) (filter active cs))) ≡ true
    go true f = rw (f, or-true)
    go false f = f

-- by whether the first channel is active
named_first : (x : ℕ) (c : Channel) (cs : List Channel) → elem x (named (c ∷ cs)) ≡ cond (active c) (eqb (channel_name c) x || elem x (named cs)) (elem x (named cs))
named_first x c cs = go (active c)
  where
    go : (b : Bool) → elem x (map channel_name (cond b (c ∷ filter active cs) (filter active cs))) ≡ cond b (eqb (channel_name c) x || elem x (named cs)) (elem x (named cs))
    go true = refl
    go false = refl

-- and one of all names
named_among : (x : ℕ) (cs : List Channel) → elem x (named cs) ≡ true → elem x (map channel_name cs) ≡ true
named_among x [] e = e
named_among x (c ∷ cs) e = go (active c) (eqb (channel_name c) x) (elem x (map channel_name cs)) (elem x (named cs)) (sym (named_first x c cs) ∙ e) (named_among x cs)
  where
    go : (b d f g : Bool) → cond b (d || g) g ≡ true → (g ≡ true → f ≡ true) → (d || f) ≡ true
    go b true f g q h = refl
    go true false f g q h = h q
    go false false f g q h = h q

-- where all names are different, the channel at a name's place is the active one that has it
named_place : (x : ℕ) (cs : List Channel) → all_distinct (map channel_name cs) ≡ true → elem x (named cs) ≡ true →
    let p = index_of x (map channel_name cs) in
    (p < length cs) × (active (get_or cs p no_channel) ≡ true)
named_place x [] d e = absurd (false≢true e)
named_place x (c ∷ cs) d e =
    let b = and_parts (not (elem (channel_name c) (map channel_name cs))) (all_distinct (map channel_name cs)) d in
    go (eqb (channel_name c) x) refl (not-true _ b.0) (sym (named_first x c cs) ∙ e) (named_place x cs b.1)
  where
    here : (b : Bool) → active c ≡ b → channel_name c ≡ x → elem (channel_name c) (map channel_name cs) ≡ false → cond b true (elem x (named cs)) ≡ true → active c ≡ true
    here true a q n f = a
    here false a q n f = absurd (false≢true (sym n ∙ ap (λ (y : ℕ). elem y (map channel_name cs)) q ∙ named_among x cs f))

    rest : (b g : Bool) → cond b g g ≡ true → g ≡ true
    rest true g f = f
    rest false g f = f

    go : (b : Bool) → eqb (channel_name c) x ≡ b → elem (channel_name c) (map channel_name cs) ≡ false → cond (active c) (b || elem x (named cs)) (elem x (named cs)) ≡ true
        → (elem x (named cs) ≡ true → (index_of x (map channel_name cs) < length cs) × (active (get_or cs (index_of x (map channel_name cs)) no_channel) ≡ true))
        → (cond b 0 (1 + index_of x (map channel_name cs)) < suc (length cs)) × (active (get_or (c ∷ cs) (cond b 0 (1 + index_of x (map channel_name cs))) no_channel) ≡ true)
    go true q n f ih = (omega arith, here (active c) refl (eqb-true (channel_name c) x q) n f)
    go false q n f ih = let r = ih (rest (active c) (elem x (named cs)) f) in rw one-add (omega (arith, r.0), r.1)

module _ (cs : List Channel) (names flags : List ℕ) (names_are : names ≡ map channel_name cs) (flag_at : (i : ℕ) → i < length names → eqb (get_or flags i 0) 1 ≡ active (get_or cs i no_channel)) where
  active_by_key : (w : ℕ) → is_active_name names flags w ≡ true → elem w (named cs) ≡ true
  active_by_key w e =
      let p = index_of w names in
      let b = and_parts (ltb p (length names)) (eqb (get_or flags p 0) 1) e in
      let h : p < length names = ltb-true p (length names) b.0 in
      let long : length names ≡ length cs = ap length names_are ∙ length-map cs channel_name in
      let name : channel_name (get_or cs p no_channel) ≡ w = sym (get_or-map channel_name cs p no_channel) ∙ ap (λ (l : List ℕ). get_or l p 0) (sym names_are) ∙ place_at w names h in
      rw name at (active_named cs p (omega arith) (sym (flag_at p h) ∙ b.1))

  active_in_key : all_distinct (map channel_name cs) ≡ true → (w : ℕ) → elem w (named cs) ≡ true → is_active_name names flags w ≡ true
  active_in_key d w e =
      let p = index_of w names in
      let q : p ≡ index_of w (map channel_name cs) = ap (index_of w) names_are in
      let r = named_place w cs d e in
      let h : p < length names = omega (arith, q, r.0, ap length names_are, length-map cs channel_name) in
      rw (lt-ltb p (length names) h) (flag_at p h ∙ ap (λ (i : ℕ). active (get_or cs i no_channel)) q ∙ r.1)

  pub active_is : all_distinct (map channel_name cs) ≡ true → (w : ℕ) → is_active_name names flags w ≡ elem w (named cs)
  active_is d w = same (is_active_name names flags w) (elem w (named cs)) (active_by_key w) (active_in_key d w)
    where
      same : (a b : Bool) → (a ≡ true → b ≡ true) → (b ≡ true → a ≡ true) → a ≡ b
      same true b f g = sym (f refl)
      same false true f g = g refl
      same false false f g = refl
