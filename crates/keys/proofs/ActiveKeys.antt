-- How many channels of the room in a key are active: as many as flags are 1.
use Prim.Native.Nat.{ℕ, ◌+◌, min}
use mathlib.Core.Path.{◌≡◌, refl, sym, ap, ◌∙◌}
use mathlib.Core.Bool.{Bool, true, false, cond}
use mathlib.Core.List.{List, [], ◌∷◌, map, head-eq_of_cons-eq, tail-eq_of_cons-eq}
use native.Mathlib.Omega.{arith}
use lib.Dec.{eqb}
use lib.ListN.{length, get_or, take, length-map}
use lib.Seq.{slice, length-slice}
use Rattle.lists.specs.Lists.{bit}
use Rattle.std.specs.List.{filter}
use Rattle.std.proofs.lemmas.List.{take-map}
use Rattle.lists.proofs.Chunks.{slice_front}
use Rattle.lists.proofs.Takes.{take_min}
use Rattle.layout.specs.Channels.{channel_name, active}
use Rattle.layout.specs.Room.{active_in}
use Rattle.keys.specs.InKey.{layout_in, room_in}
use Rattle.keys.proofs.InKey.{actives_are, used_is}

-- as many pass of two lists whose tests answer alike
alike_many : {A B : Type 0} (p : A → Bool) (q : B → Bool) (xs : List A) (ys : List B) → map p xs ≡ map q ys → length (filter p xs) ≡ length (filter q ys)
alike_many p q [] [] e = refl
alike_many p q [] (y ∷ ys) e = absurd (omega (arith, ap length e))
alike_many p q (x ∷ xs) [] e = absurd (omega (arith, ap length e))
alike_many {A} {B} p q (x ∷ xs) (y ∷ ys) e = go (p x) (q y) (head-eq_of_cons-eq e) (alike_many p q xs ys (tail-eq_of_cons-eq e))
  where
    go : (a b : Bool) → a ≡ b → length (filter p xs) ≡ length (filter q ys) → length (cond a (x ∷ filter p xs) (filter p xs)) ≡ length (cond b (y ∷ filter q ys) (filter q ys))
    go true true f h = omega (arith, h)
    go false false f h = h
    go true false f h = absurd (omega (arith, ap bit f))
    go false true f h = absurd (omega (arith, ap bit f))

-- whether a flag says enabled and not LFE
abbrev pub is_one : ℕ → Bool
is_one f = eqb f 1

pub active_in_lem : (key : List ℕ) → length key ≡ 156 → length (filter is_one (slice 24 (24 + min (get_or key 152 0) 24) key)) ≡ active_in (room_in key)
active_in_lem key long =
    let u = get_or key 152 0 in
    let cs = (layout_in key).channels in
    let e : map active (take u cs) ≡ map is_one (take u (slice 24 48 key)) =
    sym (take-map active u cs) ∙ ap (take u) (actives_are key long) ∙ take-map is_one u (slice 24 48 key) in
    ap (λ (v : List ℕ). length (filter is_one v)) (sym (slice_front key 24 (min u 24) 24 (omega arith)) ∙ take_min u 24 (slice 24 48 key) (omega (arith, length-slice 24 48 key (omega (arith, long)))))
    ∙ sym (alike_many active is_one (take u cs) (take u (slice 24 48 key)) e)
    ∙ sym (length-map (filter active (take u cs)) channel_name)
    ∙ ap (λ (n : ℕ). length (map channel_name (filter active (take n cs)))) (sym (used_is key long))
