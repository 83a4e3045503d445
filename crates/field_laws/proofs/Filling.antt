-- Filling places of a store: twice is once, and a place stays filled where another is filled. Assumes nothing.
use Prim.Native.Nat.{ℕ, suc, ◌-◌, ◌*◌, ◌/◌, ◌≤◌, ◌<◌}
use mathlib.Core.Path.{◌≡◌, refl, sym, ap, ◌∙◌}
use mathlib.Core.Bool.{Bool, true, false, ◌&&◌, ◌||◌, not, cond, or_self}
use mathlib.Core.List.{List}
use native.Mathlib.Nat.{div-lt_iff_lt-mul}
use native.Mathlib.Omega.{arith}
use borrow.Author.Tests.{leb-true, ltb-true}
use lib.Dec.{leb, ltb}
use lib.Ieee.{Float, nan}
use lib.ListN.{length, get_or}
use Rattle.std.proofs.lemmas.Bool.{and_parts}
use Rattle.layout.specs.Room.{Room, names_in, active_in}
use Rattle.layout.proofs.SoundRoom.{SoundRoom}
use Rattle.field.specs.Patched.{either}
use Rattle.field.specs.Place.{place_number, row_of_z, row_written, place_start, filled_from, filled}
use Rattle.field.proofs.Patching.{patched_length, get_or_patched, is_patched, patched_both, patched_where}

module _ (r : Room) (p : ℕ) where
  abbrev writes : ℕ → Bool
  writes i = leb (place_start p) i && row_written r.layers ((i - place_start p) / active_in r)

  abbrev number : ℕ → Float
  number i = place_number r.layers (names_in r) (i - place_start p)

  -- what is written lies in the place
  writes_in : SoundRoom r → (i : ℕ) → writes i ≡ true → (place_start p ≤ i) × (i < place_start (suc p))
  writes_in sound i w =
      let a = leb-true (place_start p) i ((and_parts (leb (place_start p) i) (row_written r.layers ((i - place_start p) / active_in r)) w).0) in
      let z = (and_parts (leb (place_start p) i) (row_written r.layers ((i - place_start p) / active_in r)) w).1 in
      let q = ltb-true ((i - place_start p) / active_in r) 1486 ((and_parts (ltb ((i - place_start p) / active_in r) 1486) (ltb 1 (length r.layers) || not (row_of_z ((i - place_start p) / active_in r))) z).0) in
      let b : i - place_start p < 1486 * active_in r = (div-lt_iff_lt-mul sound.some_active).0 q in
      (a, omega (arith, sound.few_active))

pub fill_twice : (r : Room) (p : ℕ) (store : List Float) → filled r p (filled r p store) ≡ filled r p store
unfolding filled filled_from
fill_twice r p store =
    patched_both (writes r p) (writes r p) (number r p) store
    ∙ patched_where (either (writes r p) (writes r p)) (writes r p) (number r p) store (λ i h. or_self (writes r p i))

module _ (r s : Room) (sound : SoundRoom r) (other : SoundRoom s) (p q : ℕ) (store : List Float) (apart : p ≡ q → ⊥) (held : filled r p store ≡ store) where
  outside : (i : ℕ) → writes r p i ≡ true → (b : Bool) → writes s q i ≡ b → writes s q i ≡ false
  outside i w true e =
      let a = writes_in r p sound i w in
      let b = writes_in s q other i e in
      absurd (apart (omega (arith, a.0, a.1, b.0, b.1)))
  outside i w false e = e

  stays : (i : ℕ) → i < length store → (b : Bool) → writes r p i ≡ b → get_or (filled s q store) i nan ≡ cond b (number r p i) (get_or (filled s q store) i nan)
  unfolding filled filled_from
  stays i h true w =
      get_or_patched (writes s q) (number s q) store i nan h
      ∙ ap (λ (b : Bool). cond b (number s q i) (get_or store i nan)) (outside i w (writes s q i) refl)
      ∙ ap (λ (t : List Float). get_or t i nan) (sym held)
      ∙ get_or_patched (writes r p) (number r p) store i nan h
      ∙ ap (λ (b : Bool). cond b (number r p i) (get_or store i nan)) w
  stays i h false w = refl

  pub fill_other : filled r p (filled s q store) ≡ filled s q store
  unfolding filled filled_from
  fill_other =
      let long = patched_length (writes s q) (number s q) store in
      sym (is_patched (writes r p) (number r p) (filled s q store) (filled s q store) refl (λ i h. stays i (omega (arith, long)) (writes r p i) refl))
