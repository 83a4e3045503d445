-- What a selector holds: for each key of the kept list, its numbers and its field, in the key's place. Assumes nothing.
use Prim.Native.Nat.{ℕ, ◌+◌, ◌%◌, ◌≤◌, ◌<◌}
use mathlib.Core.Path.{◌≡◌, refl, sym, ap, ◌∙◌}
use mathlib.Core.Bool.{true}
use mathlib.Core.List.{List, [], ◌∷◌, ◌++◌, map}
use native.Mathlib.Omega.{arith}
use borrow.Author.Tests.{le-leb, lt-ltb}
use lib.Ieee.{Float}
use lib.ListN.{length, get_or, drop, length-append, length-drop}
use Rattle.layout.proofs.SoundRoom.{SoundRoom}
use Rattle.field.specs.Place.{filled}
use Rattle.field_laws.proofs.Filling.{fill_twice, fill_other}
use Rattle.keys.proofs.SameKeys.{key_length}
use Rattle.cache.specs.Places.{key_at, with_key}
use Rattle.cache.specs.Questions.{question14}
use Rattle.cache.proofs.EightKeys.{with_length, with_here, with_other}
use Rattle.selector.specs.Call.{Found}
use Rattle.selector_law.specs.Rule.{Key, packed_key, KeptList, held_keys, none, fresh}
use Rattle.selector_law.proofs.Places.{grown, turned, listed_up}

abbrev pub no_key : Key
no_key = record { room = record { channels = []; layers = [] }; epoch = 0 }

-- place p has the key's numbers, and its field: to fill it once more changes nothing
pub record Has (keys : List ℕ) (store : List Float) (p : ℕ) (x : Key) : Type 0 where
  pub numbers : key_at keys p ≡ packed_key x
  pub field : filled x.room p store ≡ store
  pub sound : SoundRoom x.room

pub record Holds (k : KeptList) (f : Found) : Type 0 where
  pub size : length f.keys ≡ 1248
  pub count : f.ring.count ≡ length k.keys
  pub few : length k.keys ≤ 8
  pub oldest : f.ring.oldest ≡ k.oldest
  pub low : k.oldest < 8
  pub places : (i : ℕ) → i < length k.keys → Has f.keys f.store ((k.oldest + i) % 8) (get_or k.keys i no_key)

-- a fresh selector holds nothing
pub fresh_holds : (store : List Float) → Holds none (fresh store)
fresh_holds store = record { size = refl; count = refl; few = omega arith; oldest = refl; low = omega arith; places = λ i h. absurd (omega arith) }

module _ (k : KeptList) (f : Found) (h : Holds k f) where
  -- question 14 is a yes
  pub asks_14 : question14 f.ring.count f.ring.oldest ≡ true
  asks_14 = rw (h.count, h.oldest, le-leb (length k.keys) 8 h.few, lt-ltb k.oldest 8 h.low)

  -- the numbers held are those of the keys
  pub holds_keys : held_keys f ≡ map packed_key k.keys
  holds_keys =
      listed_up (λ (i : ℕ). key_at f.keys ((f.ring.oldest + i) % 8)) packed_key no_key k.keys f.ring.count (sym h.count) (omega (arith, h.count, h.few))
      (λ i l. ap (λ (o : ℕ). key_at f.keys ((o + i) % 8)) h.oldest ∙ (h.places i (omega (arith, h.count))).numbers)

-- ---- one more key in its place
module _ (k : KeptList) (f : Found) (h : Holds k f) (x : Key) (s : SoundRoom x.room) where
  abbrev at : ℕ
  at = (k.oldest + length k.keys) % 8

  abbrev keys : List ℕ
  keys = with_key f.keys at (packed_key x)

  abbrev store : List Float
  store = filled x.room at f.store

  key_long : length (packed_key x) ≡ 156
  key_long = key_length x.room s x.epoch

  at_low : at < 8
  at_low = omega arith

  here : Has keys store at x
  here =
      record {
        numbers = with_here f.keys at (packed_key x) h.size at_low key_long;
        field = fill_twice x.room at f.store;
        sound = s;
      }

  there : (q : ℕ) (y : Key) → q < 8 → (q ≡ at → ⊥) → Has f.keys f.store q y → Has keys store q y
  there q y l n p =
      record {
        numbers = with_other f.keys at (packed_key x) h.size at_low key_long q (λ e. n (sym e)) ∙ p.numbers;
        field = fill_other y.room x.room p.sound s q at f.store n p.field;
        sound = p.sound;
      }

  long : length keys ≡ 1248
  long = with_length f.keys at (packed_key x) h.size at_low key_long

  -- where there is room
  pub grown_holds : length k.keys < 8 → Holds (record { keys = k.keys ++ (x ∷ []); oldest = k.oldest }) (record { keys = keys; ring = record { count = length k.keys + 1; oldest = k.oldest }; store = store })
  grown_holds room =
      record {
        size = long;
        count = simp length-append (omega arith);
        few = simp length-append (omega arith);
        oldest = refl;
        low = h.low;
        places = grown no_key (Has f.keys f.store) (Has keys store) k.oldest x k.keys h.low here there h.places room;
      }

  -- where the oldest is dropped
  pub turned_holds : length k.keys ≡ 8 → Holds (record { keys = drop 1 k.keys ++ (x ∷ []); oldest = (k.oldest + 1) % 8 }) (record { keys = keys; ring = record { count = length k.keys; oldest = (k.oldest + 1) % 8 }; store = store })
  turned_holds full =
      record {
        size = long;
        count = simp (length-append, length-drop) (omega arith);
        few = simp (length-append, length-drop) (omega arith);
        oldest = refl;
        low = omega arith;
        places = turned no_key (Has f.keys f.store) (Has keys store) k.oldest x k.keys h.low here there h.places full;
      }
