-- The eight-place rule, fed the arguments alone, and what is claimed of every list of calls. Definitions only.
use Rattle.std.specs.Prelude.{ℕ, ◌+◌, ◌%◌, ◌≡◌, Bool, true, ◌&&◌, ◌||◌, not, cond, List, [], ◌∷◌, ◌++◌, map, eqb, Float, length, take, drop}
use Rattle.std.specs.List.{list_all, list_any}
use Rattle.layout.specs.Room.{Room}
use Rattle.layout.specs.Same.{same_room}
use Rattle.layout.specs.Questions.{first_no}
use Rattle.extent.specs.Extent.{mean_of}
use Rattle.field.specs.Place.{filled}
use Rattle.cache.specs.declared.Word.{Word}
use Rattle.cache.specs.declared.Word.TheVariants.{Unused, Kept, Built}
use Rattle.keys.specs.Keys.{key_numbers}
use Rattle.cache.specs.Places.{key_at, with_key, first_places}
use Rattle.cache.specs.Questions.{is_gain}
use Rattle.selector.specs.Call.{Call, Found, Answer, Typed, found_in, fresh_selector, answer_of, answered, argument_questions, selected_of}

-- key: selected room and epoch, doubles compared as numbers
pub record Key : Type 0 where
  pub room : Room
  pub epoch : ℕ

abbrev pub same_key : Key → Key → Bool
same_key a b = same_room a.room b.room && eqb a.epoch b.epoch

-- its numbers in the selector
abbrev pub packed_key : Key → List ℕ
packed_key k = key_numbers k.room k.epoch

-- the keys that a selector holds, from the oldest on
abbrev pub held_keys : Found → List (List ℕ)
held_keys f = map (λ (i : ℕ). key_at f.keys ((f.ring.oldest + i) % 8)) (first_places f.ring.count)

abbrev pub call_key : Call → Key
call_key c = record { room = selected_of c; epoch = c.epoch }

-- the kept list from the oldest on, and the oldest place
pub record KeptList : Type 0 where
  pub keys : List Key
  pub oldest : ℕ

abbrev pub none : KeptList
none = record { keys = []; oldest = 0 }

-- refused calls and calls with mean 0 leave it; so does a key that is in it
abbrev pub refusal_by : ℕ → Call → ℕ
refusal_by size c = first_no (argument_questions c size)

abbrev pub is_held : KeptList → Call → Bool
is_held k c = list_any (same_key (call_key c)) k.keys

abbrev pub leaves : ℕ → KeptList → Call → Bool
leaves size k c = not (eqb (refusal_by size c) 0) || eqb (mean_of c.extent) 0 || is_held k c

-- another key drops the oldest if there are eight, and is put last
abbrev pub is_full : KeptList → Bool
is_full k = eqb (length k.keys) 8

abbrev pub with_new : KeptList → Call → KeptList
with_new k c =
    cond (is_full k)
    (record { keys = drop 1 k.keys ++ (call_key c ∷ []); oldest = (k.oldest + 1) % 8 })
    (record { keys = k.keys ++ (call_key c ∷ []); oldest = k.oldest })

abbrev pub after_call : ℕ → KeptList → Call → KeptList
after_call size k c = cond (leaves size k c) k (with_new k c)

-- its field fills place (oldest + keys held) mod 8, both as before the call
abbrev pub store_after : ℕ → KeptList → Call → List Float → List Float
store_after size k c store = cond (leaves size k c) store (filled (selected_of c) ((k.oldest + length k.keys) % 8) store)

-- and its numbers stand there in the selector
abbrev pub keys_after : ℕ → KeptList → Call → List ℕ → List ℕ
keys_after size k c keys = cond (leaves size k c) keys (with_key keys ((k.oldest + length k.keys) % 8) (packed_key (call_key c)))

-- unused exactly when the mean extent is 0; otherwise kept exactly when the key is in the list, and built when it is missing
abbrev pub word_of : KeptList → Call → Word
word_of k c = cond (eqb (mean_of c.extent) 0) Unused (cond (is_held k c) Kept Built)

-- a fresh selector, as `Selector::new` makes it, over a store
abbrev pub fresh : List Float → Found
fresh store = found_in fresh_selector store

-- two answers to one call that are alike, whatever their words and what they leave
abbrev pub Alone : Answer → Answer → Type 0
Alone a b = (a.refusal ≡ b.refusal) × (a.n ≡ b.n) × (a.gains ≡ b.gains)

-- ---- what is claimed of one call, made where the rule has kept k and the selector is f, and answered by a
pub record Right (k : KeptList) (f : Found) (c : Call) (a : Answer) : Type 0 where
  -- refused by the questions about the arguments alone; refused, nothing has changed
  pub refused : a.refusal ≡ refusal_by (length f.store) c
  pub unchanged : (refusal_by (length f.store) c ≡ 0 → ⊥) → (a.gains ≡ c.gains) × (a.found ≡ f)
  -- as a fresh selector answers and writes, with any store as long
  pub alone : (store : List Float) → length store ≡ length f.store → Alone a (answer_of c (fresh store))
  -- accepted, it answers n and the rule's word, and each gain is finite and from 0 to 5/4
  pub number : refusal_by (length f.store) c ≡ 0 → a.n ≡ answered c
  pub word : refusal_by (length f.store) c ≡ 0 → a.word ≡ word_of k c
  pub bounded : refusal_by (length f.store) c ≡ 0 → list_all is_gain (take (answered c) a.gains) ≡ true
  -- state and store are as the rule leaves them, and the store keeps its length
  pub count : a.found.ring.count ≡ length (after_call (length f.store) k c).keys
  pub oldest : a.found.ring.oldest ≡ (after_call (length f.store) k c).oldest
  pub held : held_keys a.found ≡ map packed_key (after_call (length f.store) k c).keys
  pub keys : a.found.keys ≡ keys_after (length f.store) k c f.keys
  pub store : a.found.store ≡ store_after (length f.store) k c f.store
  pub size : length a.found.store ≡ length f.store

-- and of every list of calls
abbrev pub AllRight : KeptList → Found → List Call → Type 0
AllRight k f [] = Unit {0}
AllRight k f (c ∷ cs) = Right k f c (answer_of c f) × AllRight (after_call (length f.store) k c) (answer_of c f).found cs

abbrev pub AllTyped : List Call → Type 0
AllTyped [] = Unit {0}
AllTyped (c ∷ cs) = Typed c × AllTyped cs

-- demand 3: from a fresh selector over any doubles, any list of calls
abbrev pub SelectorLaw : Type 0
SelectorLaw = (store : List Float) (calls : List Call) → AllTyped calls → AllRight none (fresh store) calls
