-- What the parts of the call work with: a key, and the arguments as they are lent. Definitions only.
use Rattle.std.specs.Prelude.{ℕ, ◌≡◌, Bool, cond, List, ◌++◌, eqb, Float, length, Result}
use Rattle.layout.specs.declared.Layout.{Layout}
use Rattle.layout.specs.Questions.{Question, first_no, or_else, layout_questions}
use Rattle.layout.specs.declared.refusal.Refusal.{Refusal}
use Rattle.layout.specs.Refusals.{answer_by}
use Rattle.layout.specs.Room.{active_in}
use Rattle.extent.specs.declared.Extent.{Extent}
use Rattle.extent.specs.declared.Reading.{Reading}
use Rattle.extent.specs.Extent.{extent_questions, reading_of}
use Rattle.region.specs.Zones.{question8}
use Rattle.layout.specs.declared.Centre.{Centre}
use Rattle.keys.specs.InKey.{layout_in, room_in}
use Rattle.selection.specs.Steps.{selected_key}
use Rattle.cache.specs.declared.Ring.{Ring}
use Rattle.cache.specs.Questions.{lent_questions, state_questions}
use Rattle.selector.specs.declared.Reply.{Reply}
use Rattle.selector.specs.declared.call.Wide.{Wide}
use Rattle.selector.specs.declared.Selector.{Selector}
use Rattle.selector.specs.Call.{Call, Found, Wanted, Answer, state_by, zone_questions, served, refused_by, answer_of, outcome_of}

-- ---- by a key

-- 1 to 6 of the layout in a key, then those of the extent, then 8 to 10
unfoldable pub plan_questions : List ℕ → Extent → List Bool → List Question
unfolding zone_questions
plan_questions key e flags = layout_questions (layout_in key) ++ (extent_questions e ++ zone_questions flags (room_in key))

-- the first no of 7, 18, 19 and 8
abbrev pub asked_no : Extent → List Bool → ℕ
asked_no e flags = or_else (first_no (extent_questions e)) (cond (question8 flags) 0 8)

-- the first no of them all, or what the extent is read as
unfoldable pub plan_of : List ℕ → Extent → List Bool → Result Reading Refusal
unfolding plan_questions
plan_of key e flags = answer_by (first_no (plan_questions key e flags)) (reading_of e)

-- where there is none, the key becomes that of the selected room
unfoldable pub planned_key : List ℕ → Extent → List Bool → List ℕ
unfolding plan_questions selected_key
planned_key key e flags = cond (eqb (first_no (plan_questions key e flags)) 0) (selected_key (state_by flags) key) key

-- what is wanted of the room in a key
abbrev pub wanted_in : List ℕ → Reading → Centre → List Float → List Float → Wanted
wanted_in key reading c points gains =
    record { room = room_in key; key = key; n = active_in (room_in key); mean = reading.mean; radius = reading.radius; centre = c; points = points; gains = gains }

-- what is wanted for a wide object
abbrev pub wanted_of : Wide → List Float → Wanted
wanted_of w gains = wanted_in w.room.key.now w.reading w.centre w.points.now gains

-- 11 to 14
abbrev pub later_questions : Wanted → Found → List Question
later_questions w f =
    lent_questions w.centre w.points w.n (length w.gains) (length f.store)
    ++ state_questions f.ring.count f.ring.oldest

-- the answer where only these may refuse
unfoldable pub later_answer : Wanted → Found → Answer
unfolding served
later_answer w f = let q = first_no (later_questions w f) in cond (eqb q 0) (served w f) (refused_by q w.gains f)

-- ---- the arguments as they are lent

abbrev pub call_by : Layout → ℕ → Extent → List Bool → Centre → List Float → List Float → Call
call_by l epoch e flags c points gains = record { layout = l; epoch = epoch; extent = e; flags = flags; centre = c; points = points; gains = gains }

abbrev pub found_by : List ℕ → Ring → List Float → Found
found_by keys r store = record { keys = keys; ring = r; store = store }

-- what a call answers and leaves
abbrev pub answer_to : Layout → ℕ → Extent → List Bool → Centre → List Float → List Float → Found → Answer
answer_to l epoch e flags c points gains f = answer_of (call_by l epoch e flags c points gains) f

-- an answer, as it is returned
abbrev pub reply_of : Answer → Reply
reply_of a = record { outcome = outcome_of a; ring = a.found.ring }

-- a reply, and keys, store and gains afterwards, as an answer has them
abbrev pub Leaves : Answer → Reply → List ℕ → List Float → List Float → Type 0
Leaves a s keys store gains = (s ≡ reply_of a) × ((keys ≡ a.found.keys) × ((store ≡ a.found.store) × (gains ≡ a.gains)))

-- ---- a selector by value

abbrev pub selector_of : Answer → Selector
selector_of a = record { keys = a.found.keys; count = a.found.ring.count; oldest = a.found.ring.oldest }
