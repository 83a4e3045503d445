-- The call for gains: what it brings, finds and leaves (document 01, 'What a call takes and answers' and 'The selector'). Definitions only.
use Rattle.std.specs.Prelude.{ℕ, ◌≡◌, Bool, cond, List, [], ◌∷◌, ◌++◌, map, T, eqb, ltb, Float, length, replicate, Option, Some, None, Result, Ok, Err}
use Rattle.std.specs.Float.{binary64}
use Rattle.std.specs.Float.Ieee.{fits}
use Rattle.std.specs.List.{list_all}
use Rattle.layout.specs.declared.Layout.{Layout}
use Rattle.layout.specs.Topology.{layer_z, row_y, anchor_x}
use Rattle.layout.specs.Questions.{Question, first_no, layout_questions}
use Rattle.layout.specs.declared.refusal.Refusal.{Refusal}
use Rattle.layout.specs.Refusals.{answer_by}
use Rattle.layout.specs.Room.{Room, room_of, active_in}
use Rattle.extent.specs.declared.Extent.{Extent}
use Rattle.extent.specs.Extent.{extent_questions, mean_of, mean_radius}
use Rattle.region.specs.declared.RegionSemanticState.{RegionSemanticState}
use Rattle.region.specs.Zones.{zones_of, question8, default_state}
use Rattle.selection.specs.Selection.{question9, question10, selected_room}
use Rattle.keys.specs.Keys.{key_numbers}
use Rattle.field.specs.Place.{filled}
use Rattle.layout.specs.declared.Centre.{Centre}
use Rattle.gains.specs.Gains.{projected}
use Rattle.cache.specs.declared.Ring.{Ring}
use Rattle.cache.specs.declared.Word.{Word}
use Rattle.cache.specs.declared.Word.TheVariants.{Unused, Kept, Built}
use Rattle.cache.specs.Questions.{lent_questions, state_questions}
use Rattle.cache.specs.Places.{slot_of, new_place, ring_after, with_key}
use Rattle.selector.specs.declared.Gains.{Gains}
use Rattle.selector.specs.declared.Selector.{Selector}

-- what a call brings, all but selector and store
pub record Call : Type 0 where
  pub layout : Layout
  pub epoch : ℕ
  pub extent : Extent
  pub flags : List Bool
  pub centre : Centre
  pub points : List Float
  pub gains : List Float

-- what it finds and leaves: the numbers of eight keys, how many are held and the oldest place, the store
pub record Found : Type 0 where
  pub keys : List ℕ
  pub ring : Ring
  pub store : List Float

-- by a selector and a store
abbrev pub found_in : Selector → List Float → Found
found_in s store = record { keys = s.keys; ring = record { count = s.count; oldest = s.oldest }; store = store }

-- A fresh selector is the empty one.
abbrev pub fresh_selector : Selector
fresh_selector = record { keys = replicate 1248 0; count = 0; oldest = 0 }

-- what the types of a call's arguments say: how long the arrays are, and that coordinates and centre are doubles
pub record Typed (c : Call) : Type 0 where
  pub channels : length c.layout.channels ≡ 24
  pub layers : length c.layout.layers ≡ 4
  pub rows : length c.layout.rows ≡ 24
  pub anchors : length c.layout.anchors ≡ 24
  pub zs : T (list_all (fits binary64) (map layer_z c.layout.layers))
  pub ys : T (list_all (fits binary64) (map row_y c.layout.rows))
  pub xs : T (list_all (fits binary64) (map anchor_x c.layout.anchors))
  pub centre : T (fits binary64 c.centre.x) × T (fits binary64 c.centre.y) × T (fits binary64 c.centre.z)

-- ---- questions

abbrev pub state_in : Result RegionSemanticState Refusal → RegionSemanticState
state_in (Ok s) = s
state_in (Err r) = default_state

-- the state that the flags say
abbrev pub state_by : List Bool → RegionSemanticState
state_by flags = state_in (zones_of flags)

-- 8 to 10: about the flags, and the room by their state
unfoldable pub zone_questions : List Bool → Room → List Question
zone_questions flags r =
    record { number = 8; yes = question8 flags }
    ∷ record { number = 9; yes = question9 (state_by flags) r }
    ∷ record { number = 10; yes = question10 (state_by flags) r }
    ∷ []

-- the room of the lent layout, and n
abbrev pub lent_room : Call → Room
lent_room c = room_of c.layout

abbrev pub answered : Call → ℕ
answered c = active_in (lent_room c)

-- 1 to 6, then 7, 18 and 19, then 8 to 13: about the arguments and the length of the store alone
unfoldable pub argument_questions : Call → ℕ → List Question
unfolding zone_questions lent_questions
argument_questions c size =
    layout_questions c.layout
    ++ (extent_questions c.extent
    ++ (zone_questions c.flags (lent_room c)
    ++ lent_questions c.centre c.points (answered c) (length c.gains) size))

-- and then 14
unfoldable pub call_questions : Call → Found → List Question
unfolding argument_questions state_questions
call_questions c f = argument_questions c (length f.store) ++ state_questions f.ring.count f.ring.oldest

-- ---- the call

-- what an accepted call wants: the selected room and its key, n, mean and radius, and its own centre, point gains and gains slice
pub record Wanted : Type 0 where
  pub room : Room
  pub key : List ℕ
  pub n : ℕ
  pub mean : ℕ
  pub radius : Float
  pub centre : Centre
  pub points : List Float
  pub gains : List Float

abbrev pub selected_of : Call → Room
selected_of c = selected_room (state_by c.flags) (lent_room c)

-- key: selected room and epoch
abbrev pub wanted : Call → Wanted
wanted c =
    record {
      room = selected_of c;
      key = key_numbers (selected_of c) c.epoch;
      n = answered c;
      mean = mean_of c.extent;
      radius = mean_radius (mean_of c.extent);
      centre = c.centre;
      points = c.points;
      gains = c.gains;
    }

-- what a call answers and leaves: the refusal, 0 where there is none, and then n and the word
pub record Answer : Type 0 where
  pub refusal : ℕ
  pub n : ℕ
  pub word : Word
  pub gains : List Float
  pub found : Found

-- the gains by place p of a store
abbrev pub gains_by : Wanted → List Float → ℕ → List Float
gains_by w store p = projected store p w.n (ltb 1 (length w.room.layers)) w.mean w.radius w.centre w.points w.gains

-- a new key is put last, and its field fills its place
abbrev pub built : Wanted → Found → Found
built w f =
    let p = new_place f.ring in
    record { keys = with_key f.keys p w.key; ring = ring_after f.ring; store = filled w.room p f.store }

abbrev pub accepted_with : Word → Wanted → Found → ℕ → Answer
accepted_with word w f p = record { refusal = 0; n = w.n; word = word; gains = gains_by w f.store p; found = f }

-- a key that is held: kept; another one: built
abbrev pub newly_built : Wanted → Found → Answer
newly_built w f = accepted_with Built w (built w f) (new_place f.ring)

abbrev pub keyed_by : Wanted → Found → Option ℕ → Answer
keyed_by w f (Some p) = accepted_with Kept w f p
keyed_by w f None = newly_built w f

abbrev pub keyed_of : Wanted → Found → Answer
keyed_of w f = keyed_by w f (slot_of f.keys f.ring w.key)

-- mean 0: unused
unfoldable pub served : Wanted → Found → Answer
served w f = cond (eqb w.mean 0) (accepted_with Unused w f 0) (keyed_of w f)

-- refused: nothing has changed
abbrev pub refused_by : ℕ → List Float → Found → Answer
refused_by q gains f = record { refusal = q; n = 0; word = Unused; gains = gains; found = f }

unfoldable pub answer_of : Call → Found → Answer
unfolding call_questions served
answer_of c f = let q = first_no (call_questions c f) in cond (eqb q 0) (served (wanted c) f) (refused_by q c.gains f)

-- an answer in Rust's form: n and the word, or the refusal
abbrev pub outcome_of : Answer → Result Gains Refusal
outcome_of a = answer_by a.refusal (record { n = a.n; word = a.word })
