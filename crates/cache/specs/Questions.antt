-- Questions 11 to 14 of document 01, 'What a call takes and answers', each of plain values. Definitions only.
use Rattle.std.specs.Prelude.{ℕ, Bool, ◌&&◌, List, [], ◌∷◌, eqb, leb, ltb, Float, length}
use Rattle.std.specs.Float.Ieee.Scale.{finite}
use Rattle.doubles.specs.Arithmetic.{zero64, dec}
use Rattle.doubles.specs.Range.{is_between}
use Rattle.std.specs.List.{list_all}
use Rattle.layout.specs.Questions.{Question}
use Rattle.field.specs.Place.{store_size}
use Rattle.layout.specs.declared.Centre.{Centre}

-- 11. Is the centre finite?
abbrev pub question11 : Centre → Bool
question11 c = finite c.x && finite c.y && finite c.z

-- finite, and from 0 to 5/4
abbrev pub is_gain : Float → Bool
is_gain g = finite g && is_between zero64 (dec 125 2) g

-- 12. Are there exactly n point gains, each finite and from 0 to 5/4?
abbrev pub question12 : ℕ → List Float → Bool
question12 n points = eqb (length points) n && list_all is_gain points

-- 13. Has the gains slice, with this room, at least n places, and the field store, of this size, at least 285,312?
abbrev pub question13 : ℕ → ℕ → ℕ → Bool
question13 n room size = leb n room && leb store_size size

-- 14. Does the state hold at most eight keys and an oldest place below eight?
abbrev pub question14 : ℕ → ℕ → Bool
question14 count oldest = leb count 8 && ltb oldest 8

-- 11 to 13: about what is lent
unfoldable pub lent_questions : Centre → List Float → ℕ → ℕ → ℕ → List Question
lent_questions c points n room size =
    record { number = 11; yes = question11 c }
    ∷ record { number = 12; yes = question12 n points }
    ∷ record { number = 13; yes = question13 n room size }
    ∷ []

-- 14: about the state
unfoldable pub state_questions : ℕ → ℕ → List Question
state_questions count oldest = record { number = 14; yes = question14 count oldest } ∷ []
