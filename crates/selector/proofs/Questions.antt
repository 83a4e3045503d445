-- What an accepted call has said yes to, and that question 14 is about the state alone.
use Prim.Native.Nat.{ℕ}
use mathlib.Core.Path.{◌≡◌, ap, ◌∙◌}
use mathlib.Core.Bool.{Bool, true, cond}
use mathlib.Core.List.{List, ◌++◌}
use native.Mathlib.Omega.{arith}
use lib.ListN.{length}
use Rattle.layout.specs.Questions.{first_no, or_else, layout_questions}
use Rattle.layout.proofs.QuestionLists.{Numbered, numbered_append, layout_numbered, first_or_lem, first_front, yes_first, or_nothing}
use Rattle.extent.specs.Extent.{extent_questions}
use Rattle.extent.proofs.Readings.{extent_numbered}
use Rattle.region.specs.Zones.{question8}
use Rattle.selection.specs.Selection.{question9, question10}
use Rattle.cache.specs.Questions.{question11, question12, question13, question14, lent_questions, state_questions}
use Rattle.selector.specs.Call.{Call, Found, state_by, lent_room, answered, zone_questions, argument_questions, call_questions}

pub zone_numbered : (flags : List Bool) (c : Call) → Numbered (zone_questions flags (lent_room c))
unfolding zone_questions
zone_numbered flags c = (omega arith, (omega arith, (omega arith, tt)))

pub lent_numbered : (c : Call) (size : ℕ) → Numbered (lent_questions c.centre c.points (answered c) (length c.gains) size)
unfolding lent_questions
lent_numbered c size = (omega arith, (omega arith, (omega arith, tt)))

arguments_numbered : (c : Call) (size : ℕ) → Numbered (argument_questions c size)
unfolding argument_questions
arguments_numbered c size =
    let zones = zone_questions c.flags (lent_room c) in
    let lent = lent_questions c.centre c.points (answered c) (length c.gains) size in
    numbered_append (layout_questions c.layout) (extent_questions c.extent ++ (zones ++ lent)) (layout_numbered c.layout)
    (numbered_append (extent_questions c.extent) (zones ++ lent) (extent_numbered c.extent)
    (numbered_append zones lent (zone_numbered c.flags c) (lent_numbered c size)))

-- ---- question 14 is about the state alone
pub asked_alone : (c : Call) (f : Found) → question14 f.ring.count f.ring.oldest ≡ true → first_no (call_questions c f) ≡ first_no (argument_questions c (length f.store))
unfolding call_questions state_questions
asked_alone c f e =
    first_or_lem (argument_questions c (length f.store)) (state_questions f.ring.count f.ring.oldest) (arguments_numbered c (length f.store))
    ∙ ap (λ (b : Bool). or_else (first_no (argument_questions c (length f.store))) (cond b 0 14)) e
    ∙ or_nothing (first_no (argument_questions c (length f.store)))

-- ---- of a call that only question 14 may refuse: the yeses that the theorem cites
pub record Said (c : Call) (size : ℕ) : Type 0 where
  pub layout : first_no (layout_questions c.layout) ≡ 0
  pub yes9 : question9 (state_by c.flags) (lent_room c) ≡ true
  pub yes12 : question12 (answered c) c.points ≡ true
  pub yes13 : question13 (answered c) (length c.gains) size ≡ true

pub said : (c : Call) (size : ℕ) → first_no (argument_questions c size) ≡ 0 → Said c size
unfolding argument_questions zone_questions lent_questions
said c size e =
    let s = first_front (layout_questions c.layout) _ (layout_numbered c.layout) e in
    let x = first_front (extent_questions c.extent) _ (extent_numbered c.extent) s.1 in
    let b = yes_first (question8 c.flags) _ 8 (omega arith) x.1 in
    let d = yes_first (question9 (state_by c.flags) (lent_room c)) _ 9 (omega arith) b.1 in
    let g = yes_first (question10 (state_by c.flags) (lent_room c)) _ 10 (omega arith) d.1 in
    let h = yes_first (question11 c.centre) _ 11 (omega arith) g.1 in
    let i = yes_first (question12 (answered c) c.points) _ 12 (omega arith) h.1 in
    let j = yes_first (question13 (answered c) (length c.gains) size) _ 13 (omega arith) i.1 in
    record { layout = s.0; yes9 = d.0; yes12 = i.0; yes13 = j.0 }
