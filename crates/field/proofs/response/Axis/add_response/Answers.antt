-- The picks of the groups passed are added: window g has the bounds of group g.
use Prim.Native.Nat.{ℕ, ◌+◌, ◌-◌, ◌≤◌, ◌<◌}
use mathlib.Core.Path.{◌≡◌, sym, ap, ◌∙◌}
use mathlib.Core.List.{List, [], ◌∷◌, ◌++◌}
use borrow.Author.Rules.{rules}
use native.Mathlib.Nat.{le_trans}
use native.Mathlib.Omega.{arith}
use lib.Dec.{T}
use lib.Ieee.{Float, nan}
use lib.Ieee.Scale.{finite}
use lib.ListN.{length, take, drop, get_or, length-append, length-drop}
use lib.Seq.{slice, drop-drop, get_or-take, get_or-drop}
use Rattle.std.proofs.lemmas.List.{drop-take}
use Rattle.field.specs.declared.Pick.{Pick}
use Rattle.field.specs.Responses.{pick_of}
use Rattle.field.specs.Steps.Flat.{Grouped, shifted, pick_end, group_pick}
use Rattle.field.proofs.response.Parts.{shifted_end}
use Rattle.field.proofs.response.Picks.{part_some, part_first, part_pick_end}
use Rattle.field.proofs.response.Runs.{response_none, response_more, group_first}
use Rattle.field.proofs.response.Axis.add_response.Goals as goal

-- the window of two at the front of what g windows leave
abbrev Window : List ℕ → ℕ → List ℕ → Type 0
Window groups g w = (g < length groups - 1) × (get_or w 0 0 ≡ get_or groups g 0) × (get_or w 1 0 ≡ get_or groups (g + 1) 0)

window : (groups : List ℕ) (g n : ℕ) (rest w : List ℕ) → rest ≡ drop g groups → n ≡ 2 → n ≤ length rest → w ≡ take n rest → Window groups g w
window groups g n rest w r t l e = (omega (arith, t, l, ap length r, length-drop g groups), at 0 (omega (arith, t)) ∙ ap (λ (i : ℕ). get_or groups i 0) (omega arith), at 1 (omega (arith, t)))
  where
    at : (i : ℕ) → i < n → get_or w i 0 ≡ get_or groups (g + i) 0
    at i h = ap (λ (ys : List ℕ). get_or ys i 0) e ∙ get_or-take n rest i 0 h ∙ ap (λ (ys : List ℕ). get_or ys i 0) r ∙ get_or-drop g groups i 0

-- the coordinates of a group; its pick is the group's, and lies among them
module _ (v : List Float) (groups : List ℕ) (count : ℕ) (u : Float) (k : Grouped v groups count) (g : ℕ) (h : g < count) where
  abbrev from : ℕ
  from = get_or groups g 0

  abbrev end : ℕ
  end = get_or groups (g + 1) 0

  abbrev cut : List Float
  cut = take (end - from) (drop from v)

  cut_is : cut ≡ slice from end v
  cut_is =
      let l = k.some g h in
      let e : from + (end - from) ≡ end = omega arith in
      sym (drop-take from (end - from) v) ∙ ap (λ (n : ℕ). slice from n v) e

  long : end ≤ length v
  long = le_trans (k.ends g h) k.within

  some : 1 ≤ length cut
  some = rw cut_is (part_some v from end u (k.some g h) long)

  picked : (p q : Pick) → q ≡ shifted from p → p ≡ pick_of cut u → q ≡ group_pick v groups u g
  unfolding group_pick
  picked p q e f = rw (f, cut_is) at e

  module _ (t : T (finite u)) where
    first : T (finite (get_or cut 0 nan))
    first = rw (cut_is, part_first v from end u (k.some g h) long) (group_first [] [] v groups count u t k g h)

    ending : (p : Pick) → p ≡ pick_of cut u → pick_end (shifted from p) ≤ end
    ending p e = rw (e, cut_is) (part_pick_end v from end u (k.some g h) long t (group_first [] [] v groups count u t k g h))

pub loop-group-init : goal.loop-group-init
loop-group-init c =
    let many = c.args.self.now.grouped.many in
    record {
      added = sym (response_none _ _ _ _ _ _);
      left = search rules;
      size = search rules;
      within = omega (arith, many);
    }

pub neighbours-pick-requires-clause-number : goal.neighbours-pick-requires-clause-number
neighbours-pick-requires-clause-number c =
    let x = c.args.self.now in
    let w = window x.groups.now (length c.loop-group.yielded) _ _ c.in-Some.group.now c.loop-group.invariant.left c.loop-group.invariant.size c.in-Some.ensures.steps.1.0 c.in-Some.ensures.steps.1.1 in
    rw (w.1, w.2) (first x.v.now x.groups.now (length x.groups.now - 1) c.args.sample.at x.grouped _ w.0 c.args.sample.number)

pub shifted-requires : goal.shifted-requires
shifted-requires c =
    let x = c.args.self.now in
    let w = window x.groups.now (length c.loop-group.yielded) _ _ c.in-Some.group.now c.loop-group.invariant.left c.loop-group.invariant.size c.in-Some.ensures.steps.1.0 c.in-Some.ensures.steps.1.1 in
    let e = rw (w.1, w.2) at c.neighbours-pick.ensures in
    rw w.1 (omega (arith, shifted_end (get_or x.groups.now (length c.loop-group.yielded) 0) c.neighbours-pick.result, ending x.v.now x.groups.now (length x.groups.now - 1) c.args.sample.at x.grouped _ w.0 c.args.sample.number _ e))

pub add_pick-requires : goal.add_pick-requires
add_pick-requires c =
    let x = c.args.self.now in
    let w = window x.groups.now (length c.loop-group.yielded) _ _ c.in-Some.group.now c.loop-group.invariant.left c.loop-group.invariant.size c.in-Some.ensures.steps.1.0 c.in-Some.ensures.steps.1.1 in
    let e = rw (w.1, w.2) at c.neighbours-pick.ensures in
    rw (c.shifted.ensures, w.1)
    (le_trans (ending x.v.now x.groups.now (length x.groups.now - 1) c.args.sample.at x.grouped _ w.0 c.args.sample.number _ e)
    (le_trans (x.grouped.ends _ w.0) x.grouped.within))

pub loop-group-preserved : goal.loop-group-preserved
loop-group-preserved c =
    let x = c.args.self.now in
    let l = c.loop-group in
    let g = length l.yielded in
    let w = window x.groups.now (length c.loop-group.yielded) _ _ c.in-Some.group.now c.loop-group.invariant.left c.loop-group.invariant.size c.in-Some.ensures.steps.1.0 c.in-Some.ensures.steps.1.1 in
    let s = rw w.1 at c.shifted.ensures in
    let e = rw (w.1, w.2) at c.neighbours-pick.ensures in
    let more : length (l.yielded ++ c.in-Some.group ∷ []) ≡ g + 1 = length-append l.yielded (c.in-Some.group ∷ []) in
    let h = c.in-Some.ensures.steps in
    rw more
    (record {
      added =
          c.add_pick.ensures
          ∙ rw (picked x.v.now x.groups.now (length x.groups.now - 1) c.args.sample.at x.grouped g w.0 _ _ s e, l.invariant.added) (sym (response_more x.at.now x.parts.now x.v.now x.groups.now c.args.sample.at c.args.row.now g));
      left = h.1.2 ∙ ap (drop 1) l.invariant.left ∙ drop-drop 1 g x.groups.now;
      size = h.0 ∙ l.invariant.size;
      within = omega (arith, w.0);
    })
