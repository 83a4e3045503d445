-- By the state and by the flags, which answer question 9. Both questions are asked of the key as it was, and what is kept is what the
-- state selects.
use Prim.Native.Nat.{ℕ, ◌≤◌}
use mathlib.Core.Path.{◌≡◌, sym, ap, ◌∙◌}
use mathlib.Core.Bool.{Bool, true, false}
use mathlib.Core.List.{List}
use native.Mathlib.Omega.{arith}
use borrow.Author.Rules.{rules}
use lib.ListN.{length}
use Rattle.std.specs.List.{list_any}
use Rattle.layout.specs.Steps.Accepted.{Accepted}
use Rattle.std.proofs.lemmas.Result.{err_from_is_err_and}
use Rattle.layout.proofs.QuestionsAccepted.{accepted}
use Rattle.layout.proofs.RefusalLaws.{ask_ok, ask_err}
use Rattle.region.specs.Zones.{is_default}
use Rattle.keys.specs.InKey.{layout_in, room_in}
use Rattle.keys.proofs.InKey.{sized}
use Rattle.layout.proofs.RoomLists.{depth_is}
use Rattle.kept_anchors.specs.Steps.Kept.{kept_key}
use Rattle.selection.specs.Selection.{question9}
use Rattle.selection.specs.Steps.{kept_flags, is_set, with_layers}
use Rattle.selection.proofs.KeyRoom.{Words}
use Rattle.selection.proofs.KeptKey.{kept_key_lem}
use Rattle.selection.proofs.Answers.{nine_by_flags, default_ten, default_nine, other_room, refused_9, refused_10, answer_0, default_key, other_key}
use Rattle.layout.specs.Questions.{first_no, layout_questions}
use Rattle.region.specs.declared.RegionSemanticState.{RegionSemanticState}
use Rattle.selection.proofs.selection.select.Goals as goal

-- ---- the key that is lent
module _ (key : List ℕ) (long : length key ≡ 156) (none : first_no (layout_questions (layout_in key)) ≡ 0) where
  room_accepted : Accepted (layout_in key)
  room_accepted = let z = sized key long in accepted (layout_in key) z.channels z.layers z.rows z.anchors none

  some_layer : 1 ≤ length (room_in key).layers
  some_layer = omega (arith, depth_is (layout_in key) (sized key long) room_accepted, room_accepted.some_layers)

-- question 9 in another state, as one flag or none is set
nine : (s : RegionSemanticState) (key : List ℕ) (flags : List Bool) (any b : Bool) → is_default s ≡ false → flags ≡ kept_flags s (room_in key) → any ≡ list_any is_set flags → any ≡ b → question9 s (room_in key) ≡ b
nine s key flags any b other f a e = sym (nine_by_flags s (room_in key) other) ∙ ap (list_any is_set) (sym f) ∙ sym a ∙ e

-- ---- the default state
pub returns-then-is_default : goal.returns-then-is_default
returns-then-is_default c =
    let s = c.args.state in
    let key = c.args.key.now in
    let long : length key ≡ 156 = search rules in
    let is = sym c.is_default.ensures ∙ c.if-is_default.true in
    let nine = default_nine s (room_in key) is (some_layer key long c.requires) in
    let ten = default_ten s (room_in key) is in
    record {
      value = answer_0 s key c.requires nine ten;
      key = default_key s key c.requires nine ten is;
    }

-- ---- another state
pub kept_flags-flags-requires : goal.kept_flags-flags-requires
kept_flags-flags-requires c = room_accepted c.args.key.now (search rules) c.requires

pub returns-in_err-ask : goal.returns-in_err-ask
returns-in_err-ask c =
    let s = c.args.state in
    let key = c.args.key.now in
    let other = sym c.is_default.ensures ∙ c.if-is_default.false in
    let no = ask_err (tt {0}) c.any_set.result _ _ (sym c.ask.ensures ∙ c.in_err-ask.was) in
    let h = refused_9 s key c.requires (nine s key _ _ false other c.kept_flags-flags.ensures c.any_set.ensures no.0) in
    let p = err_from_is_err_and c.from_residual.result c.from_residual.ensures.1 in
    record {
      value = let e = no.1 in let v = h.0 in cc;
      key = h.1;
    }

pub bed_classed-requires : goal.bed_classed-requires
bed_classed-requires c = room_accepted c.args.key.now (search rules) c.requires

pub returns-in_err-ask-2 : goal.returns-in_err-ask-2
returns-in_err-ask-2 c =
    let s = c.args.state in
    let key = c.args.key.now in
    let other = sym c.is_default.ensures ∙ c.if-is_default.false in
    let some = ask_ok (tt {0}) c.any_set.result _ _ (sym c.ask.ensures ∙ c.in_ok-ask.was) in
    let no = ask_err (tt {0}) c.bed_classed.result _ _ (sym c.ask-2.ensures ∙ c.in_err-ask-2.was) in
    let yes = nine s key _ _ true other c.kept_flags-flags.ensures c.any_set.ensures some in
    let h = refused_10 s key c.requires yes (sym c.bed_classed.ensures ∙ no.0) in
    let p = err_from_is_err_and c.from_residual-in_err-ask-2.result c.from_residual-in_err-ask-2.ensures.1 in
    record {
      value = let e = no.1 in let v = h.0 in cc;
      key = h.1;
    }

pub returns : goal.returns
returns c =
    let s = c.args.state in
    let key = c.args.key.now in
    let long : length key ≡ 156 = search rules in
    let words : Words key = λ i. omega (arith, c.fits-key i) in
    let other = sym c.is_default.ensures ∙ c.if-is_default.false in
    let yes = nine s key _ _ true other c.kept_flags-flags.ensures c.any_set.ensures (ask_ok (tt {0}) c.any_set.result _ _ (sym c.ask.ensures ∙ c.in_ok-ask.was)) in
    let ten = sym c.bed_classed.ensures ∙ ask_ok (tt {0}) c.bed_classed.result _ _ (sym c.ask-2.ensures ∙ c.in_ok-ask-2.was) in
    record {
      value = answer_0 s key c.requires yes ten;
      key = c.pack_kept.ensures
          ∙ ap (λ (f : List Bool). kept_key f key) c.kept_flags-flags.ensures
          ∙ kept_key_lem key long words (room_accepted key long c.requires) _
          ∙ ap (with_layers key) (sym (other_room s (room_in key) other))
          ∙ other_key s key c.requires yes ten other;
    }
