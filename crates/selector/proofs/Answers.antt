-- What each way through the call leaves is what its definition says.
use Prim.Native.Nat.{ℕ}
use mathlib.Core.Path.{◌≡◌, refl, sym, ap, ◌∙◌, subst}
use mathlib.Core.Bool.{Bool, cond}
use mathlib.Core.List.{List, ◌++◌}
use borrow.Author.Tests.{eq-eqb, ne_eqb}
use lib.Ieee.{Float}
use lib.ListN.{length}
use Rattle.layout.specs.Questions.{first_no}
use Rattle.layout.specs.Room.{active_in}
use Rattle.layout.specs.declared.Centre.{Centre}
use Rattle.keys.specs.InKey.{room_in}
use Rattle.cache.specs.declared.Ring.{Ring}
use Rattle.cache.specs.declared.Word.{Word}
use Rattle.cache.specs.declared.Word.TheVariants.{Unused}
use Rattle.cache.specs.Questions.{lent_questions, state_questions}
use Rattle.std.specs.Prelude.{Result, Ok, Err}
use Rattle.layout.specs.declared.refusal.Refusal.{Refusal}
use Rattle.layout.specs.Refusals.{refusal_of, answer_by}
use Rattle.layout.proofs.RefusalLaws.{ok_says, err_says}
use Rattle.extent.specs.declared.Reading.{Reading}
use Rattle.selector.specs.declared.Reply.{Reply}
use Rattle.selector.specs.Call.{Answer, Found, Wanted, gains_by, accepted_with, keyed_of, served, refused_by}
use Rattle.selector.specs.Steps.{wanted_in, later_questions, later_answer, found_by, Leaves}

module _ (keys : List ℕ) (r : Ring) (store : List Float) (key : List ℕ) (reading : Reading) (c : Centre) (points gains : List Float) where
  abbrev W : Wanted
  W = wanted_in key reading c points gains

  abbrev F : Found
  F = found_by keys r store

  -- ---- over a place as it is
  pub accepted_leaves : (word : Word) (p : ℕ) (s : Reply) (gains' : List Float) → s ≡ record { outcome = Ok (record { n = active_in (room_in key); word = word }); ring = r } → gains' ≡ gains_by W store p → Leaves (accepted_with word W F p) s keys store gains'
  accepted_leaves word p s gains' e g = (e, (refl, (refl, g)))

  -- ---- by questions 11 to 14, and the mean
  -- those that were asked, with n channels, are those of what is wanted
  pub later_asked : {A : Type 0} (a : A) (n : ℕ) (x : Result A Refusal) → n ≡ active_in (room_in key) → x ≡ answer_by (first_no (lent_questions c points n (length gains) (length store) ++ state_questions r.count r.oldest)) a → x ≡ answer_by (first_no (later_questions W F)) a
  later_asked a n x e f = f ∙ ap (λ (m : ℕ). answer_by (first_no (lent_questions c points m (length gains) (length store) ++ state_questions r.count r.oldest)) a) e

  module _ {A : Type 0} (a : A) (x : Result A Refusal) (f : x ≡ answer_by (first_no (later_questions W F)) a) where
    abbrev q : ℕ
    q = first_no (later_questions W F)

    pub later_refused : (t : Refusal) → x ≡ Err t → (s : Reply) → s ≡ record { outcome = Err t; ring = r } → Leaves (later_answer W F) s keys store gains
    unfolding later_answer
    later_refused t w s e =
        let h = err_says q a t (sym f ∙ w) in
        let n = ne_eqb q 0 h.0 in
        subst (λ (y : Answer). Leaves y s keys store gains) (sym (ap (λ (b : Bool). cond b (served W F) (refused_by q gains F)) n))
        (e ∙ ap (λ (k : Refusal). record { outcome = Err k; ring = r }) h.1 ∙ sym (ap (λ (b : Bool). record { outcome = cond b (Ok (record { n = 0; word = Unused })) (Err (refusal_of q)); ring = r }) n), (refl, (refl, refl)))

    module _ (d : A) (w : x ≡ Ok d) where
      later_serves : later_answer W F ≡ served W F
      unfolding later_answer
      later_serves = ap (λ (b : Bool). cond b (served W F) (refused_by q gains F)) (eq-eqb q 0 (ok_says q a d (sym f ∙ w)).0)

      pub later_unused : reading.mean ≡ 0 → (s : Reply) (gains' : List Float) → Leaves (accepted_with Unused W F 0) s keys store gains' → Leaves (later_answer W F) s keys store gains'
      unfolding served
      later_unused m s gains' h =
          subst (λ (t : Answer). Leaves t s keys store gains') (sym (later_serves ∙ ap (λ (b : Bool). cond b (accepted_with Unused W F 0) (keyed_of W F)) (eq-eqb reading.mean 0 m))) h

      pub later_keyed : (reading.mean ≡ 0 → ⊥) → (s : Reply) (keys' : List ℕ) (store' gains' : List Float) → Leaves (keyed_of W F) s keys' store' gains' → Leaves (later_answer W F) s keys' store' gains'
      unfolding served
      later_keyed m s keys' store' gains' h =
          subst (λ (t : Answer). Leaves t s keys' store' gains') (sym (later_serves ∙ ap (λ (b : Bool). cond b (accepted_with Unused W F 0) (keyed_of W F)) (ne_eqb reading.mean 0 m))) h
