-- What an answer in Rust's form says of the number that made it, and how it is handed on.
use Prim.Native.Nat.{ℕ}
use mathlib.Core.Path.{◌≡◌, refl}
use mathlib.Core.Bool.{Bool, true, false, cond}
use borrow.Author.Tests.{eqb-true, eqb-false}
use lib.Dec.{eqb}
use Rattle.std.specs.Prelude.{Ok, Err}
use Rattle.layout.specs.declared.refusal.Refusal.{Refusal}
use Rattle.layout.specs.Questions.{or_else}
use Rattle.std.specs.List.{list_all}
use mathlib.Core.List.{map}
use Rattle.layout.specs.declared.refusal.Refusal.TheVariants.{Channels, Layers, Active, Counts, Order, Anchors, ExtentX, ExtentY, ExtentZ, Zones, Selection, Classes, Centre, Points, Slices, State}
use Rattle.layout.specs.Refusals.{number_of, refusals, refusal_of, answer_by}

module _ {A : Type 0} (q : ℕ) (a : A) where
  -- a value: no question had a no
  pub ok_says : (b : A) → answer_by q a ≡ Ok b → (q ≡ 0) × (b ≡ a)
  ok_says b = go (eqb q 0) refl
    where
      go : (t : Bool) → eqb q 0 ≡ t → cond t (Ok a) (Err (refusal_of q)) ≡ Ok b → (q ≡ 0) × (b ≡ a)
      go true e h = (eqb-true q 0 e, cc)
      go false e h = absurd (cc)

  -- a refusal: that with the number
  pub err_says : (r : Refusal) → answer_by q a ≡ Err r → (q ≡ 0 → ⊥) × (r ≡ refusal_of q)
  err_says r = go (eqb q 0) refl
    where
      go : (t : Bool) → eqb q 0 ≡ t → cond t (Ok a) (Err (refusal_of q)) ≡ Err r → (q ≡ 0 → ⊥) × (r ≡ refusal_of q)
      go true e h = absurd (cc)
      go false e h = (eqb-false q 0 e, cc)

-- ---- what one question's answer says of it
module _ {A : Type 0} (a : A) where
  pub ask_ok : (b : Bool) (r : Refusal) (d : A) → cond b (Ok a) (Err r) ≡ Ok d → b ≡ true
  ask_ok true r d h = refl
  ask_ok false r d h = cc

  pub ask_err : (b : Bool) (q r : Refusal) → cond b (Ok a) (Err q) ≡ Err r → (b ≡ false) × (r ≡ q)
  ask_err true q r h = cc
  ask_err false q r h = (refl, cc)

-- what the first questions refuse, all of them refuse
pub err_passes : {A B : Type 0} (q p : ℕ) (a : A) (b : B) (r : Refusal) → answer_by q a ≡ Err r → answer_by (or_else q p) b ≡ Err r
err_passes {A} q p a b r = go (eqb q 0) refl
  where
    go : (t : Bool) → eqb q 0 ≡ t → cond t (Ok a) (Err (refusal_of q)) ≡ Err r → answer_by (cond t p q) b ≡ Err r
    go true e h = absurd (cc)
    go false e h = rw e (cc)

-- what they let through, the later ones decide
pub ok_passes : {A B : Type 0} (q p : ℕ) (a c : A) (b : B) → answer_by q a ≡ Ok c → answer_by (or_else q p) b ≡ answer_by p b
ok_passes {A} q p a c b = go (eqb q 0) refl
  where
    go : (t : Bool) → eqb q 0 ≡ t → cond t (Ok a) (Err (refusal_of q)) ≡ Ok c → answer_by (cond t p q) b ≡ answer_by p b
    go true e h = refl
    go false e h = absurd (cc)

-- ---- a refusal and its number say the same

pub refusal_back : (r : Refusal) → refusal_of (number_of r) ≡ r
refusal_back Channels = refl
refusal_back Layers = refl
refusal_back Active = refl
refusal_back Counts = refl
refusal_back Order = refl
refusal_back Anchors = refl
refusal_back ExtentX = refl
refusal_back ExtentY = refl
refusal_back ExtentZ = refl
refusal_back Zones = refl
refusal_back Selection = refl
refusal_back Classes = refl
refusal_back Centre = refl
refusal_back Points = refl
refusal_back Slices = refl
refusal_back State = refl

-- each of the sixteen numbers
pub number_back : list_all (λ (q : ℕ). eqb (number_of (refusal_of q)) q) (map number_of refusals) ≡ true
number_back = refl
