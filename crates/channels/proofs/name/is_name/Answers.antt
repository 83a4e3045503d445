-- The bytes that are left are padded exactly where those behind the first are.
-- rest has at most k bytes, and is padded where b is
use Prim.Native.Nat.{ℕ, zero, suc, ◌<◌, ◌/◌, ◌%◌, ◌^◌}
use mathlib.Core.Path.{◌≡◌, refl, sym, ap, ◌∙◌}
use mathlib.Core.Bool.{true, false}
use native.Mathlib.Nat.{pow-suc}
use native.Mathlib.Omega.{arith}
use borrow.Author.Tests.{ne_eqb}
use Rattle.layout.specs.Name.{letter, padded, valid_name}
use Rattle.channels.proofs.name.is_name.Invariants.{Left}
use Rattle.channels.proofs.name.is_name.Goals as goal

padded_zero : (k : ℕ) → padded k 0 ≡ true
unfolding padded
padded_zero zero = refl
padded_zero (suc k) = refl

-- a byte that is no letter
padded_not : (k n : ℕ) → n < 256 ^ k → (n ≡ 0 → ⊥) → letter (n % 256) ≡ false → padded k n ≡ false
unfolding padded
padded_not zero n h z e = absurd (z (omega arith))
padded_not (suc k) n h z e = rw (ne_eqb n 0 z, e)

left_next : (b k n : ℕ) → n < 256 ^ k → padded k n ≡ padded 7 b → (n ≡ 0 → ⊥) → letter (n % 256) ≡ true → Left b (n / 256)
unfolding padded
left_next b zero n h p z e = absurd (z (omega arith))
left_next b (suc k) n h p z e = record { k = k; small = omega (arith, pow-suc 256 k); same = rw (ne_eqb n 0 z, e) at p }

pub returns-then-not-is_letter : goal.returns-then-not-is_letter
unfolding valid_name
returns-then-not-is_letter c = rw (sym c.is_letter.ensures ∙ c.if-not-is_letter.true)

pub loop-rest-init : goal.loop-rest-init
loop-rest-init c = record { k = 7; small = omega arith; same = refl }

pub returns-then-not-is_letter-2 : goal.returns-then-not-is_letter-2
unfolding valid_name
returns-then-not-is_letter-2 c =
    let v = c.loop-rest.invariant in
    rw (sym c.is_letter.ensures ∙ c.if-not-is_letter.false)
    (sym (padded_not v.k _ v.small c.loop-rest-test.true (sym c.is_letter-in-loop-rest.ensures ∙ c.if-not-is_letter-2.true)) ∙ v.same)

pub loop-rest-preserved : goal.loop-rest-preserved
loop-rest-preserved c =
    let v = c.loop-rest.invariant in
    left_next _ v.k _ v.small v.same c.loop-rest-test.true (sym c.is_letter-in-loop-rest.ensures ∙ c.if-not-is_letter-2.false)

pub returns : goal.returns
unfolding valid_name
returns c =
    let v = c.loop-rest.invariant in
    rw (sym c.is_letter.ensures ∙ c.if-not-is_letter.false)
    (sym (padded_zero v.k) ∙ ap (padded v.k) (sym c.loop-rest-test.false) ∙ v.same)
