-- Which values have no sign, or are not negative, and that sums, products, quotients and roots of such values are such values. Assumes nothing.
use Rattle.std.proofs.Common.{◌≡◌, ℕ, zero, suc, ◌+◌, ◌-◌, ◌*◌, ◌^◌, ◌<◌, Bool, true, false, cond, not, T, eqb, ltb, pos, sym, refl, ap, ◌∙◌, subst, zero-le, le_of_eq, lt_of_lt_of_le, lt_of_le_of_lt, lt_irrefl, mul_comm, mul-pos, zero-mul, eqb→eq, ltb→lt, ℤ}
use lib.Ieee.{Float, nan, inf, fin, Format, prec, emax, low, up, down, odd, units, round, sum, add, mul, div, fits}
use lib.Ieee.Fits.{round_is, down_pos}
use lib.Ieee.Bits.{is_false}
use lib.Dec.{not_T}
use Rattle.doubles.proofs.Magnitude.{round_at}

-- a NaN, or the sign is clear: so it is no -0
abbrev pub clear : Float → Bool
clear nan = true
clear (inf s) = not s
clear (fin s m e) = not s

-- ---- `round` keeps the sign that it is given
odd_clear : (d q k l : ℕ) → T (clear (odd d false q k l))
unfolding odd
odd_clear d zero k l = tt
odd_clear d (suc q) k l = tt

units_clear : (f : Format) (q k : ℕ) → T (clear (units f false q k))
unfolding units
units_clear f q k = go (ltb (q * 2 ^ k) (2 ^ (low f + suc (emax f))))
  where
    go : (b : Bool) → T (clear (cond b (odd (suc (prec f)) false q k (low f)) (inf false)))
    go true = odd_clear (suc (prec f)) q k (low f)
    go false = tt

pub round_clear : (f : Format) (a c : ℕ) → T (clear (round f false a c))
round_clear f a c = subst (λ (z : Float). T (clear z)) (sym (round_is f false a c)) (units_clear f _ _)

pub cond_clear : (b : Bool) (x y : Float) → T (clear x) → T (clear y) → T (clear (cond b x y))
cond_clear true x y h k = h
cond_clear false x y h k = k

-- ---- a property of nan and the infinity above: the cases of a sum, and of a product
module _ (P : Float → Bool) (at_nan : T (P nan)) (at_inf : T (P (inf false))) (under : T (P (inf true)) → ⊥) (f : Format) where
  add_by : ((s : Bool) (m : ℕ) (e : ℤ) (t : Bool) (n : ℕ) (d : ℤ) → T (P (fin s m e)) → T (P (fin t n d)) → T (P (add f (fin s m e) (fin t n d)))) → (x y : Float) → T (P x) → T (P y) → T (P (add f x y))
  unfolding add
  add_by h nan y p q = at_nan
  add_by h (inf s) nan p q = at_nan
  add_by h (inf true) (inf t) p q = absurd (under p)
  add_by h (inf false) (inf true) p q = absurd (under q)
  add_by h (inf false) (inf false) p q = at_inf
  add_by h (inf s) (fin t n d) p q = p
  add_by h (fin s m e) nan p q = at_nan
  add_by h (fin s m e) (inf t) p q = q
  add_by h (fin s m e) (fin t n d) p q = h s m e t n d p q

  -- k: the infinity times a finite value
  mul_by : ((t : Bool) (n : ℕ) (d : ℤ) → T (P (fin t n d)) → T (P (cond (eqb n 0) nan (inf t)))) →
      ((s : Bool) (m : ℕ) (e : ℤ) (t : Bool) (n : ℕ) (d : ℤ) → T (P (fin s m e)) → T (P (fin t n d)) → T (P (mul f (fin s m e) (fin t n d)))) → (x y : Float) → T (P x) → T (P y) → T (P (mul f x y))
  unfolding mul
  mul_by k h nan y p q = at_nan
  mul_by k h (inf s) nan p q = at_nan
  mul_by k h (inf true) (inf t) p q = absurd (under p)
  mul_by k h (inf false) (inf true) p q = absurd (under q)
  mul_by k h (inf false) (inf false) p q = at_inf
  mul_by k h (inf true) (fin t n d) p q = absurd (under p)
  mul_by k h (inf false) (fin true n d) p q = k true n d q
  mul_by k h (inf false) (fin false n d) p q = k false n d q
  mul_by k h (fin s m e) nan p q = at_nan
  mul_by k h (fin s m e) (inf true) p q = absurd (under q)
  mul_by k h (fin true m e) (inf false) p q = k true m e p
  mul_by k h (fin false m e) (inf false) p q = k false m e p
  mul_by k h (fin s m e) (fin t n d) p q = h s m e t n d p q

pub add_clear : (f : Format) (x y : Float) → T (clear x) → T (clear y) → T (clear (add f x y))
unfolding add sum
add_clear f = add_by clear tt tt (λ h. h) f both
  where
    both : (s : Bool) (m : ℕ) (e : ℤ) (t : Bool) (n : ℕ) (d : ℤ) → T (clear (fin s m e)) → T (clear (fin t n d)) → T (clear (add f (fin s m e) (fin t n d)))
    both true m e t n d p q = absurd p
    both false m e true n d p q = absurd q
    both false m e false n d p q = round_clear f _ _

pub mul_clear : (f : Format) (x y : Float) → T (clear x) → T (clear y) → T (clear (mul f x y))
unfolding mul
mul_clear f = mul_by clear tt tt (λ h. h) f top both
  where
    top : (t : Bool) (n : ℕ) (d : ℤ) → T (clear (fin t n d)) → T (clear (cond (eqb n 0) nan (inf t)))
    top t n d p = cond_clear (eqb n 0) nan (inf t) tt p

    both : (s : Bool) (m : ℕ) (e : ℤ) (t : Bool) (n : ℕ) (d : ℤ) → T (clear (fin s m e)) → T (clear (fin t n d)) → T (clear (mul f (fin s m e) (fin t n d)))
    both true m e t n d p q = absurd p
    both false m e true n d p q = absurd q
    both false m e false n d p q = round_clear f _ _

pub div_clear : (f : Format) (x y : Float) → T (clear x) → T (clear y) → T (clear (div f x y))
unfolding div
div_clear f nan y p q = tt
div_clear f (inf s) nan p q = tt
div_clear f (inf s) (inf t) p q = tt
div_clear f (inf true) (fin t n d) p q = absurd p
div_clear f (inf false) (fin true n d) p q = absurd q
div_clear f (inf false) (fin false n d) p q = tt
div_clear f (fin s m e) nan p q = tt
div_clear f (fin true m e) (inf t) p q = absurd p
div_clear f (fin false m e) (inf true) p q = absurd q
div_clear f (fin false m e) (inf false) p q = tt
div_clear f (fin true m e) (fin t n d) p q = absurd p
div_clear f (fin false m e) (fin true n d) p q = absurd q
div_clear f (fin false m e) (fin false n d) p q = cond_clear (eqb n 0) (cond (eqb m 0) nan (inf false)) (round f false (m * up e * down d) (n * up d * down e)) (cond_clear (eqb m 0) nan (inf false) tt tt) (round_clear f _ _)

-- a square has no sign, whatever is squared
pub square_clear : (f : Format) (x : Float) → T (clear (mul f x x))
unfolding mul
square_clear f nan = tt
square_clear f (inf true) = tt
square_clear f (inf false) = tt
square_clear f (fin true m e) = round_clear f _ _
square_clear f (fin false m e) = round_clear f _ _

-- ---- the same with -0 let in: a NaN, or not negative. A quotient by -0 can be negative, so of `div` there is no such law
abbrev pub not_neg : Float → Bool
not_neg nan = true
not_neg (inf s) = not s
not_neg (fin false m e) = true
not_neg (fin true m e) = eqb m 0

pub clear_not_neg : (x : Float) → T (clear x) → T (not_neg x)
clear_not_neg nan h = tt
clear_not_neg (inf s) h = h
clear_not_neg (fin true m e) h = absurd h
clear_not_neg (fin false m e) h = tt

-- ---- a zero is rounded to a zero of the sign given
pub round_zero : (f : Format) (s : Bool) (c : ℕ) → 0 < c → round f s 0 c ≡ fin s 0 (pos 0)
round_zero f s c C = round_at f (fin s 0 (pos 0)) s 0 c (unfold fits in tt) C (refl, zero-mul c)

neg_zero : (f : Format) (s : Bool) (a c : ℕ) → a ≡ 0 → 0 < c → T (not_neg (round f s a c))
neg_zero f s a c z C = subst (λ (k : ℕ). T (not_neg (round f s k c))) (sym z) (subst (λ (k : Float). T (not_neg k)) (sym (round_zero f s c C)) (either s))
  where
    either : (s : Bool) → T (not_neg (fin s 0 (pos 0)))
    either true = tt
    either false = tt

round_ok : (f : Format) (a c : ℕ) → T (not_neg (round f false a c))
round_ok f a c = clear_not_neg (round f false a c) (round_clear f a c)

gone : (m u v : ℕ) → T (eqb m 0) → m * u * v ≡ 0
gone m u v h = ap (λ (k : ℕ). k * u * v) (eqb→eq m 0 h) ∙ ap (λ (k : ℕ). k * v) (zero-mul u) ∙ zero-mul v

-- a difference, where the case that has a sign is none
one_of : (f : Format) (t v w : Bool) (x y c : ℕ) → (T t → v ≡ false) → w ≡ false → T (not_neg (cond t (round f v x c) (round f w y c)))
one_of f true v w x y c h k = rw (h tt) (round_ok f x c)
one_of f false v w x y c h k = rw k (round_ok f y c)

none_under : (a b : ℕ) → b ≡ 0 → T (ltb a b) → ⊥
none_under a b z h = lt_irrefl 0 (lt_of_le_of_lt zero-le (lt_of_lt_of_le (ltb→lt a b h) (le_of_eq z)))

not_under : (f : Format) (a b c : ℕ) → b ≡ 0 → T (not_neg (cond (ltb a b) (round f true (b - a) c) (round f false (a - b) c)))
not_under f a b c z = one_of f (ltb a b) true false (b - a) (a - b) c (λ h. absurd (none_under a b z h)) refl

not_over : (f : Format) (a b c : ℕ) → a ≡ 0 → T (not_neg (cond (ltb a b) (round f false (b - a) c) (round f (ltb b a) (a - b) c)))
not_over f a b c z = one_of f (ltb a b) false (ltb b a) (b - a) (a - b) c (λ h. refl) (is_false (ltb b a) (not_T (ltb b a) (none_under b a z)))

at_zero : (b : Bool) → T b → T (not_neg (cond b nan (inf true)))
at_zero true h = tt
at_zero false h = h

pub add_not_neg : (f : Format) (x y : Float) → T (not_neg x) → T (not_neg y) → T (not_neg (add f x y))
unfolding add sum
add_not_neg f = add_by not_neg tt tt (λ h. h) f both
  where
    both : (s : Bool) (m : ℕ) (e : ℤ) (t : Bool) (n : ℕ) (d : ℤ) → T (not_neg (fin s m e)) → T (not_neg (fin t n d)) → T (not_neg (add f (fin s m e) (fin t n d)))
    both true m e true n d p q =
        neg_zero f true (m * up e * down d + n * up d * down e) (down e * down d) (ap (λ (k : ℕ). k + n * up d * down e) (gone m (up e) (down d) p) ∙ ap (λ (k : ℕ). 0 + k) (gone n (up d) (down e) q)) (mul-pos (down_pos e) (down_pos d))
    both true m e false n d p q = not_over f (m * up e * down d) (n * up d * down e) (down e * down d) (gone m (up e) (down d) p)
    both false m e true n d p q = not_under f (m * up e * down d) (n * up d * down e) (down e * down d) (gone n (up d) (down e) q)
    both false m e false n d p q = round_ok f _ _

pub mul_not_neg : (f : Format) (x y : Float) → T (not_neg x) → T (not_neg y) → T (not_neg (mul f x y))
unfolding mul
mul_not_neg f = mul_by not_neg tt tt (λ h. h) f top both
  where
    top : (t : Bool) (n : ℕ) (d : ℤ) → T (not_neg (fin t n d)) → T (not_neg (cond (eqb n 0) nan (inf t)))
    top true n d p = at_zero (eqb n 0) p
    top false n d p = clear_not_neg (cond (eqb n 0) nan (inf false)) (cond_clear (eqb n 0) nan (inf false) tt tt)

    both : (s : Bool) (m : ℕ) (e : ℤ) (t : Bool) (n : ℕ) (d : ℤ) → T (not_neg (fin s m e)) → T (not_neg (fin t n d)) → T (not_neg (mul f (fin s m e) (fin t n d)))
    both true m e true n d p q = round_ok f _ _
    both true m e false n d p q = neg_zero f true (m * up e * (n * up d)) (down e * down d) (gone m (up e) (n * up d) p) (mul-pos (down_pos e) (down_pos d))
    both false m e true n d p q = neg_zero f true (m * up e * (n * up d)) (down e * down d) (mul_comm (m * up e) (n * up d) ∙ gone n (up d) (m * up e) q) (mul-pos (down_pos e) (down_pos d))
    both false m e false n d p q = round_ok f _ _
