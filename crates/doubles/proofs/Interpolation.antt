-- a + t * (b - a), each operation rounded, has no sign or is a NaN, where a and b are such and t is from 0 to 1. Assumes nothing.
use Rattle.std.proofs.Common.{◌≡◌, ℕ, zero, suc, ◌+◌, ◌-◌, ◌*◌, ◌^◌, ◌<◌, ◌≤◌, Bool, true, false, cond, not, T, eqb, ltb, ◌⊎◌, ℤ, pos, sym, refl, ap, ◌∙◌, subst, inl, inr, zero-le, le_trans, le_of_eq, lt_of_lt_of_le, lt_irrefl, mul-le-mul_right, zero-lt-suc, mul_assoc, mul_comm, mul-pos, zero-mul, mul-one, mul_right_comm, not-le_of_lt, sub-le, eqb→eq, ltb→lt, pow_pos}
use mathlib.Core.Bool.{beq}
use lib.Ieee.{Float, nan, inf, fin, Format, binary32, binary64, prec, emax, low, up, down, odd, units, round, sum, add, sub, neg, mul, le, fits}
use lib.Ieee.Fits.{down_pos, up_pos, and_l, round_is, round-fits}
use lib.Ieee.Order.{transfer}
use Rattle.doubles.proofs.Magnitude.{mag, mag_of, mag_val, plain, plain_val, mul_at}
use Rattle.doubles.proofs.Signs.{clear, not_neg, round_clear, round_zero, mul_clear, add_clear}
use Rattle.doubles.proofs.Order.{mag_mono, round_under_value}

-- ---- the sign that `round` is given, on its result
neg_odd : (d q k l : ℕ) → neg (odd d false q k l) ≡ odd d true q k l
unfolding neg odd
neg_odd d zero k l = refl
neg_odd d (suc q) k l = refl

neg_units : (f : Format) (q k : ℕ) → neg (units f false q k) ≡ units f true q k
unfolding units neg
neg_units f q k = go (ltb (q * 2 ^ k) (2 ^ (low f + suc (emax f))))
  where
    go : (b : Bool) → neg (cond b (odd (suc (prec f)) false q k (low f)) (inf false)) ≡ cond b (odd (suc (prec f)) true q k (low f)) (inf true)
    go true = neg_odd (suc (prec f)) q k (low f)
    go false = refl

pub round_neg : (f : Format) (a c : ℕ) → round f true a c ≡ neg (round f false a c)
round_neg f a c = sym (ap neg (round_is f false a c) ∙ neg_units f _ _ ∙ sym (round_is f true a c))

-- ---- a + -y, for a y up to a
take_off : (f : Format) (a b c : ℕ) → b ≤ a → T (clear (cond (ltb a b) (round f true (b - a) c) (round f false (a - b) c)))
take_off f a b c h = go (ltb a b) (ltb→lt a b)
  where
    go : (t : Bool) → (T t → a < b) → T (clear (cond t (round f true (b - a) c) (round f false (a - b) c)))
    go true k = absurd (not-le_of_lt (k tt) h)
    go false k = round_clear f (a - b) c

pub cross_mag : (f : Format) (m : ℕ) (e : ℤ) (n : ℕ) (d : ℤ) → T (fits f (fin false m e)) → T (fits f (fin false n d)) → mag f (fin false n d) ≤ mag f (fin false m e) → n * up d * down e ≤ m * up e * down d
cross_mag f m e n d h k l =
    transfer (n * up d) (m * up e) (down d) (down e) (mag f (fin false n d)) (mag f (fin false m e)) (2 ^ low f) (2 ^ low f) (pow_pos (low f)) (pow_pos (low f)) (mag_val f (fin false n d) k tt).1 (mag_val f (fin false m e) h tt).1 (mul-le-mul_right (2 ^ low f) l)

add_off : (f : Format) (x y : Float) → T (fits f x) → T (fits f y) → T (plain x) → T (plain y) → mag f y ≤ mag f x → T (clear (add f x (neg y)))
unfolding add sum neg
add_off f nan y h k p q l = absurd p
add_off f (inf s) y h k p q l = absurd p
add_off f (fin true m e) y h k p q l = absurd p
add_off f (fin false m e) nan h k p q l = absurd q
add_off f (fin false m e) (inf t) h k p q l = absurd q
add_off f (fin false m e) (fin true n d) h k p q l = absurd q
add_off f (fin false m e) (fin false n d) h k p q l = take_off f (m * up e * down d) (n * up d * down e) (down e * down d) (cross_mag f m e n d h k l)

-- ---- t * -d, for a d whose sign is clear
mul_neg : (f : Format) (t d : Float) → T (plain t) → T (plain d) → mul f t (neg d) ≡ neg (mul f t d)
unfolding mul neg
mul_neg f nan d p q = absurd p
mul_neg f (inf s) d p q = absurd p
mul_neg f (fin true m e) d p q = absurd p
mul_neg f (fin false m e) nan p q = absurd q
mul_neg f (fin false m e) (inf t) p q = absurd q
mul_neg f (fin false m e) (fin true n g) p q = absurd q
mul_neg f (fin false m e) (fin false n g) p q = round_neg f (m * up e * (n * up g)) (down e * down g)

-- a factor up to 1 makes the product no larger
shrink : (t d l : ℕ) → t ≤ l → t * d * l ≤ d * (l * l)
shrink t d l h = le_trans (mul-le-mul_right l (mul-le-mul_right d h)) (le_of_eq (simp (mul_assoc, mul_comm)))

pub mul_less : (f : Format) (t d : Float) → T (fits f t) → T (fits f d) → T (plain t) → T (plain d) → mag f t ≤ 2 ^ low f → T (fits f (mul f t d)) × T (plain (mul f t d)) × (mag f (mul f t d) ≤ mag f d)
mul_less f t d h k p q l =
    let L = pow_pos (low f) in
    let u = 2 ^ low f in
    let e = mul_at f t d (mag f t) u (mag f d) u L L (plain_val f t h p) (plain_val f d k q) in
    let r = round_under_value f (mag f t * mag f d) (u * u) d k q (mul-pos L L) (shrink (mag f t) (mag f d) u l) in
    subst (λ (z : Float). T (fits f z) × T (plain z) × (mag f z ≤ mag f d)) (sym e) (round-fits f false (mag f t * mag f d) (u * u), r.0, r.1)

-- ---- b - a: it has no sign, or it is -d for a d up to a
abbrev Diff : Format → Float → Float → Type 0
Diff f a z = T (clear z) ⊎ ((d : Float) × T (fits f d) × T (plain d) × (z ≡ neg d) × (mag f d ≤ mag f a))

less : (M B l E D G : ℕ) → M * l ≡ E * D → (M * G - B) * l ≤ E * (G * D)
less M B l E D G e =
    le_trans (mul-le-mul_right l (sub-le (M * G) B)) (le_of_eq (mul_right_comm M G l ∙ ap (λ (z : ℕ). z * G) e ∙ mul_assoc E D G ∙ ap (λ (z : ℕ). E * z) (mul_comm D G)))

diff_at : (f : Format) (m : ℕ) (e : ℤ) (n : ℕ) (g : ℤ) → T (fits f (fin false m e))
    → Diff f (fin false m e) (cond (ltb (n * up g * down e) (m * up e * down g)) (round f true (m * up e * down g - n * up g * down e) (down g * down e)) (round f false (n * up g * down e - m * up e * down g) (down g * down e)))
diff_at f m e n g h = go (ltb (n * up g * down e) (m * up e * down g))
  where
    go : (t : Bool) → Diff f (fin false m e) (cond t (round f true (m * up e * down g - n * up g * down e) (down g * down e)) (round f false (n * up g * down e - m * up e * down g) (down g * down e)))
    go true =
        let A = m * up e * down g - n * up g * down e in
        let c = down g * down e in
        let r = round_under_value f A c (fin false m e) h tt (mul-pos (down_pos g) (down_pos e)) (less (m * up e) (n * up g * down e) (2 ^ low f) (mag f (fin false m e)) (down e) (down g) (mag_val f (fin false m e) h tt).1) in
        inr (round f false A c, round-fits f false A c, r.0, round_neg f A c, r.1)
    go false = inl (round_clear f (n * up g * down e - m * up e * down g) (down g * down e))

diff : (f : Format) (m : ℕ) (e : ℤ) (b : Float) → T (fits f (fin false m e)) → T (clear b) → Diff f (fin false m e) (sub f b (fin false m e))
unfolding sub add sum neg
diff f m e nan h c = inl tt
diff f m e (inf s) h c = inl c
diff f m e (fin true n g) h c = absurd c
diff f m e (fin false n g) h c = diff_at f m e n g h

-- ---- what is added to a value that has no sign
add_inf : (f : Format) (y : Float) → T (clear (add f (inf false) y))
unfolding add
add_inf f nan = tt
add_inf f (inf true) = tt
add_inf f (inf false) = tt
add_inf f (fin t n d) = tt

add_zero_clear : (f : Format) (x : Float) (s : Bool) → T (clear x) → T (clear (add f x (fin s 0 (pos 0))))
unfolding add sum
add_zero_clear f nan s c = tt
add_zero_clear f (inf t) s c = c
add_zero_clear f (fin true m e) s c = absurd c
add_zero_clear f (fin false m e) true c = take_off f (m * up e * 1) (0 * 1 * down e) (down e * 1) (le_trans (le_of_eq (zero-mul (down e))) zero-le)
add_zero_clear f (fin false m e) false c = round_clear f (m * up e * 1 + 0 * 1 * down e) (down e * 1)

add_nan : (f : Format) (x : Float) → T (clear (add f x nan))
unfolding add
add_nan f nan = tt
add_nan f (inf s) = tt
add_nan f (fin s m e) = tt

-- t is -0
minus_zero_lem : (f : Format) (m : ℕ) (e : ℤ) (x z : Float) → T (eqb m 0) → T (clear x) → T (clear (add f x (mul f (fin true m e) z)))
unfolding mul
minus_zero_lem f m e x nan h c = add_nan f x
minus_zero_lem f m e x (inf t) h c = go (eqb m 0) h
  where
    go : (b : Bool) → T b → T (clear (add f x (cond b nan (inf (not (beq true t))))))
    go true k = add_nan f x
    go false k = absurd k
minus_zero_lem f m e x (fin t n g) h c =
    let s = not (beq true t) in
    let q : m * up e * (n * up g) ≡ 0 = ap (λ (k : ℕ). k * up e * (n * up g)) (eqb→eq m 0 h) ∙ ap (λ (k : ℕ). k * (n * up g)) (zero-mul (up e)) ∙ zero-mul (n * up g) in
    subst (λ (w : Float). T (clear (add f x w))) (sym (ap (λ (k : ℕ). round f s k (down e * down g)) q ∙ round_zero f s (down e * down g) (mul-pos (down_pos e) (down_pos g)))) (add_zero_clear f x s c)

-- ---- t from 0 to 1: its sign is clear, or it is -0
one_mag : (f : Format) → mag f (fin false 1 (pos 0)) ≡ 2 ^ low f
one_mag f = mag_of f (fin false 1 (pos 0)) false (2 ^ low f) (refl, ap (λ (z : ℕ). z * 2 ^ low f) (mul-one 1) ∙ mul_comm 1 (2 ^ low f))

pub one_fits : (f : Format) → T (fits f (fin false 1 (pos 0)))
unfolding fits
one_fits binary32 = tt
one_fits binary64 = tt

pub to_one : (f : Format) (t : Float) → T (fits f t) → T (plain t) → T (le t (fin false 1 (pos 0))) → mag f t ≤ 2 ^ low f
to_one f t h p l = subst (λ (z : ℕ). mag f t ≤ z) (one_mag f) (mag_mono f t (fin false 1 (pos 0)) h (one_fits f) p tt l)

pub is_zero : (n : ℕ) (d : ℤ) → T (le (fin false 0 (pos 0)) (fin true n d)) → T (eqb n 0)
unfolding le
is_zero zero d h = tt
is_zero (suc n) d h = absurd (lt_irrefl 0 (lt_of_lt_of_le (mul-pos (mul-pos (zero-lt-suc n) (up_pos d)) (zero-lt-suc 0)) (le_of_eq (sym (eqb→eq (0 * 1 * down d) (suc n * up d * 1) (and_l (eqb (0 * 1 * down d) (suc n * up d * 1)) (eqb (0 * 1 * down d) 0) h)) ∙ zero-mul (down d)))))

-- ---- the whole
plain_clear : (t : Float) → T (plain t) → T (clear t)
plain_clear nan p = tt
plain_clear (inf s) p = absurd p
plain_clear (fin s m e) p = p

lerp_at : (f : Format) (m : ℕ) (e : ℤ) (z t : Float) → T (fits f (fin false m e)) → T (fits f t) → T (plain t) → mag f t ≤ 2 ^ low f → Diff f (fin false m e) z → T (clear (add f (fin false m e) (mul f t z)))
lerp_at f m e z t h k p l (inl c) = add_clear f (fin false m e) (mul f t z) tt (mul_clear f t z (plain_clear t p) c)
lerp_at f m e z t h k p l (inr r) =
    let d = r.0 in
    let y = mul_less f t d k r.1 p r.2 l in
    subst (λ (w : Float). T (clear (add f (fin false m e) w))) (sym (ap (mul f t) r.3 ∙ mul_neg f t d p r.2))
    (add_off f (fin false m e) (mul f t d) h y.0 tt y.1 (le_trans y.2 r.4))

-- by t
by_t : (f : Format) (m : ℕ) (e : ℤ) (z t : Float) → T (fits f (fin false m e)) → T (fits f t) → T (le (fin false 0 (pos 0)) t) → T (le t (fin false 1 (pos 0))) → Diff f (fin false m e) z → T (clear (add f (fin false m e) (mul f t z)))
by_t f m e z nan h k lo hi D = unfold le in absurd lo
by_t f m e z (inf true) h k lo hi D = unfold le in absurd lo
by_t f m e z (inf false) h k lo hi D = unfold le in absurd hi
by_t f m e z (fin true n d) h k lo hi D = minus_zero_lem f n d (fin false m e) z (is_zero n d lo) tt
by_t f m e z (fin false n d) h k lo hi D = lerp_at f m e z (fin false n d) h k tt (to_one f (fin false n d) k tt hi) D

pub lerp_clear : (f : Format) (a b t : Float) → T (fits f a) → T (fits f t) → T (clear a) → T (clear b) → T (le (fin false 0 (pos 0)) t) → T (le t (fin false 1 (pos 0))) → T (clear (add f a (mul f t (sub f b a))))
lerp_clear f nan b t h k c d lo hi = unfold add in tt
lerp_clear f (inf true) b t h k c d lo hi = absurd c
lerp_clear f (inf false) b t h k c d lo hi = add_inf f (mul f t (sub f b (inf false)))
lerp_clear f (fin true m e) b t h k c d lo hi = absurd c
lerp_clear f (fin false m e) b t h k c d lo hi = by_t f m e (sub f b (fin false m e)) t h k lo hi (diff f m e b h d)

-- ---- what is from zero up is not negative
pub not_neg_le : (x : Float) → T (le (fin false 0 (pos 0)) x) → T (not_neg x)
not_neg_le nan h = tt
not_neg_le (inf true) h = unfold le in h
not_neg_le (inf false) h = tt
not_neg_le (fin false m e) h = tt
not_neg_le (fin true m e) h = is_zero m e h
