-- A difference of two values whose signs are clear, the first no less than the second; and products, differences and sums that stay up to a value. Assumes nothing.
use Rattle.std.proofs.Common.{◌≡◌, ℕ, ◌+◌, ◌-◌, ◌*◌, ◌^◌, ◌<◌, ◌≤◌, Bool, true, false, cond, T, ltb, sym, ap, ◌∙◌, subst, le_trans, le_of_eq, le_refl, add-le-add, mul-le-mul_right, mul_assoc, mul_comm, mul-le-mul, mul-pos, mul_right_comm, not-le_of_lt, le-add_left, arith, ltb→lt, pow_pos}
use native.Mathlib.Nat.{mul-sub}
use lib.Ieee.{Float, nan, inf, fin, Format, low, up, down, round, sum, add, sub, neg, mul, le, fits}
use lib.Ieee.Fits.{down_pos, round-fits}
use lib.Ieee.Scale.{round_same}
use Rattle.doubles.specs.Arithmetic.{one64}
use Rattle.doubles.proofs.Magnitude.{mag, mag_val, plain, plain_val, add_at, mul_at}
use Rattle.doubles.proofs.Order.{mag_mono, mag_le, round_under_value}
use Rattle.doubles.proofs.Interpolation.{mul_less, cross_mag, to_one}

-- ---- the difference, by the sizes in units
cross : (M D N G X Y l : ℕ) → M * l ≡ X * D → N * l ≡ Y * G → (M * G - N * D) * l ≡ (X - Y) * (D * G)
cross M D N G X Y l h k =
    let a : M * G * l ≡ X * (D * G) = mul_right_comm M G l ∙ ap (λ (z : ℕ). z * G) h ∙ mul_assoc X D G in
    let b : N * D * l ≡ Y * (D * G) = mul_right_comm N D l ∙ ap (λ (z : ℕ). z * D) k ∙ mul_right_comm Y G D ∙ mul_assoc Y D G in
    mul_comm (M * G - N * D) l
    ∙ mul-sub l (M * G) (N * D)
    ∙ ap (λ (z : ℕ). z - l * (N * D)) (mul_comm l (M * G) ∙ a)
    ∙ ap (λ (z : ℕ). X * (D * G) - z) (mul_comm l (N * D) ∙ b)
    ∙ ap (λ (z : ℕ). z - Y * (D * G)) (mul_comm X (D * G))
    ∙ ap (λ (z : ℕ). D * G * X - z) (mul_comm Y (D * G))
    ∙ sym (mul-sub (D * G) X Y)
    ∙ mul_comm (D * G) (X - Y)

pub sub_at : (f : Format) (x y : Float) → T (fits f x) → T (fits f y) → T (plain x) → T (plain y) → mag f y ≤ mag f x → sub f x y ≡ round f false (mag f x - mag f y) (2 ^ low f)
unfolding sub add sum neg
sub_at f nan y h k p q l = absurd p
sub_at f (inf s) y h k p q l = absurd p
sub_at f (fin true m e) y h k p q l = absurd p
sub_at f (fin false m e) nan h k p q l = absurd q
sub_at f (fin false m e) (inf t) h k p q l = absurd q
sub_at f (fin false m e) (fin true n g) h k p q l = absurd q
sub_at f (fin false m e) (fin false n g) h k p q l = go (ltb A B) (ltb→lt A B)
  where
    A : ℕ
    A = m * up e * down g

    B : ℕ
    B = n * up g * down e

    C : ℕ
    C = down e * down g

    go : (t : Bool) → (T t → A < B) → cond t (round f true (B - A) C) (round f false (A - B) C) ≡ round f false (mag f (fin false m e) - mag f (fin false n g)) (2 ^ low f)
    go true u = absurd (not-le_of_lt (u tt) (cross_mag f m e n g h k l))
    go false u =
        round_same f false (A - B) C (mag f (fin false m e) - mag f (fin false n g)) (2 ^ low f) (mul-pos (down_pos e) (down_pos g)) (pow_pos (low f))
        (cross (m * up e) (down e) (n * up g) (down g) (mag f (fin false m e)) (mag f (fin false n g)) (2 ^ low f) (mag_val f (fin false m e) h tt).1 (mag_val f (fin false n g) k tt).1)

-- ---- from +0 up to c
abbrev pub UpTo : Format → Float → Float → Type 0
UpTo f c x = T (fits f x) × T (plain x) × T (le x c)

pub up_to_self : (f : Format) (c : Float) → T (fits f c) → T (plain c) → UpTo f c c
up_to_self f c h p = (h, p, mag_le f c c h h p p (le_refl (mag f c)))

pub up_to_more : (f : Format) (c d x : Float) → T (fits f c) → T (fits f d) → T (plain c) → T (plain d) → T (le c d) → UpTo f c x → UpTo f d x
up_to_more f c d x h k p q l u = (u.0, u.1, mag_le f x d u.0 k u.1 q (le_trans (mag_mono f x c u.0 h u.1 p u.2) (mag_mono f c d h k p q l)))

-- a factor up to 1
pub mul_up_to : (f : Format) (c t x : Float) → T (fits f c) → T (plain c) → UpTo f one64 t → UpTo f c x → UpTo f c (mul f t x)
mul_up_to f c t x h p u v =
    let r = mul_less f t x u.0 v.0 u.1 v.1 (to_one f t u.0 u.1 u.2) in
    (r.0, r.1, mag_le f (mul f t x) c r.0 h r.1 p (le_trans r.2 (mag_mono f x c v.0 h v.1 p v.2)))

-- factors up to c and to d, and a product up to e
pub mul_up_to_both : (f : Format) (c d e x y : Float) → T (fits f c) → T (fits f d) → T (fits f e) → T (plain c) → T (plain d) → T (plain e) → mag f c * mag f d ≤ mag f e * 2 ^ low f → UpTo f c x → UpTo f d y → UpTo f e (mul f x y)
mul_up_to_both f c d e x y h i j p q r g v w =
    let u = 2 ^ low f in
    let U = pow_pos (low f) in
    let n = mag f x * mag f y in
    let k = mul_at f x y (mag f x) u (mag f y) u U U (plain_val f x v.0 v.1) (plain_val f y w.0 w.1) in
    let l = le_trans (mul-le-mul (mag_mono f x c v.0 h v.1 p v.2) (mag_mono f y d w.0 i w.1 q w.2)) g in
    let z = round_under_value f n (u * u) e j r (mul-pos U U) (le_trans (mul-le-mul_right u l) (le_of_eq (mul_assoc (mag f e) u u))) in
    subst (λ (t : Float). UpTo f e t) (sym k) (round-fits f false n (u * u), z.0, mag_le f (round f false n (u * u)) e (round-fits f false n (u * u)) j z.0 r z.1)

-- x - y is up to c where y is up to x, and x to y + c
room : (x y c l : ℕ) → x ≤ y + c → (x - y) * l ≤ c * l
room x y c l h = let g : x - y ≤ c = omega arith in mul-le-mul_right l g

pub sub_up_to : (f : Format) (c x y : Float) → T (fits f c) → T (fits f x) → T (fits f y) → T (plain c) → T (plain x) → T (plain y) → T (le y x) → mag f x ≤ mag f y + mag f c → UpTo f c (sub f x y)
sub_up_to f c x y h i j p q r l g =
    let e = sub_at f x y i j q r (mag_mono f y x j i r q l) in
    let u = 2 ^ low f in
    let z = round_under_value f (mag f x - mag f y) u c h p (pow_pos (low f)) (room (mag f x) (mag f y) (mag f c) u g) in
    subst (λ (w : Float). UpTo f c w) (sym e) (round-fits f false (mag f x - mag f y) u, z.0, mag_le f (round f false (mag f x - mag f y) u) c (round-fits f false (mag f x - mag f y) u) h z.0 p z.1)

-- what x leaves of c is up to c
pub rest_up_to : (f : Format) (c x : Float) → T (fits f c) → T (plain c) → UpTo f c x → UpTo f c (sub f c x)
rest_up_to f c x h p u = sub_up_to f c c x h h u.0 p p u.1 u.2 (le-add_left (mag f c) (mag f x))

-- x + y is up to c
sum_room : (x y c l : ℕ) → x + y ≤ c → (x * l + y * l) * l ≤ c * (l * l)
sum_room x y c l h = let k = mul-le-mul_right (l * l) h in omega arith

pub add_up_to : (f : Format) (c x y : Float) → T (fits f c) → T (fits f x) → T (fits f y) → T (plain c) → T (plain x) → T (plain y) → mag f x + mag f y ≤ mag f c → UpTo f c (add f x y)
add_up_to f c x y h i j p q r g =
    let l = 2 ^ low f in
    let L = pow_pos (low f) in
    let e = add_at f x y (mag f x) l (mag f y) l L L (plain_val f x i q) (plain_val f y j r) in
    let n = mag f x * l + mag f y * l in
    let z = round_under_value f n (l * l) c h p (mul-pos L L) (sum_room (mag f x) (mag f y) (mag f c) l g) in
    subst (λ (w : Float). UpTo f c w) (sym e) (round-fits f false n (l * l), z.0, mag_le f (round f false n (l * l)) c (round-fits f false n (l * l)) h z.0 p z.1)

-- terms up to c and to d, and a sum up to e
pub add_up_to_both : (f : Format) (c d e x y : Float) → T (fits f c) → T (fits f d) → T (fits f e) → T (plain c) → T (plain d) → T (plain e) → mag f c + mag f d ≤ mag f e → UpTo f c x → UpTo f d y → UpTo f e (add f x y)
add_up_to_both f c d e x y h i j p q r g v w =
    add_up_to f e x y j v.0 w.0 r v.1 w.1 (le_trans (add-le-add (mag_mono f x c v.0 h v.1 p v.2) (mag_mono f y d w.0 i w.1 q w.2)) g)
