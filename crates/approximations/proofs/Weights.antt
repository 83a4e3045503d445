-- The angle PI × t / 2 of a t from 0 to 1 is from 0 to H; and a sum of a value that has no sign and one from 0 up has no sign. Assumes nothing.
use Rattle.std.proofs.Common.{◌≡◌, ℕ, ◌-◌, ◌*◌, ◌^◌, ◌<◌, ◌≤◌, true, false, T, pos, negsuc, sym, refl, ap, ◌∙◌, subst, zero-le, le_trans, le_of_eq, mul-le-mul_right, mul_assoc, mul-le-mul_left, mul-pos, zero-mul, arith, eqb→eq, pow_pos}
use lib.Ieee.{Float, nan, inf, fin, Format, binary64, low, up, down, round, of_int, add, mul, div, le, fits}
use lib.Ieee.Fits.{round-fits, mul-fits, div-fits}
use lib.Ieee.Order.{round_mono}
use Rattle.doubles.specs.Arithmetic.{◌⊗◌, ◌⊘◌, dec, from_int, one64, zero64}
use Rattle.approximations.specs.Circular.{H}
use Rattle.doubles.proofs.Magnitude.{mag, plain, plain_val, mul_at, div_at}
use Rattle.doubles.proofs.Signs.{clear, round_clear, add_clear}
use Rattle.doubles.proofs.Order.{plain_under, round_under_value}
use Rattle.doubles.proofs.Fractions.{sum_plain}
use Rattle.doubles.proofs.Interpolation.{to_one, is_zero}
use Rattle.doubles.proofs.Bound.{zero_le_plain}
use Rattle.doubles.proofs.Differences.{UpTo}

-- ---- the angle
abbrev PI : Float
PI = dec 3141592653589793 15

PI_fits : T (fits binary64 PI)
PI_fits = round-fits binary64 false 3141592653589793 (10 ^ 15)

PI_plain : T (plain PI)
unfolding round
PI_plain = tt

abbrev two_f : Float
two_f = fin false 1 (pos 1)

two_is : from_int (pos 2) ≡ two_f
unfolding of_int round
two_is = refl

PI_is : PI ≡ fin false 884279719003555 (negsuc 47)
unfolding round
PI_is = refl

H_is : H ≡ fin false 884279719003555 (negsuc 48)
unfolding round
H_is = refl

halved : fin false 884279719003555 (negsuc 47) ⊘ two_f ≡ fin false 884279719003555 (negsuc 48)
unfolding div round
halved = refl

half_PI : PI ⊘ two_f ≡ H
half_PI = ap (λ (x : Float). x ⊘ two_f) PI_is ∙ halved ∙ sym H_is

H_plain : T (plain H)
unfolding round
H_plain = tt

-- half of x, by the size of x in units
half_at : (f : Format) (x : Float) → T (fits f x) → T (plain x) → div f x (fin false 1 (pos 1)) ≡ round f false (mag f x * 1) (2 * 2 ^ low f)
half_at f x h p = div_at f x (fin false 1 (pos 1)) (mag f x) (2 ^ low f) 2 1 (pow_pos (low f)) (omega arith) (omega arith) (plain_val f x h p) (refl, refl)

-- of x up to y, half of x is up to half of y
half_mono : (f : Format) (x y : Float) → T (fits f x) → T (fits f y) → T (plain x) → T (plain y) → mag f x ≤ mag f y → T (le (div f x (fin false 1 (pos 1))) (div f y (fin false 1 (pos 1))))
half_mono f x y h k p q l =
    let L : 0 < 2 * 2 ^ low f = omega (arith, pow_pos (low f)) in
    rw (half_at f x h p, half_at f y k q) (round_mono f (mag f x * 1) (2 * 2 ^ low f) (mag f y * 1) (2 * 2 ^ low f) L L (mul-le-mul_right (2 * 2 ^ low f) (mul-le-mul_right 1 l)))

-- y times a t up to 1 is no more than y
less_times : (f : Format) (y t : Float) → T (fits f y) → T (plain y) → UpTo f one64 t → T (plain (mul f y t)) × (mag f (mul f y t) ≤ mag f y)
less_times f y t h p u =
    let l = 2 ^ low f in
    let L = pow_pos (low f) in
    let small : mag f y * mag f t * l ≤ mag f y * (l * l) = le_trans (mul-le-mul_right l (mul-le-mul_left (mag f y) (to_one f t u.0 u.1 u.2))) (le_of_eq (mul_assoc (mag f y) l l)) in
    rw (mul_at f y t (mag f y) l (mag f t) l L L (plain_val f y h p) (plain_val f t u.0 u.1)) (round_under_value f (mag f y * mag f t) (l * l) y h p (mul-pos L L) small)

pub angle_range : (t : Float) → UpTo binary64 one64 t → T (fits binary64 (dec 3141592653589793 15 ⊗ t ⊘ from_int (pos 2))) × T (le zero64 (dec 3141592653589793 15 ⊗ t ⊘ from_int (pos 2))) × T (le (dec 3141592653589793 15 ⊗ t ⊘ from_int (pos 2)) H)
angle_range t u =
    let x = PI ⊗ t in
    let h = mul-fits binary64 PI t in
    let m = less_times binary64 PI t PI_fits PI_plain u in
    let o : T (le (x ⊘ two_f) H) = subst (λ (z : Float). T (le (x ⊘ two_f) z)) half_PI (half_mono binary64 x PI h PI_fits m.0 PI_plain m.1) in
    let c : T (clear (x ⊘ two_f)) = rw (half_at binary64 x h m.0) (round_clear binary64 (mag binary64 x * 1) (2 * 2 ^ low binary64)) in
    let p = plain_under (x ⊘ two_f) H c H_plain o in
    rw two_is (div-fits binary64 x two_f, zero_le_plain (x ⊘ two_f) p, o)

-- ---- sums
pub add_from_zero : (f : Format) (x y : Float) → T (clear x) → T (le zero64 y) → T (clear (add f x y))
unfolding add
add_from_zero f x nan c l = unfold le in absurd l
add_from_zero f x (inf true) c l = unfold le in absurd l
add_from_zero f x (inf false) c l = add_clear f x (inf false) c tt
add_from_zero f x (fin false n d) c l = add_clear f x (fin false n d) c tt
add_from_zero f nan (fin true n d) c l = tt
add_from_zero f (inf s) (fin true n d) c l = c
add_from_zero f (fin true m e) (fin true n d) c l = absurd c
add_from_zero f (fin false m e) (fin true n d) c l =
    let none : n * up d * down e ≡ 0 = ap (λ (k : ℕ). k * up d * down e) (eqb→eq n 0 (is_zero n d l)) ∙ ap (λ (k : ℕ). k * down e) (zero-mul (up d)) ∙ zero-mul (down e) in
    rw (sum_plain f (m * up e * down d) (n * up d * down e) (down e * down d) (le_trans (le_of_eq none) zero-le)) (round_clear f (m * up e * down d - n * up d * down e) (down e * down d))
