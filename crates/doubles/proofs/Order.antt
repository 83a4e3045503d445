-- The order of values whose sign is clear is that of their sizes in units. A fraction up to such a value is rounded to no more than it, and one from it up to no less. Assumes nothing.
use Rattle.std.proofs.Common.{◌≡◌, ℕ, ◌+◌, ◌*◌, ◌^◌, ◌<◌, ◌≤◌, true, false, ◌&&◌, ◌||◌, T, eqb, ltb, sym, subst, inl, inr, true≢false, le_trans, le_of_eq, le-add_right, le_of_lt, mul-le-mul_right, mul_assoc, mul-pos, le_of_mul-le-mul_right, le-add_left, eqb→eq, ltb→lt, pow_pos}
use lib.Ieee.{Float, nan, inf, fin, Format, low, up, down, round, add, le, fits}
use lib.Ieee.Fits.{and_l, down_pos, round-fits}
use lib.Ieee.Exact.{HasValue}
use lib.Ieee.Order.{transfer, le_of_values, round_mono}
use lib.Ieee.Scale.{grid, finite, round_val, round_under}
use mir.Facts.{or_yes}
use Rattle.doubles.proofs.Magnitude.{mag, mag_of, plain, plain_val, round_at, add_at}
use Rattle.doubles.proofs.Signs.{clear, round_clear}

-- ---- the order of two values, by their sizes
pub lt_or_eq : (a b : ℕ) → T (ltb a b || (eqb a b && true)) → a ≤ b
lt_or_eq a b t = elim (or_yes (ltb a b) (eqb a b && true) t) [ inl u ↦ le_of_lt (ltb→lt a b u) | inr u ↦ le_of_eq (eqb→eq a b (and_l (eqb a b) true u)) ]

pub at_least : (a b : ℕ) → T (ltb b a || (eqb a b && true)) → b ≤ a
at_least a b t = elim (or_yes (ltb b a) (eqb a b && true) t) [ inl u ↦ le_of_lt (ltb→lt b a u) | inr u ↦ le_of_eq (sym (eqb→eq a b (and_l (eqb a b) true u))) ]

le_fractions : (x y : Float) (a c b d : ℕ) → HasValue x false a c → HasValue y false b d → T (le x y) → a * d ≤ b * c
unfolding le
le_fractions nan y a c b d h k l = absurd h
le_fractions (inf s) y a c b d h k l = absurd h
le_fractions (fin s m e) nan a c b d h k l = absurd k
le_fractions (fin s m e) (inf t) a c b d h k l = absurd k
le_fractions (fin true m e) (fin t n g) a c b d h k l = absurd (true≢false h.0)
le_fractions (fin false m e) (fin true n g) a c b d h k l = absurd (true≢false k.0)
le_fractions (fin false m e) (fin false n g) a c b d h k l =
    transfer a b c d (m * up e) (n * up g) (down e) (down g) (down_pos e) (down_pos g) (sym h.1) (sym k.1) (lt_or_eq (m * up e * down g) (n * up g * down e) l)

pub mag_mono : (f : Format) (x y : Float) → T (fits f x) → T (fits f y) → T (plain x) → T (plain y) → T (le x y) → mag f x ≤ mag f y
mag_mono f x y h k p q l = le_of_mul-le-mul_right (le_fractions x y (mag f x) (2 ^ low f) (mag f y) (2 ^ low f) (plain_val f x h p) (plain_val f y k q) l) (pow_pos (low f))

pub mag_le : (f : Format) (x y : Float) → T (fits f x) → T (fits f y) → T (plain x) → T (plain y) → mag f x ≤ mag f y → T (le x y)
mag_le f x y h k p q l = le_of_values x y (mag f x) (2 ^ low f) (mag f y) (2 ^ low f) (pow_pos (low f)) (pow_pos (low f)) (plain_val f x h p) (plain_val f y k q) (mul-le-mul_right (2 ^ low f) l)

-- ---- what is no more than a finite value, and has no sign, is finite
pub plain_under : (x y : Float) → T (clear x) → T (plain y) → T (le x y) → T (plain x)
unfolding le
plain_under nan y c p l = absurd l
plain_under (inf true) y c p l = absurd c
plain_under (inf false) nan c p l = absurd p
plain_under (inf false) (inf t) c p l = absurd p
plain_under (inf false) (fin t n d) c p l = absurd l
plain_under (fin s m e) y c p l = c

pub clear_finite : (x : Float) → T (clear x) → T (finite x) → T (plain x)
clear_finite nan c t = t
clear_finite (inf s) c t = absurd t
clear_finite (fin s m e) c t = c

-- ---- a fraction a / c, and a value y
pub round_le : (f : Format) (a c : ℕ) (y : Float) → T (fits f y) → T (plain y) → 0 < c → a * 2 ^ low f ≤ mag f y * c → T (le (round f false a c) y)
round_le f a c y h p C l =
    subst (λ (z : Float). T (le (round f false a c) z)) (round_at f y false (mag f y) (2 ^ low f) h (pow_pos (low f)) (plain_val f y h p))
    (round_mono f a c (mag f y) (2 ^ low f) C (pow_pos (low f)) l)

pub round_ge : (f : Format) (a c : ℕ) (y : Float) → T (fits f y) → T (plain y) → 0 < c → mag f y * c ≤ a * 2 ^ low f → T (le y (round f false a c))
round_ge f a c y h p C l =
    subst (λ (z : Float). T (le z (round f false a c))) (round_at f y false (mag f y) (2 ^ low f) h (pow_pos (low f)) (plain_val f y h p))
    (round_mono f (mag f y) (2 ^ low f) a c (pow_pos (low f)) C l)

-- so it is finite, and no more than y in size
pub round_under_value : (f : Format) (a c : ℕ) (y : Float) → T (fits f y) → T (plain y) → 0 < c → a * 2 ^ low f ≤ mag f y * c → T (plain (round f false a c)) × (mag f (round f false a c) ≤ mag f y)
round_under_value f a c y h p C l =
    let o = round_le f a c y h p C l in
    let q = plain_under (round f false a c) y (round_clear f a c) p o in
    (q, mag_mono f (round f false a c) y (round-fits f false a c) h q p o)

-- a finite result's size is `grid`
pub grid_is : (f : Format) (a c : ℕ) → T (finite (round f false a c)) → mag f (round f false a c) ≡ grid f a c
grid_is f a c t = mag_of f (round f false a c) false (grid f a c) (round_val f a c (round_under f a c t))

-- ---- a sum is no less than either summand
sum_scale : (a b l : ℕ) → a * (l * l) ≤ (a * l + b * l) * l
sum_scale a b l = le_trans (le_of_eq (sym (mul_assoc a l l))) (mul-le-mul_right l (le-add_right (a * l) (b * l)))

sum_scale' : (a b l : ℕ) → b * (l * l) ≤ (a * l + b * l) * l
sum_scale' a b l = le_trans (le_of_eq (sym (mul_assoc b l l))) (mul-le-mul_right l (le-add_left (b * l) (a * l)))

pub add_ge : (f : Format) (x y : Float) → T (fits f x) → T (fits f y) → T (plain x) → T (plain y) → T (le x (add f x y)) × T (le y (add f x y))
add_ge f x y h k p q =
    let l = 2 ^ low f in
    let L = pow_pos (low f) in
    let e = add_at f x y (mag f x) l (mag f y) l L L (plain_val f x h p) (plain_val f y k q) in
    subst (λ (z : Float). T (le x z) × T (le y z)) (sym e) (
      round_ge f (mag f x * l + mag f y * l) (l * l) x h p (mul-pos L L) (sum_scale (mag f x) (mag f y) l),
      round_ge f (mag f x * l + mag f y * l) (l * l) y k q (mul-pos L L) (sum_scale' (mag f x) (mag f y) l),
    )

-- a finite sum of values without a sign has finite summands
pub add_parts : (f : Format) (x y : Float) → T (clear x) → T (clear y) → T (finite (add f x y)) → T (plain x) × T (plain y)
unfolding add
add_parts f nan y c d t = absurd t
add_parts f (inf s) nan c d t = absurd t
add_parts f (inf true) (inf t) c d u = absurd c
add_parts f (inf false) (inf true) c d u = absurd d
add_parts f (inf false) (inf false) c d u = absurd u
add_parts f (inf s) (fin t n g) c d u = absurd u
add_parts f (fin s m e) nan c d t = absurd t
add_parts f (fin s m e) (inf t) c d u = absurd u
add_parts f (fin s m e) (fin t n g) c d u = (c, d)
