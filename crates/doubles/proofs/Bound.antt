-- Each of a list of values, divided by the root of the sum of their squares, is at most 5/4, where that sum is finite and above zero. Assumes nothing.
use Rattle.std.proofs.Common.{◌≡◌, ℕ, zero, suc, ◌+◌, ◌-◌, ◌*◌, ◌/◌, ◌^◌, ◌<◌, ◌≤◌, Bool, true, false, cond, T, eqb, ◌⊎◌, List, [], ◌∷◌, ℤ, pos, sym, refl, ap, ◌∙◌, subst, inl, inr, zero-le, le_trans, le_of_eq, le_refl, lt_of_lt_of_le, le_of_suc-le-suc, lt_of_le_of_lt, lt_irrefl, mul-le-mul_right, zero-lt-suc, mul_assoc, mul_comm, mul-le-mul, mul-le-mul_left, mul-lt-mul_of_pos_right, mul-pos, one-mul, lt_of_not-le, zero-mul, mul-one, not-le_of_lt, le_of_mul-le-mul_right, mul_left_comm, arith, lit≤, eqb→eq, ltb→lt, pow_pos}
use mathlib.Core.List.{Memᴰ}
use native.Mathlib.Nat.{pow-succ', mul-lt-mul_of_pos_left, zero-div, mul-mul-mul_comm}
use lib.Dec.{eqb-suc-zero}
use lib.Ieee.{Float, nan, inf, fin, Format, binary32, binary64, prec, emax, low, up, down, round, add, mul, div, lt, le, fits}
use lib.Ieee.Fits.{two, two-le_pos, down_pos, up_pos, mul-fits, add-fits, round-fits, nan-fits, inf-fits}
use lib.Ieee.Order.{drop, le_of_values}
use lib.Ieee.Positive.{first_pos}
use lib.Ieee.Scale.{grid, finite, round_same}
use Rattle.doubles.specs.Root.{sqrt_of, round_root}
use Rattle.doubles.specs.Arithmetic.{zero64}
use Rattle.doubles.specs.Norm.{five_quarters, fold_squares, Bounded}
use Rattle.doubles.proofs.Magnitude.{mag, mag_of, mag_val, plain, plain_finite, plain_val, mul_cross, div_at, mag_lt}
use Rattle.doubles.proofs.Rounding.{grid_near, step_small}
use Rattle.doubles.proofs.Signs.{clear, not_neg, round_zero, add_clear, square_clear}
use Rattle.doubles.proofs.Order.{mag_mono, clear_finite, round_le, round_under_value, grid_is, add_ge, add_parts}
use Rattle.doubles.proofs.Roots.{handed, root_fraction, root_under, root_over, sq_le_back}

-- ---- the sum: no partial sum and no square is above it
sum_from_lem : (f : Format) (s : Float) (v : List Float) → T (clear s) → T (fits f s) → T (finite (fold_squares f s v)) → T (plain s) × T (plain (fold_squares f s v)) × (mag f s ≤ mag f (fold_squares f s v))
unfolding fold_squares
sum_from_lem f s [] c h t = (clear_finite s c t, clear_finite s c t, le_refl (mag f s))
sum_from_lem f s (x ∷ xs) c h t =
    let y = mul f x x in
    let a = add f s y in
    let r = sum_from_lem f a xs (add_clear f s y c (square_clear f x)) (add-fits f s y) t in
    let p = add_parts f s y c (square_clear f x) (plain_finite a r.0) in
    (p.0, r.1, le_trans (mag_mono f s a h (add-fits f s y) p.0 r.0 (add_ge f s y h (mul-fits f x x) p.0 p.1).0) r.2)

sum_fits : (f : Format) (s : Float) (v : List Float) → T (fits f s) → T (fits f (fold_squares f s v))
unfolding fold_squares
sum_fits f s [] h = h
sum_fits f s (x ∷ xs) h = sum_fits f (add f s (mul f x x)) xs (add-fits f s (mul f x x))

sum_square : (f : Format) (s : Float) (v : List Float) (x : Float) → Memᴰ x v → T (clear s) → T (fits f s) → T (finite (fold_squares f s v)) → T (plain (mul f x x)) × (mag f (mul f x x) ≤ mag f (fold_squares f s v))
unfolding fold_squares
sum_square f s [] x m c h t = elim m [ ]
sum_square f s (z ∷ zs) x (Memᴰ.head e) c h t =
    let y = mul f z z in
    let a = add f s y in
    let r = sum_from_lem f a zs (add_clear f s y c (square_clear f z)) (add-fits f s y) t in
    let p = add_parts f s y c (square_clear f z) (plain_finite a r.0) in
    subst (λ (w : Float). T (plain (mul f w w)) × (mag f (mul f w w) ≤ mag f (fold_squares f a zs))) (sym e)
    (p.1, le_trans (mag_mono f y a (mul-fits f z z) (add-fits f s y) p.1 r.0 (add_ge f s y h (mul-fits f z z) p.0 p.1).1) r.2)
sum_square f s (z ∷ zs) x (Memᴰ.tail m) c h t = sum_square f (add f s (mul f z z)) zs x m (add_clear f s (mul f z z) c (square_clear f z)) (add-fits f s (mul f z z)) t

-- ---- a square: 2 x² ≤ 3 S, for an S that is at least the rounded square and at least the smallest value
weight : (f : Format) (a c S : ℕ) → grid f a c ≤ S → 1 ≤ S → 2 ^ drop (prec f) (a * 2 ^ low f) c ≤ S
weight f a c S g o = go (step_small (prec f) (a * 2 ^ low f) c (two-le_pos (prec f) (two f)))
  where
    k : ℕ
    k = drop (prec f) (a * 2 ^ low f) c

    go : (drop (prec f) (a * 2 ^ low f) c ≡ 0) ⊎ (2 ^ (prec f - 1) * 2 ^ drop (prec f) (a * 2 ^ low f) c ≤ grid f a c) → 2 ^ drop (prec f) (a * 2 ^ low f) c ≤ S
    go (inl e) = rw e o
    go (inr h) = le_trans (le_trans (le_of_eq (sym (one-mul _))) (mul-le-mul_right (2 ^ drop (prec f) (a * 2 ^ low f) c) (pow_pos (prec f - 1)))) (le_trans h g)

square_cancel : (x l G K S : ℕ) → 0 < l → 2 * (x * x * l) ≤ (2 * G + K) * (l * l) → G ≤ S → K ≤ S → 2 * (x * x) ≤ 3 * S * l
square_cancel x l G K S L h g k =
    let a : 2 * G + K ≤ 3 * S = omega arith in
    le_of_mul-le-mul_right (le_trans (le_of_eq (mul_assoc 2 (x * x) l)) (le_trans h (le_trans (mul-le-mul_right (l * l) a) (le_of_eq (sym (mul_assoc (3 * S) l l)))))) L

square_at : (f : Format) (s : Bool) (m : ℕ) (e : ℤ) (a c : ℕ) → m * up e * c ≡ a * down e → 0 < c → mul f (fin s m e) (fin s m e) ≡ round f false (a * a) (c * c)
unfolding mul
square_at f true m e a c v C = round_same f false (m * up e * (m * up e)) (down e * down e) (a * a) (c * c) (mul-pos (down_pos e) (down_pos e)) (mul-pos C C) (mul_cross (m * up e) (down e) (m * up e) (down e) a c a c v v)
square_at f false m e a c v C = round_same f false (m * up e * (m * up e)) (down e * down e) (a * a) (c * c) (mul-pos (down_pos e) (down_pos e)) (mul-pos C C) (mul_cross (m * up e) (down e) (m * up e) (down e) a c a c v v)

square_finite : (f : Format) (x : Float) → T (plain (mul f x x)) → T (finite x)
unfolding mul
square_finite f nan p = p
square_finite f (inf true) p = p
square_finite f (inf false) p = p
square_finite f (fin s m e) p = tt

square_is : (f : Format) (x : Float) → T (fits f x) → T (finite x) → mul f x x ≡ round f false (mag f x * mag f x) (2 ^ low f * 2 ^ low f)
square_is f nan h t = absurd t
square_is f (inf s) h t = absurd t
square_is f (fin s m e) h t = square_at f s m e (mag f (fin s m e)) (2 ^ low f) (mag_val f (fin s m e) h tt).1 (pow_pos (low f))

pub square_bound : (f : Format) (x : Float) (S : ℕ) → T (fits f x) → T (plain (mul f x x)) → mag f (mul f x x) ≤ S → 1 ≤ S → 2 * (mag f x * mag f x) ≤ 3 * S * 2 ^ low f
square_bound f x S h p g o =
    let l = 2 ^ low f in
    let L = pow_pos (low f) in
    let n = mag f x * mag f x in
    let e = square_is f x h (square_finite f x p) in
    let q : T (plain (round f false n (l * l))) = subst (λ (z : Float). T (plain z)) e p in
    let G : grid f n (l * l) ≤ S = subst (λ (z : ℕ). z ≤ S) (ap (mag f) e ∙ grid_is f n (l * l) (plain_finite (round f false n (l * l)) q)) g in
    square_cancel (mag f x) l (grid f n (l * l)) (2 ^ drop (prec f) (n * l) (l * l)) S L (grid_near f n (l * l) (mul-pos L L)).0 G (weight f n (l * l) S G o)

-- ---- the root R of S: 24 S ≤ 25 R²
-- with K the weight of the last digit kept
ruleset products = (mul_assoc, mul_comm, mul_left_comm)

root_cancel : (num den l S R K : ℕ) → 0 < den → num * l ≡ S * den → num * (2 * l * (2 * l)) ≤ (2 * R + K) * (2 * R + K) * den → 32 * K ≤ R → 24 * (S * l) ≤ 25 * (R * R)
root_cancel num den l S R K D e h k =
    let t = (2 * R + K) * (2 * R + K) in
    let a : 32 * (2 * R + K) ≤ 65 * R = omega arith in
    let b : 1024 * t ≤ 4225 * (R * R) = le_trans (le_of_eq (sym (mul-mul-mul_comm 32 (2 * R + K) 32 (2 * R + K)))) (le_trans (mul-le-mul a a) (le_of_eq (mul-mul-mul_comm 65 R 65 R))) in
    let p : num * (4 * (l * l)) ≡ 4 * l * (num * l) = simp products in
    let q : 4 * l * (S * den) ≡ 4 * (S * l * den) = simp products in
    let w : num * (2 * l * (2 * l)) ≡ 4 * (S * l * den) = ap (λ (z : ℕ). num * z) (mul-mul-mul_comm 2 l 2 l) ∙ p ∙ ap (λ (z : ℕ). 4 * l * z) e ∙ q in
    let c : 1024 * (t * den) ≤ 4225 * (R * R) * den = le_trans (le_of_eq (sym (mul_assoc 1024 t den))) (mul-le-mul_right den b) in
    let g : 4096 * (S * l) * den ≡ 4096 * (S * l * den) = mul_assoc 4096 (S * l) den in
    let d : 4096 * (S * l) * den ≤ 4225 * (R * R) * den = omega arith in
    let r : 4096 * (S * l) ≤ 4225 * (R * R) = le_of_mul-le-mul_right d D in
    omega arith

-- the rounded root in units is at least 32 in size, since it is the root of at least one unit, and there are 4096 units in one at least
enough : (f : Format) → 4096 ≤ 2 ^ low f
enough binary32 = lit≤ tt
enough binary64 = lit≤ tt

-- W ≤ (2 R + K)² den, where K is the weight of the last digit
root_squared : (f : Format) (num den : ℕ) → 0 < den
    → num * (2 * 2 ^ low f * (2 * 2 ^ low f)) ≤ (2 * grid f (handed num den (2 ^ low f)) (2 * (den * (2 * 2 ^ low f))) + 2 ^ drop (prec f) (handed num den (2 ^ low f) * 2 ^ low f) (2 * (den * (2 * 2 ^ low f))))
    * (2 * grid f (handed num den (2 ^ low f)) (2 * (den * (2 * 2 ^ low f))) + 2 ^ drop (prec f) (handed num den (2 ^ low f) * 2 ^ low f) (2 * (den * (2 * 2 ^ low f)))) * den
root_squared f num den D =
    let l = 2 ^ low f in
    let L = pow_pos (low f) in
    let c = 2 * (den * (2 * l)) in
    let a = handed num den l in
    let w = 2 * grid f a c + 2 ^ drop (prec f) (a * l) c in
    le_of_suc-le-suc (lt_of_not-le (λ (g : w * w * den < num * (2 * l * (2 * l))). not-le_of_lt (root_over num den l w D L g) (grid_near f a c (mul-pos (zero-lt-suc 1) (mul-pos D (mul-pos (zero-lt-suc 1) L)))).0))

one_unit : (S l R : ℕ) → 1 ≤ S → 4096 ≤ l → 4 * (S * l) ≤ (2 * R + 1) * (2 * R + 1) → 32 * 1 ≤ R
one_unit S l R o L h =
    let a : 1 * 4096 ≤ S * l = mul-le-mul o L in
    let b : 128 * 128 ≤ (2 * R + 1) * (2 * R + 1) = le_trans (mul-le-mul_left 4 a) h in
    let c : 128 ≤ 2 * R + 1 = sq_le_back 128 (2 * R + 1) b in
    omega arith

big : (f : Format) → 32 ≤ 2 ^ (prec f - 1)
big binary32 = lit≤ tt
big binary64 = lit≤ tt

-- W is 4 * S * l * den
pub four : (num den l S : ℕ) → num * l ≡ S * den → num * (2 * l * (2 * l)) ≡ 4 * (S * l) * den
four num den l S e =
    let p : num * (4 * (l * l)) ≡ 4 * l * (num * l) = simp products in
    let q : 4 * l * (S * den) ≡ 4 * (S * l) * den = simp products in
    ap (λ (z : ℕ). num * z) (mul-mul-mul_comm 2 l 2 l) ∙ p ∙ ap (λ (z : ℕ). 4 * l * z) e ∙ q

module _ (f : Format) (num den S : ℕ) (D : 0 < den) (o : 1 ≤ S) (e : num * 2 ^ low f ≡ S * den) where
  abbrev L : ℕ
  L = 2 ^ low f

  abbrev C : ℕ
  C = 2 * (den * (2 * 2 ^ low f))

  abbrev A : ℕ
  A = handed num den (2 ^ low f)

  light : 32 * 2 ^ drop (prec f) (A * L) C ≤ grid f A C
  light = go (step_small (prec f) (A * L) C (two-le_pos (prec f) (two f)))
    where
      go : (drop (prec f) (A * L) C ≡ 0) ⊎ (2 ^ (prec f - 1) * 2 ^ drop (prec f) (A * L) C ≤ grid f A C) → 32 * 2 ^ drop (prec f) (A * L) C ≤ grid f A C
      go (inr h) = le_trans (mul-le-mul_right (2 ^ drop (prec f) (A * L) C) (big f)) h
      go (inl z) =
          let s = root_squared f num den D in
          let R = grid f A C in
          let t : num * (2 * L * (2 * L)) ≤ (2 * R + 1) * (2 * R + 1) * den = subst (λ (k : ℕ). num * (2 * L * (2 * L)) ≤ (2 * R + 2 ^ k) * (2 * R + 2 ^ k) * den) z s in
          subst (λ (k : ℕ). 32 * 2 ^ k ≤ R) (sym z) (one_unit S L R o (enough f) (le_of_mul-le-mul_right (le_trans (le_of_eq (sym (four num den L S e))) t) D))

  root_large : 24 * (S * L) ≤ 25 * (grid f A C * grid f A C)
  root_large = root_cancel num den L S (grid f A C) (2 ^ drop (prec f) (A * L) C) D e (root_squared f num den D) light

-- ---- the root of a finite value is finite: it is below 2 ^ emax
abbrev huge : Format → Float
huge f = fin false 1 (pos (emax f))

huge_fits : (f : Format) → T (fits f (huge f))
unfolding fits
huge_fits binary32 = tt
huge_fits binary64 = tt

huge_mag : (f : Format) → mag f (huge f) ≡ 2 ^ emax f * 2 ^ low f
huge_mag f = mag_of f (huge f) false (2 ^ emax f * 2 ^ low f) (refl, ap (λ (z : ℕ). z * 2 ^ low f) (one-mul (2 ^ emax f)) ∙ sym (mul-one (2 ^ emax f * 2 ^ low f)))

two_le : (f : Format) → 2 ≤ 2 ^ emax f
two_le binary32 = lit≤ tt
two_le binary64 = lit≤ tt

small_square : (S l t : ℕ) → S < 2 * t * l → 2 ≤ t → 0 < l → S * l < t * l * (t * l)
small_square S l t h T2 L =
    let a : S * l < 2 * t * l * l = mul-lt-mul_of_pos_right h L in
    let b : 2 * t * l * l ≤ t * t * l * l = mul-le-mul_right l (mul-le-mul_right l (mul-le-mul_right t T2)) in
    let c : t * t * l * l ≡ t * l * (t * l) = simp products in
    lt_of_lt_of_le a (le_trans b (le_of_eq c))

four_squared : (M den : ℕ) → 4 * (M * M) * den ≡ 2 * M * (2 * M) * den
four_squared M den = ap (λ (z : ℕ). z * den) (sym (mul-mul-mul_comm 2 M 2 M))

half_twice : (n M c : ℕ) → 2 * n < 2 * M * c → n ≤ M * c
half_twice n M c h = let e = mul_assoc 2 M c in omega arith

root_finite : (f : Format) (num den S : ℕ) → 0 < den → S < 2 ^ suc (emax f) * 2 ^ low f → num * 2 ^ low f ≡ S * den → T (plain (round f false (handed num den (2 ^ low f)) (2 * (den * (2 * 2 ^ low f)))))
root_finite f num den S D u e =
    let l = 2 ^ low f in
    let L = pow_pos (low f) in
    let c = 2 * (den * (2 * l)) in
    let M = 2 ^ emax f * l in
    let a : S * l < M * M = small_square S l (2 ^ emax f) (lt_of_lt_of_le u (le_of_eq (ap (λ (z : ℕ). z * l) (pow-succ' 2 (emax f))))) (two_le f) L in
    let b : num * (2 * l * (2 * l)) < 2 * M * (2 * M) * den =
    lt_of_le_of_lt (le_of_eq (four num den l S e)) (lt_of_lt_of_le (mul-lt-mul_of_pos_right (mul-lt-mul_of_pos_left a (zero-lt-suc 3)) D) (le_of_eq (four_squared M den))) in
    let g : handed num den l * l ≤ M * c = half_twice (handed num den l * l) M c (root_under num den l (2 * M) D L b) in
    (round_under_value f (handed num den l) c (huge f) (huge_fits f) tt (mul-pos (zero-lt-suc 1) (mul-pos D (mul-pos (zero-lt-suc 1) L))) (subst (λ (z : ℕ). handed num den l * l ≤ z * c) (sym (huge_mag f)) g)).0

-- ---- `sqrt_of` of a value above zero
abbrev pub Rooted : Format → Float → Float → Type 0
Rooted f x r = T (plain r) × (24 * (mag f x * 2 ^ low f) ≤ 25 * (mag f r * mag f r)) × (1 ≤ mag f r)

pos_of_square : (S l R : ℕ) → 1 ≤ S → 0 < l → 24 * (S * l) ≤ 25 * (R * R) → 1 ≤ R
pos_of_square S l zero o L h = let a : 0 < S * l = mul-pos o L in absurd (omega arith)
pos_of_square S l (suc R) o L h = zero-lt-suc R

rooted_at : (f : Format) (x : Float) (num den : ℕ) → 0 < den → T (fits f x) → T (finite x) → 1 ≤ mag f x → num * 2 ^ low f ≡ mag f x * den → Rooted f x (round_root f num den)
rooted_at f x num den D h t o e =
    let l = 2 ^ low f in
    let c = 2 * (den * (2 * l)) in
    let r = round f false (handed num den l) c in
    let p : T (plain r) = root_finite f num den (mag f x) D (mag_lt f x h t) e in
    let g : mag f r ≡ grid f (handed num den l) c = grid_is f (handed num den l) c (plain_finite r p) in
    let b : 24 * (mag f x * l) ≤ 25 * (mag f r * mag f r) = subst (λ (z : ℕ). 24 * (mag f x * l) ≤ 25 * (z * z)) (sym g) (root_large f num den (mag f x) D o e) in
    subst (λ (z : Float). T (plain z) × (24 * (mag f x * l) ≤ 25 * (mag f z * mag f z)) × (1 ≤ mag f z)) (sym (root_fraction f num den)) (p, b, pos_of_square (mag f x) l (mag f r) o (pow_pos (low f)) b)

pub zero_mag : (l d : ℕ) (u : ℕ) → 0 * u * l / d ≡ 0
zero_mag l d u = ap (λ (z : ℕ). z * l / d) (zero-mul u) ∙ ap (λ (z : ℕ). z / d) (zero-mul l) ∙ zero-div d

pub sqrt_rooted : (f : Format) (x : Float) → T (fits f x) → T (plain x) → 1 ≤ mag f x → Rooted f x (sqrt_of f x)
unfolding sqrt_of
sqrt_rooted f nan h p o = absurd p
sqrt_rooted f (inf s) h p o = absurd p
sqrt_rooted f (fin true m e) h p o = absurd p
sqrt_rooted f (fin false zero e) h p o = absurd (lt_irrefl 0 (lt_of_lt_of_le o (le_of_eq (zero_mag (2 ^ low f) (down e) (up e)))))
sqrt_rooted f (fin false (suc m) e) h p o = rooted_at f (fin false (suc m) e) (suc m * up e) (down e) (down_pos e) h tt o (mag_val f (fin false (suc m) e) h tt).1

pub sqrt_fits : (f : Format) (x : Float) → T (fits f x) → T (fits f (sqrt_of f x))
unfolding sqrt_of
sqrt_fits f nan h = nan-fits f
sqrt_fits f (inf true) h = nan-fits f
sqrt_fits f (inf false) h = inf-fits f false
sqrt_fits f (fin s zero e) h = h
sqrt_fits f (fin true (suc m) e) h = nan-fits f
sqrt_fits f (fin false (suc m) e) h = round-fits f false _ _

-- ---- x / R, where 4 x ≤ 5 R
four_five : (x l R S : ℕ) → 2 * (x * x) ≤ 3 * S * l → 24 * (S * l) ≤ 25 * (R * R) → 4 * x ≤ 5 * R
four_five x l R S h k =
    let a : 4 * x * (4 * x) ≡ 16 * (x * x) = mul-mul-mul_comm 4 x 4 x in
    let b : 5 * R * (5 * R) ≡ 25 * (R * R) = mul-mul-mul_comm 5 R 5 R in
    let c : 3 * S * l ≡ 3 * (S * l) = mul_assoc 3 S l in
    let d : 4 * x * (4 * x) ≤ 5 * R * (5 * R) = omega arith in
    sq_le_back (4 * x) (5 * R) d

quotient : (x l R M : ℕ) → 5 * l ≡ M * 4 → 4 * x ≤ 5 * R → x * l * l ≤ M * (R * l)
quotient x l R M m h =
    let a : 4 * x * (l * l) ≤ 5 * R * (l * l) = mul-le-mul_right (l * l) h in
    let b : 4 * x * (l * l) ≡ 4 * (x * l * l) = mul_assoc 4 x (l * l) ∙ ap (λ (z : ℕ). 4 * z) (sym (mul_assoc x l l)) in
    let c : 5 * R * (l * l) ≡ 5 * l * (R * l) = simp products in
    let d : M * 4 * (R * l) ≡ 4 * (M * (R * l)) = simp products in
    let e : 5 * l * (R * l) ≡ M * 4 * (R * l) = ap (λ (z : ℕ). z * (R * l)) m in
    omega arith

five_quarters_fits : (f : Format) → T (fits f five_quarters)
unfolding fits
five_quarters_fits binary32 = tt
five_quarters_fits binary64 = tt

pub zero_le_plain : (r : Float) → T (plain r) → T (le zero64 r)
zero_le_plain nan p = absurd p
zero_le_plain (inf s) p = absurd p
zero_le_plain (fin true m e) p = absurd p
zero_le_plain (fin false m e) p = le_of_values zero64 (fin false m e) 0 1 (m * up e) (down e) (zero-lt-suc 0) (down_pos e) (refl, refl) (refl, refl) (le_trans (le_of_eq (zero-mul (down e))) zero-le)

bounded_plain : (f : Format) (x r : Float) → T (fits f x) → T (fits f r) → T (plain x) → T (plain r) → 1 ≤ mag f r → 4 * mag f x ≤ 5 * mag f r → Bounded (div f x r)
bounded_plain f x r h k p q o l =
    let L = pow_pos (low f) in
    let u = 2 ^ low f in
    let e = div_at f x r (mag f x) u (mag f r) u L L o (plain_val f x h p) (plain_val f r k q) in
    let C = mul-pos o L in
    let b = quotient (mag f x) u (mag f r) (mag f five_quarters) (mag_val f five_quarters (five_quarters_fits f) tt).1 l in
    let z = round_under_value f (mag f x * u) (mag f r * u) five_quarters (five_quarters_fits f) tt C b in
    subst (λ (w : Float). Bounded w) (sym e)
    (plain_finite (round f false (mag f x * u) (mag f r * u)) z.0, zero_le_plain (round f false (mag f x * u) (mag f r * u)) z.0, round_le f (mag f x * u) (mag f r * u) five_quarters (five_quarters_fits f) tt C b)

-- -0 / r is -0
zero_over : (f : Format) (m : ℕ) (e : ℤ) (r : Float) → T (fits f r) → T (plain r) → 1 ≤ mag f r → T (eqb m 0) → div f (fin true m e) r ≡ fin true 0 (pos 0)
unfolding div
zero_over f m e nan k q o z = absurd q
zero_over f m e (inf t) k q o z = absurd q
zero_over f m e (fin true n d) k q o z = absurd q
zero_over f m e (fin false zero d) k q o z = absurd (lt_irrefl 0 (lt_of_lt_of_le o (le_of_eq (zero_mag (2 ^ low f) (down d) (up d)))))
zero_over f m e (fin false (suc n) d) k q o z =
    ap (λ (b : Bool). cond b (cond (eqb m 0) nan (inf true)) (round f true (m * up e * down d) (suc n * up d * down e))) (eqb-suc-zero n)
    ∙ ap (λ (y : ℕ). round f true (y * up e * down d) (suc n * up d * down e)) (eqb→eq m 0 z)
    ∙ ap (λ (y : ℕ). round f true y (suc n * up d * down e)) (ap (λ (y : ℕ). y * down d) (zero-mul (up e)) ∙ zero-mul (down d))
    ∙ round_zero f true (suc n * up d * down e) (mul-pos (mul-pos (zero-lt-suc n) (up_pos d)) (down_pos e))

bounded_zero : Bounded (fin true 0 (pos 0))
unfolding le
bounded_zero = (tt, tt, tt)

pub mag_pos : (f : Format) (x : Float) → T (fits f x) → T (plain x) → T (lt zero64 x) → 1 ≤ mag f x
unfolding lt
mag_pos f nan h p l = absurd p
mag_pos f (inf s) h p l = absurd p
mag_pos f (fin true m e) h p l = absurd p
mag_pos f (fin false m e) h p l =
    first_pos (mag f (fin false m e)) (down e) (lt_of_lt_of_le (mul-pos (lt_of_le_of_lt zero-le (lt_of_lt_of_le (ltb→lt (0 * 1 * down e) (m * up e * 1) l) (le_of_eq (mul-one (m * up e))))) (pow_pos (low f))) (le_of_eq (mag_val f (fin false m e) h tt).1))

-- ---- the theorem
pub norm_bound : (f : Format) (v : List Float) (x : Float) → T (finite (fold_squares f zero64 v)) → T (lt zero64 (fold_squares f zero64 v)) → Memᴰ x v → T (fits f x) → T (not_neg x) → Bounded (div f x (sqrt_of f (fold_squares f zero64 v)))
norm_bound f v x t l i h n =
    let z : T (fits f zero64) = unfold fits in tt in
    let s = sum_from_lem f zero64 v tt z t in
    let S = fold_squares f zero64 v in
    let F : T (fits f S) = sum_fits f zero64 v z in
    let o : 1 ≤ mag f S = mag_pos f S F s.1 l in
    let q = sum_square f zero64 v x i tt z t in
    let r = sqrt_rooted f S F s.1 o in
    let b = four_five (mag f x) (2 ^ low f) (mag f (sqrt_of f S)) (mag f S) (square_bound f x (mag f S) h q.0 q.1 o) r.1 in
    go x h n (square_finite f x q.0) (sqrt_of f S) (sqrt_fits f S F) r.0 r.2 b
  where
    go : (x : Float) → T (fits f x) → T (not_neg x) → T (finite x) → (R : Float) → T (fits f R) → T (plain R) → 1 ≤ mag f R → 4 * mag f x ≤ 5 * mag f R → Bounded (div f x R)
    go nan h n t R k q o b = absurd t
    go (inf s) h n t R k q o b = absurd t
    go (fin true m e) h n t R k q o b = subst (λ (w : Float). Bounded w) (sym (zero_over f m e R k q o n)) bounded_zero
    go (fin false m e) h n t R k q o b = bounded_plain f (fin false m e) R h k tt q o b
